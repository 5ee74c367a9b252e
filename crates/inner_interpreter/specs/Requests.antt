-- Requests of the device that are answered Ok, one after another.
use Rattle.std.specs.Prelude.{ℕ, ◌+◌, ◌≡◌, ◌<◌, ◌≤◌, All, List, [], ◌∷◌, Option, Some, Bool, true, false, IsTrue, IsFalse, length}
use Rattle.memory.specs.Bytes.{cell}
use Rattle.block_buffers.specs.Entries.{limit, holds, AreBuffers, HasNoBlockTwice}
use Rattle.machine_parts.specs.declared.parts.Request.{Request}
use Rattle.machine_parts.specs.declared.parts.Request.TheVariants as request
use Rattle.machine.specs.State.{State}
use Rattle.machine.specs.Tick.{Runs, taken}
use Rattle.machine.specs.Answer.{Reply, ReadOk, WriteOk, asked_by}
use Rattle.inner_interpreter.specs.Moves.{Tick, Answer, after_turn}

-- the machine's buffers are in order: no block is in two of them, none is asked to be read that one of them has, and each
-- that is asked to be written is in one of them; a key is asked if it has room, a line if EXPECT's two cells are
pub record IsOrderly (s : State) : Type 0 where
  pub buffers : AreBuffers s.parts.buffers
  pub once : HasNoBlockTwice s.parts.buffers
  pub absent : (u w : ℕ) → s.wait ≡ Some (request.Read u, w) → IsFalse (holds s.parts.buffers u)
  pub held : (u w : ℕ) → s.wait ≡ Some (request.Write u, w) → IsTrue (holds s.parts.buffers u)
  pub room : (w : ℕ) → s.wait ≡ Some (request.Key, w) → length s.parts.values < 256
  pub two : (n w : ℕ) → s.wait ≡ Some (request.Line n, w) → 2 ≤ length s.parts.values

-- a request of the device waits
abbrev pub asks_device : Option Request → Bool
asks_device (Some (request.Read u)) = true
asks_device (Some (request.Write u)) = true
asks_device _ = false

-- Ok to a request of the device: a read brings the page
abbrev pub ok_to : Option Request → List ℕ → Reply
ok_to (Some (request.Write u)) page = WriteOk
ok_to _ page = ReadOk page

-- the machine ticks, asks its device and is answered Ok, as often as there are pages, of which a read brings its own
unfoldable pub AreAsked : State → List (List ℕ) → Type 0
AreAsked s [] = Unit {0}
AreAsked s (page ∷ pages) =
    let t = after_turn s Tick in
    IsTrue (asks_device (asked_by t.wait)) × AreAsked (after_turn t (Answer (ok_to (asked_by t.wait) page))) pages

-- the bytes of a block
abbrev pub IsPage : List ℕ → Type 0
IsPage page = (length page ≡ 1024) × All (λ b. b < 256) page

-- the token that the next tick takes
abbrev pub token_of : State → ℕ
token_of s = (taken s.parts).0

-- the cell at w is below the machine's buffers
abbrev pub IsBelowBuffers : State → ℕ → Type 0
IsBelowBuffers s w = w + 2 ≤ limit s.parts.buffers

-- if a machine runs on, and the code field of its next token is below the buffers: of the number in that field
abbrev pub OfNextCode : State → (ℕ → Type 0) → Type 0
OfNextCode s Of =
    Runs s → IsOrderly s → length s.parts.memory ≡ 65536 → IsBelowBuffers s (token_of s) → Of (cell s.parts.memory (token_of s))
