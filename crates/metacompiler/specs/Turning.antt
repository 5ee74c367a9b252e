-- A machine at a turn of INTERPRET's loop, with the screens that are still to come.
use Rattle.std.specs.Prelude.{◌≡◌, ◌≢◌, ◌≤◌, ◌<◌, ◌+◌, ◌/◌, ◌++◌, ◌∷◌, [], ℕ, suc, List, false, length, take, drop, ◌==◌}
use Rattle.memory.specs.Bytes.{byte, cell, limit_of}
use Rattle.memory.specs.declared.system.TheConstants.{BLK, TO_IN}
use Rattle.block_buffers.specs.Disks.{Disk, next_fails, block_at}
use Rattle.block_buffers.specs.Entries.{holds, has_updated, AreBuffers}
use Rattle.machine_parts.specs.Whole.{Whole}
use Rattle.source_words.specs.declared.modes.Mode.{Mode}
use Rattle.source_words.specs.Words.{SourceWord, words_at, after_words, words_of_screens}
use Rattle.metacompiler.specs.Loop.{Words}
use Rattle.source_words.specs.Modes.{begins_comment}
use Rattle.metacompiler.specs.ScreenStream.{Reading, next, name}
use Rattle.metacompiler.specs.Rounds.{rounds, then_screens, at}
use Rattle.metacompiler.specs.Seen.{Sees}

-- the stream moved, and maybe another block was brought: all else below the limit is as it was
pub record MovesStream (limit : ℕ) (m m' : List ℕ) : Type 0 where
  pub all : length m' ≡ 65536
  pub same : (i : ℕ) → i < limit → i / 4 ≢ 5 → byte m' i ≡ byte m i

-- the stream is the same, from p on, and so are the buffers, whatever else was written
pub record KeepsStream (limit : ℕ) (m m' : List ℕ) (p : ℕ) : Type 0 where
  pub all : length m' ≡ 65536
  pub blk : cell m' BLK ≡ cell m BLK
  pub place : cell m' TO_IN ≡ p
  pub within : p ≤ 1024
  pub above : (i : ℕ) → limit ≤ i → i < 65536 → byte m' i ≡ byte m i

-- a device on which no coming call fails
pub record IsReliable (f : Disk) : Type 0 where
  pub never_fails : (i : ℕ) → next_fails (drop i f.coming) ≡ false
  pub pages : (j : ℕ) → j < length f.blocks → length (block_at f.blocks j) ≡ 1024

-- screen b of the device is read from p on, and so many screens follow it that no buffer has
pub record Ready (limit : ℕ) (f : Disk) (u : Whole) (b p more : ℕ) : Type 0 where
  pub reading : Reading u b p (block_at f.blocks b)
  pub returns : u.returns ≡ 0 ∷ []
  pub buffers : AreBuffers u.buffers
  pub limit_is : limit_of (length u.buffers) ≡ limit
  pub clean : has_updated u.buffers ≡ false
  pub fresh : (j : ℕ) → b < j → holds u.buffers j ≡ false
  pub count : u.block_count ≡ length f.blocks
  pub room : b + more < length f.blocks

-- the words from there on
abbrev pub words_left : Mode → List (List ℕ) → (b p more : ℕ) → List SourceWord
words_left m blocks b p more =
    let ws = words_at m b p (block_at blocks b) in
    ws ++ words_of_screens (after_words m ws) (b + 1) (take more (drop (b + 1) blocks))

-- Memories of some kind, in which the machine finds what the search in a vocabulary finds in n, wherever it reads.
pub record Holds (limit : ℕ) (ws : Words) (a here : ℕ) (n : List ℕ) (voc : ℕ) (I : List ℕ → Type 0) : Type 0 where
  pub keep : (m m' : List ℕ) → MovesStream limit m m' → I m → I m'
  pub sees : (m : List ℕ) → I m → Sees limit ws a here n voc m

-- parts and device, on screen b, which so many follow
pub record Spot : Type 0 where
  pub parts : Whole
  pub disk : Disk
  pub screen : ℕ
  pub more : ℕ

abbrev pub spot : Whole → Disk → (b more : ℕ) → Spot
spot u f b more = record { parts = u; disk = f; screen = b; more = more }

-- so many ticks lead from one to the other, whatever comes then, if one tick more is left at least
pub record Leads (w : ℕ) (s t : Spot) : Type 0 where
  pub ticks : ℕ
  pub is : (k : ℕ) →
      then_screens w s.more (s.screen + 1) (rounds (ticks + suc k) s.parts s.disk)
      ≡ then_screens w t.more (t.screen + 1) (rounds (suc k) t.parts t.disk)

-- the machine comes to the next word, after comments and the ends of screens
pub record Met (limit w a : ℕ) (I : List ℕ → Type 0) (mode : Mode) (u : Whole) (f : Disk) (d : List ℕ) (b more : ℕ)
    (left : List SourceWord) : Type 0 where
  pub parts : Whole
  pub disk : Disk
  pub screen : ℕ
  pub place : ℕ
  pub others : ℕ
  pub leads : Leads w (spot (at u d a) f b more) (spot (at parts d a) disk screen others)
  pub ready : Ready limit disk parts screen place others
  pub reliable : IsReliable disk
  pub blocks : disk.blocks ≡ f.blocks
  pub inv : I parts.memory
  pub some : ((next (block_at disk.blocks screen) place).len == 0) ≡ false
  pub word : begins_comment (name (block_at disk.blocks screen) place) ≡ false
  pub words : words_left mode disk.blocks screen place others ≡ left
