-- A definition that was started, and what holds while its body is read.
use Rattle.std.specs.Prelude.{◌≡◌, ◌≤◌, ◌+◌, ℕ, List, length}
use Rattle.memory.specs.Bytes.{byte, cell}
use Rattle.memory.specs.declared.system.TheConstants.{BASE, CONTEXT, STATE}
use Rattle.memory.specs.declared.limit.TheConstants.{GREATEST_LIMIT}
use Rattle.dictionary.proofs.Fronted.{Fronted}
use Rattle.block_buffers.specs.Disks.{Disk}
use Rattle.machine_parts.specs.Whole.{Whole}
use Rattle.colon_bodies.specs.declared.words.Half.{Half}
use Rattle.colon_bodies.specs.Tree.{Body}
use Rattle.colon_bodies.specs.Open.{Outer, open_size}
use Rattle.resident_bodies.specs.Drafts.{Draft}
use Rattle.metacompiler.specs.Loop.{Words}
use Rattle.metacompiler.specs.Rounds.{at}
use Rattle.metacompiler.specs.Orderly.{IsHead, Orderly}
use Rattle.metacompiler.specs.Turning.{Ready, spot, Leads}

-- n is the memory in which the definition is written, m1 the machine's right after `:` and the name
pub record Opened (limit : ℕ) (ws : Words) (a cur ctx most here head pf : ℕ) (n m1 title : List ℕ) : Type 0 where
  pub orderly : Orderly limit ws a cur ctx most here n
  pub few : most ≤ 32767
  pub head_is : IsHead cur ctx head
  pub fronted : Fronted n m1 here head (here + 2)
  pub short : length title ≤ 31
  pub count : byte m1 (here + 4) ≡ 160 + length title
  pub context : cell m1 CONTEXT ≡ cur
  pub compiling : cell m1 STATE ≡ 65535
  pub ten : cell m1 BASE ≡ 10
  pub place : pf ≡ here + (7 + length title)
  pub high : pf ≤ limit
  pub top : limit ≤ GREATEST_LIMIT

-- memories in which o, t and h were written, with these cells on the data stack
pub record Drafts (limit : ℕ) (m1 : List ℕ) (pf : ℕ) (o : Outer) (t : Body) (h : Half) (d below m : List ℕ)
    : Type 0 where
  pub draft : Draft m1 pf o t h m d below
  pub room : pf + open_size o t h ≤ limit

-- some ticks lead from one turn to the next, if memory is of some kind, with these cells on the data stack
pub record Turned (limit w a : ℕ) (I : List ℕ → List ℕ → Type 0) (u : Whole) (f : Disk) (d : List ℕ) (b q more : ℕ)
    : Type 0 where
  pub memory : List ℕ
  pub values : List ℕ
  pub leads : Leads w (spot (at u d a) f b more) (spot (at (record u { memory = memory }) values a) f b more)
  pub ready : Ready limit f (record u { memory = memory }) b q more
  pub inv : I values memory
