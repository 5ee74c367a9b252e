-- A machine's state, as a record keeps it.
use Rattle.std.specs.Prelude.{◌≡◌, ℕ, ◌≤◌, ◌==◌, nat_le, List, map, take, Bool, true, ◌&&◌, None, slice_range}
use Rattle.std.specs.List.{list_all}
use Rattle.block_buffers.specs.declared.entry.Entry.{Entry}
use Rattle.block_buffers.specs.Entries.{AreBuffers}
use Rattle.memory.specs.Mirrored.{stored}
use Rattle.machine.specs.State.{State}
use Rattle.machine.specs.Registers.{halt_of, marked, wait_of}
use Rattle.forth83_c.specs.declared.record.Forth83.{Forth83}
use Rattle.forth83_c.specs.declared.record.Forth83Aside.{Forth83Aside}
use Rattle.forth83_c.specs.declared.record.Forth83Buffer.{Forth83Buffer}

-- the entry that a buffer's record says
abbrev pub entry_of : Forth83Buffer → Entry
entry_of b = record { slot = b.slot; block = marked b.has_block b.block; updated = b.updated == 1 }

-- the entries that the first buffers' records say, as many as there are buffers
abbrev pub entries_of : List Forth83Buffer → (count : ℕ) → List Entry
entries_of kept count = map entry_of (take count kept)

-- its marks are 0 or 1
abbrev pub has_marks : Forth83Buffer → Bool
has_marks b = nat_le b.has_block 1 && nat_le b.updated 1

-- each number of what is kept aside is such as a machine's is; no block was asked
pub record IsAside (a : Forth83Aside) : Type 0 where
  pub pending : a.has_pending ≤ 1
  pub asks : a.asks ≤ 2
  pub returns : a.returns_top ≤ 256

-- the layout is this one, and each number is such as a machine's is
pub record HasNumbers (k : Forth83) : Type 0 where
  pub abi : k.abi ≡ 3
  pub values : k.values_top ≤ 256
  pub returns : k.returns_top ≤ 256
  pub pending : k.has_pending ≤ 1
  pub asks : k.asks ≤ 4
  pub halts : k.halts ≤ 4
  pub count : k.buffer_count ≤ 16
  pub called : k.is_called ≤ 1
  pub aside : IsAside k.aside

-- the record is a machine's: its numbers are, and its buffers are such as buffers are
pub record IsRecord (k : Forth83) : Type 0 where
  pub numbers : HasNumbers k
  pub marks : list_all has_marks (take k.buffer_count k.buffers) ≡ true
  pub buffers : AreBuffers (entries_of k.buffers k.buffer_count)

-- the record is a machine's, and keeps just this state
pub record IsKept (k : Forth83) (s : State) : Type 0 where
  pub machine : IsRecord k
  pub memory : s.parts.memory ≡ stored k.memory
  pub values : s.parts.values ≡ slice_range k.values k.values_top 256
  pub returns : s.parts.returns ≡ slice_range k.returns k.returns_top 256
  pub ip : s.parts.ip ≡ k.ip
  pub pending : s.parts.pending ≡ marked k.has_pending k.pending
  pub buffers : s.parts.buffers ≡ entries_of k.buffers k.buffer_count
  pub block_count : s.parts.block_count ≡ k.block_count
  pub place : s.parts.place ≡ None
  pub wait : s.wait ≡ wait_of k.asks k.asked k.token
  pub halt : s.halt ≡ halt_of k.halts k.fault

-- a word is called as before, and the same is kept aside
pub record SameCall (old new : Forth83) : Type 0 where
  pub is_called : new.is_called ≡ old.is_called
  pub aside : new.aside ≡ old.aside

-- and no fault was met
pub record SameBeside (old new : Forth83) : Type 0 where
  pub faults : new.faults ≡ old.faults
  pub call : SameCall old new
