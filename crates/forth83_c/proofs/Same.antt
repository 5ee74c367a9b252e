-- A record keeps one state.
use Rattle.std.proofs.Common.{rules, ◌≡◌, ℕ, ◌≤◌, List, [], Bool, Option, Some, None, length, arith, ap, sym, subst, refl, ◌∙◌}
use Rattle.std.specs.Prelude.{IfSome, IsTrue, slice_range}
use Rattle.memory.specs.Mirrored.{stored}
use Rattle.dictionary.specs.Adding.{is_name}
use Rattle.dictionary.specs.Header.{compilation_address}
use Rattle.dictionary.specs.Search.{Sought, Found, sought}
use Rattle.dictionary.proofs.Unnamed.{name_never}
use Rattle.machine.specs.State.{State}
use Rattle.forth83_c.specs.declared.record.Forth83.{Forth83}
use Rattle.forth83_c.specs.declared.record.Forth83Faults.{Forth83Faults}
use Rattle.forth83_c.specs.Called.{HasFound}
use Rattle.machine.specs.Registers.{marked, wait_of, halt_of}
use Rattle.forth83_c.specs.Kept.{entries_of, IsRecord, IsKept}

-- what is so of what there is
pub some_of : {A : Type 0} (o : Option A) (x : A) (P : A → Type 0) → o ≡ Some x → IfSome o P → P x
some_of {A = A} o x P e h = subst (λ (v : Option A). IfSome v P) e h

pub same_state : (k : Forth83) (s t : State) → IsKept k s → IsKept k t → s ≡ t
same_state k s t h g = grind arith

-- the state that a record says
unfoldable pub kept_state : Forth83 → State
kept_state k = record {
  parts = record {
    memory = stored k.memory;
    values = slice_range k.values k.values_top 256;
    returns = slice_range k.returns k.returns_top 256;
    ip = k.ip;
    pending = marked k.has_pending k.pending;
    buffers = entries_of k.buffers k.buffer_count;
    block_count = k.block_count;
    place = None;
  };
  wait = wait_of k.asks k.asked k.token;
  halt = halt_of k.halts k.fault;
}

pub kept_kept : (k : Forth83) → IsRecord k → IsKept k (kept_state k)
unfolding kept_state
kept_kept k h = search rules

pub some_state : (k : Forth83) → IsRecord k → (s : State) × IsKept k s
some_state k h = (kept_state k, kept_kept k h)

-- its data stack, if that is full or empty
pub full_stack : (k : Forth83) → IsRecord k → 256 ≤ length (slice_range k.values k.values_top 256) → (s : State) × IsKept k s × (256 ≤ length s.parts.values)
unfolding kept_state
full_stack k h l = (kept_state k, kept_kept k h, l)

pub empty_stack : (k : Forth83) → IsRecord k → slice_range k.values k.values_top 256 ≡ [] → (s : State) × IsKept k s × (s.parts.values ≡ [])
unfolding kept_state
empty_stack k h e = (kept_state k, kept_kept k h, e)

-- what a search comes to in its memory
pub sought_there : (k : Forth83) (m name : List ℕ) (r : Sought) → IsRecord k → m ≡ stored k.memory → sought m name ≡ r
    → (s : State) × IsKept k s × (sought s.parts.memory name ≡ r)
unfolding kept_state
sought_there k m name r h e f = (kept_state k, kept_kept k h, ap (λ n. sought n name) (sym e) ∙ f)

pub found_there : (k : Forth83) (m name : List ℕ) (l : ℕ) → IsRecord k → m ≡ stored k.memory → sought m name ≡ Found l
    → HasFound k name (compilation_address m l)
unfolding kept_state
found_there k m name l h e f = search (rules, kept_state, kept_kept)

-- what is found has a name
by_test : (m name : List ℕ) (l : ℕ) (b : Bool) → is_name name ≡ b → sought m name ≡ Found l → IsTrue b
unfolding sought
by_test m name l b e f = search (rules, name_never)

pub is_named_found : (m name : List ℕ) (l : ℕ) → sought m name ≡ Found l → IsTrue (is_name name)
is_named_found m name l f = by_test m name l (is_name name) refl f

-- it keeps the same with other faults
pub kept_faults : (k : Forth83) (f : Forth83Faults) (s : State) → IsKept k s → IsKept (record k { faults = f }) s
kept_faults k f s h = record {
  machine = record { numbers = record { abi = h.machine.numbers.abi; values = h.machine.numbers.values; returns = h.machine.numbers.returns; pending = h.machine.numbers.pending; asks = h.machine.numbers.asks; halts = h.machine.numbers.halts; count = h.machine.numbers.count; called = h.machine.numbers.called; aside = h.machine.numbers.aside }; marks = h.machine.marks; buffers = h.machine.buffers };
  memory = h.memory;
  values = h.values;
  returns = h.returns;
  ip = h.ip;
  pending = h.pending;
  buffers = h.buffers;
  block_count = h.block_count;
  place = h.place;
  wait = h.wait;
  halt = h.halt;
}
