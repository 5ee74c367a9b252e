-- A word that a host calls: where the machine was is kept aside, and comes back afterwards.
use Rattle.std.specs.Prelude.{◌≡◌, ◌≢◌, ◌⊎◌, ◌<◌, ◌==◌, ℕ, List, [], ◌++◌, length, take, drop, Option, None, Some, if◌then◌else◌, slice_range}
use Rattle.machine_parts.specs.declared.parts.Request.{Request}
use Rattle.machine_parts.specs.declared.parts.Request.TheVariants.{Line}
use Rattle.machine.specs.Answer.{asked_by}
use Rattle.machine.specs.Entering.{entered}
use Rattle.machine.specs.State.{State}
use Rattle.forth83_c.specs.declared.record.Forth83.{Forth83}
use Rattle.forth83_c.specs.declared.status.Status.{Status}
use Rattle.forth83_c.specs.declared.status.Status.TheVariants as status
use Rattle.forth83_c.specs.Called.{code_of}
use Rattle.machine.specs.Registers.{marked, wait_of}
use Rattle.forth83_c.specs.Kept.{IsKept, IsRecord}

-- what is kept aside: the place in the thread, the request, the cells that it needs, and the return stack
pub record Aside : Type 0 where
  pub ip : ℕ
  pub pending : Option ℕ
  pub wait : Option (Request × ℕ)
  pub line : List ℕ
  pub returns : List ℕ

-- a line needs the two cells on top of the data stack
abbrev pub line_cells : Option Request → ℕ
line_cells (Some (Line n)) = 2
line_cells _ = 0

-- the same by the number of what is asked
abbrev pub needs : (asks : ℕ) → ℕ
needs asks = if asks == 2 then 2 else 0

abbrev pub aside_of : State → Aside
aside_of s = record {
  ip = s.parts.ip;
  pending = s.parts.pending;
  wait = s.wait;
  line = take (line_cells (asked_by s.wait)) s.parts.values;
  returns = s.parts.returns;
}

-- a word is called: it finds the data stack without these cells, and nothing else of what was
abbrev pub called : State → (word : ℕ) → State
called s word = record {
  parts = entered (record s.parts { values = drop (line_cells (asked_by s.wait)) s.parts.values }) word;
  wait = None;
  halt = s.halt;
}

-- what was kept aside comes back, over what is on the data stack then; the request that is open is given up, with its cells
abbrev pub resumed : State → Aside → State
resumed s a = record {
  parts = record s.parts { values = a.line ++ drop (line_cells (asked_by s.wait)) s.parts.values; returns = a.returns; ip = a.ip; pending = a.pending };
  wait = a.wait;
  halt = s.halt;
}

-- the record keeps this aside
pub record KeepsAside (k : Forth83) (a : Aside) : Type 0 where
  pub is_called : k.is_called ≡ 1
  pub ip : a.ip ≡ k.aside.ip
  pub pending : a.pending ≡ marked k.aside.has_pending k.aside.pending
  pub wait : a.wait ≡ wait_of k.aside.asks k.aside.asked k.aside.token
  pub line : a.line ≡ (if k.aside.asks == 2 then k.aside.line else [])
  pub returns : a.returns ≡ slice_range k.aside.returns k.aside.returns_top 256

-- the machine that the record kept was called with this word, and where it was is kept aside
pub record HasCalled (old new : Forth83) (word : ℕ) : Type 0 where
  pub before : State
  pub was_kept : IsKept old before
  pub is_kept : IsKept new (called before word)
  pub aside : KeepsAside new (aside_of before)
  pub faults : new.faults ≡ old.faults

-- the machine that the record kept is where it was before the call
pub record HasResumed (old new : Forth83) : Type 0 where
  pub before : State
  pub aside : Aside
  pub was_kept : IsKept old before
  pub was_aside : KeepsAside old aside
  pub is_kept : IsKept new (resumed before aside)
  pub no_call : new.is_called ≡ 0
  pub faults : new.faults ≡ old.faults

-- why no word is called: the machine is halted; else a block is asked, or a word is called already; else a line is asked without its
-- two cells
abbrev pub WhyNotCalled : Forth83 → Status → Type 0
WhyNotCalled k status.Done = IsRecord k
WhyNotCalled k status.NoMachine = ¬ IsRecord k
WhyNotCalled k status.Halted = IsRecord k × (k.halts ≢ 0)
WhyNotCalled k status.Waiting = IsRecord k × (k.halts ≡ 0) × ((2 < k.asks) ⊎ (k.is_called ≢ 0))
WhyNotCalled k status.Stack =
    IsRecord k × (k.halts ≡ 0) × (k.is_called ≡ 0) × (k.asks ≡ 2) × (length (slice_range k.values k.values_top 256) < 2)
WhyNotCalled k _ = ⊥

-- why nothing is resumed: no word is called; else the machine is halted; else the data stack has no room for a line's cells
abbrev pub WhyNotResumed : Forth83 → Status → Type 0
WhyNotResumed k status.Done = IsRecord k
WhyNotResumed k status.NoMachine = ¬ IsRecord k
WhyNotResumed k status.NotAsked = IsRecord k × (k.is_called ≡ 0)
WhyNotResumed k status.Halted = IsRecord k × (k.is_called ≢ 0) × (k.halts ≢ 0)
WhyNotResumed k status.Stack =
    IsRecord k × (k.is_called ≢ 0) × (k.halts ≡ 0) × (k.aside.asks ≡ 2) × (254 < length (drop (needs k.asks) (slice_range k.values k.values_top 256)))
WhyNotResumed k _ = ⊥

-- the same by the status' number
abbrev pub ByCode : (Forth83 → Status → Type 0) → Forth83 → (code : ℕ) → Type 0
ByCode Why k code = (status : Status) × (code ≡ code_of status) × Why k status
