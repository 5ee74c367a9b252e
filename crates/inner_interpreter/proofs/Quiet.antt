-- Acts that show nothing and go on.
use Rattle.std.proofs.Common.{rules, ◌≡◌, ℕ, ◌==◌, [], refl, List, Bool, true, false}
use Rattle.machine_parts.specs.Whole.{Whole}
use Rattle.machine_parts.specs.Row.{After}
use Rattle.memory.specs.Bytes.{cell}
use Rattle.machine.specs.declared.act.Act.{Act}
use Rattle.machine.specs.declared.act.Shown.{Shown}
use Rattle.machine.specs.Tick.{ticked, taken, executed, concluded, by_fault, running, is_quiet}
use Rattle.inner_interpreter.specs.Moves.{shown_bytes}

-- a fault is no quiet act
at_fault : (s : Whole) (shown : Shown) (f : ℕ) (b : Bool) → (cell s.memory 40 == 0) ≡ b → is_quiet (by_fault s shown f).1 ≡ false
unfolding by_fault
at_fault s shown f b e = search rules

fault_loud : (s : Whole) (shown : Shown) (f : ℕ) → is_quiet (by_fault s shown f).1 ≡ false
fault_loud s shown f = at_fault s shown f (cell s.memory 40 == 0) refl

-- after a quiet act the machine runs
quiet_runs : (w : ℕ) (a : After) → is_quiet (concluded w a).1 ≡ true → (concluded w a).0 ≡ running (concluded w a).0.parts
unfolding concluded
quiet_runs w a q = search (rules, fault_loud)

pub ticked_runs : (s : Whole) → is_quiet (ticked s).1 ≡ true → (ticked s).0 ≡ running (ticked s).0.parts
unfolding ticked
ticked_runs s q = quiet_runs (taken s).0 (executed (taken s).0 (taken s).1) q

-- a quiet act shows nothing
at_quiet : (m : List ℕ) (act : Act) (shown : Shown) → act.shown ≡ shown → is_quiet act ≡ true → shown_bytes m act.shown ≡ []
unfolding shown_bytes
at_quiet m act shown e q = search rules

pub quiet_shows : (m : List ℕ) (act : Act) → is_quiet act ≡ true → shown_bytes m act.shown ≡ []
quiet_shows m act q = at_quiet m act act.shown refl q
