use Rattle.std.proofs.Common.{◌≡◌, ◌-◌, List, ℕ, None, length, refl, ap, sym, subst, take, drop}
use Rattle.memory.specs.Mirrored.{stored}
use Rattle.machine.specs.State.{State}
use Rattle.forth83_c.specs.Driven.{HasStopped, IsDriven, told}
use Rattle.machine.specs.Registers.{state_of}
use Rattle.machine.proofs.Lending.{lent_stays}
use Rattle.forth83_c.proofs.Lending.{driven_lent, driven_stays, stopped_at}
use Rattle.forth83_c.proofs.lent.drive_lent.Goals as goal

pub returns-clause-same : goal.returns-clause-same
returns-clause-same c =
    let from = c.over-machine.ensures in
    c.part-memory.ensures.same c.args.memory.ghost_name
    (lent_stays c.args.memory.ghost_name c.over-machine.result c.drive-stop.new.machine (state_of (stored c.args.memory.now) c.args.rest) from
    (driven_stays _ _ _ _ _ _ _ _ _ _ c.drive-stop.ensures.driven))

pub returns-clause-driven : goal.returns-clause-driven
returns-clause-driven c =
    let from = c.over-machine.ensures in
    let memory : c.drive-stop.new.machine.parts.memory ≡ stored c.part-memory.result.memory.now = ap (λ (s : State). s.parts.memory) (sym c.part-memory.ensures.state) in
    driven_lent c.args.memory.ghost_name c.over-machine.result c.drive-stop.new.machine (state_of (stored c.args.memory.now) c.args.rest) (state_of (stored c.part-memory.result.memory.now) c.part-memory.result.rest) _ _ _ _ _ _ _ _ refl from c.part-memory.ensures.state
    (subst (λ (m : List ℕ). IsDriven c.args.calling c.args.faults c.over-machine.result c.args.typed.now c.args.limit c.drive-stop.result.0.faults c.drive-stop.new.machine (drop c.drive-stop.result.0.read c.args.typed.now) (told c.drive-stop.result.1 m (take c.drive-stop.result.0.shown c.drive-stop.new.out)) c.drive-stop.result.0.left) memory c.drive-stop.ensures.driven)

pub returns-clause-stopped : goal.returns-clause-stopped
returns-clause-stopped c =
    subst (λ (s : State). HasStopped c.args.calling c.drive-stop.result.1 s (drop c.drive-stop.result.0.read c.args.typed.now) c.drive-stop.result.0.left (length c.drive-stop.new.out) (length c.drive-stop.new.out - c.drive-stop.result.0.shown)) (sym c.part-memory.ensures.state)
    (stopped_at c.args.calling c.drive-stop.result.1 None c.drive-stop.new.machine _ _ _ _ c.drive-stop.ensures.stopped)
