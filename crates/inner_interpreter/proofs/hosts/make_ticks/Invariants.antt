use Rattle.std.proofs.Common.{replicate}
use Rattle.inner_interpreter.specs.Moves.{Tick}
use Rattle.inner_interpreter.specs.Hosts.{HasMade}
use Rattle.inner_interpreter.proofs.hosts.make_ticks.Given as goal

-- the ticks so far were made
abbrev pub invariant-loop-left : goal.invariant-loop-left
invariant-loop-left l = HasMade l.fn.machine (replicate l.fn.n Tick) l.machine (replicate l.left Tick) l.fn.shown.bytes l.shown.bytes l.fn.events.events l.events.events

abbrev pub decreases-loop-left : goal.decreases-loop-left
decreases-loop-left l = l.left
