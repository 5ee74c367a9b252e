use Rattle.std.proofs.Common.{drop, map}
use Rattle.inner_interpreter.specs.Hosts.{HasMade, turn_of}
use Rattle.inner_interpreter.proofs.hosts.make_moves.Given as goal

-- the moves so far were made
abbrev pub invariant-loop-step : goal.invariant-loop-step
invariant-loop-step l = HasMade l.fn.machine (map turn_of l.moves) l.machine (map turn_of (drop l.step-index l.moves)) l.fn.shown.bytes l.shown.bytes l.fn.events.events l.events.events
