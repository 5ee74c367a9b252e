-- a call that was interrupted took nothing
use Rattle.std.specs.Io.KnownBytes.{Keeps}
use Rattle.inner_interpreter.proofs.writing.write_once.Given as goal

abbrev pub invariant-loop : goal.invariant-loop
invariant-loop g l = Keeps (g.W.Write.contents l.fn.writer) (g.W.Write.contents l.writer)
