use Rattle.containers.proofs.Returning.{HasFirst}
use Rattle.containers.proofs.writing.put.Given as goal

abbrev pub invariant-loop-index : goal.invariant-loop-index
invariant-loop-index l = HasFirst l.layout l.index l.screens l.initial.container l.container
