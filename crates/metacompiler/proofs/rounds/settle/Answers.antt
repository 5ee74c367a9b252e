use Rattle.std.proofs.Common.{rules, ◌<◌, []}
use Rattle.metacompiler.proofs.Making.{read_settled, write_settled}
use Rattle.metacompiler.proofs.Moving.{answer_led}
use Rattle.metacompiler.proofs.rounds.settle.Goals as goal

pub returns-else-left-eq0 : goal.returns-else-left-eq0
returns-else-left-eq0 g c = record {
  told = λ d q. let some : 0 < c.args.left = search rules in
      rw (c.stop_by.ensures) (rw (c.in-Read.is) (read_settled c.args.left _ _ d c.in-Read.block _ _ c.answer_read-act.result (search rules) some (c.answer_read-act.ensures.told d q [])));
  moved = let some : 0 < c.args.left = search rules in
      rw (c.stop_by.ensures) (rw (c.in-Read.is) (answer_led _ _ _ _ [] [] c.args.left c.answer_read-act.result _ c.requires.waits some (c.answer_read-act.ensures.answered [])));
}

pub returns-else-left-eq0-2 : goal.returns-else-left-eq0-2
returns-else-left-eq0-2 g c = record {
  told = λ d q. let some : 0 < c.args.left = search rules in
      rw (c.stop_by-in-Write.ensures) (rw (c.in-Write.is) (write_settled c.args.left _ _ d c.in-Write.block _ _ c.answer_write-act.result (search rules) some (c.answer_write-act.ensures.told d q [])));
  moved = let some : 0 < c.args.left = search rules in
      let waits = c.requires.waits in
      rw (c.stop_by-in-Write.ensures) (rw (c.in-Write.is) (answer_led _ _ _ _ [] [] c.args.left c.answer_write-act.result _ waits some (c.answer_write-act.ensures.answered [])));
}
