use Rattle.std.proofs.Common.{rules, refl}
use Rattle.memory.specs.Mirrored.{stored}
use Rattle.serving.specs.Requests.{wish_of}
use Rattle.machine.specs.Registers.{state_of}
use Rattle.machine.proofs.Lending.{lent_stays}
use Rattle.forth83_c.proofs.Replying.{obeyed_lent, size_few}
use Rattle.forth83_c.proofs.lent.obey_lent.Goals as goal

pub returns-clause-same : goal.returns-clause-same
returns-clause-same c =
    let from = c.over-machine.ensures in
    c.part-memory.ensures.same c.args.memory.ghost_name
    (lent_stays c.args.memory.ghost_name c.over-machine.result c.obey.new.machine (state_of (stored c.args.memory.now) c.args.rest) from c.obey.ensures.stays)

pub returns-clause-replied : goal.returns-clause-replied
returns-clause-replied c =
    let from = c.over-machine.ensures in
    record {
      reply = c.obey.new.replies.taken.bytes;
      obeyed = obeyed_lent c.args.memory.ghost_name (wish_of c.args.command) c.over-machine.result c.obey.new.machine (state_of (stored c.args.memory.now) c.args.rest) (state_of (stored c.part-memory.result.memory.now) c.part-memory.result.rest) _ refl from c.part-memory.ensures.state c.obey.ensures.obeyed;
      put = search rules;
      size_is = c.obey.new.replies.counted;
    }

pub returns-clause-room : goal.returns-clause-room
returns-clause-room c = λ moves. size_few _ _ _ c.obey.new.replies.counted (c.obey.ensures.room moves)
