use Rattle.serving.specs.Requests.{wish_of}
use Rattle.forth83_c.proofs.Replying.{obeyed_in, room_in}
use Rattle.forth83_c.proofs.obeying.obey.Goals as goal

pub returns-clause-stays : goal.returns-clause-stays
returns-clause-stays c =
    (obeyed_in c.obey_in_place.result (wish_of c.args.command) _ _ _ _ _ _ _ _ _ _ c.obey_in_place.ensures.mark c.new-device.ensures c.requires c.obey_in_place.ensures.ok).stays

pub returns-clause-before : goal.returns-clause-before
returns-clause-before c =
    (obeyed_in c.obey_in_place.result (wish_of c.args.command) _ _ _ _ _ _ _ _ _ _ c.obey_in_place.ensures.mark c.new-device.ensures c.requires c.obey_in_place.ensures.ok).room

pub returns-clause-obeyed : goal.returns-clause-obeyed
returns-clause-obeyed c =
    (obeyed_in c.obey_in_place.result (wish_of c.args.command) _ _ _ _ _ _ _ _ _ _ c.obey_in_place.ensures.mark c.new-device.ensures c.requires c.obey_in_place.ensures.ok).obeyed

pub returns-clause-room : goal.returns-clause-room
returns-clause-room c = λ moves. room_in c.obey_in_place.result c.args.replies.now.room.ghost_name c.obey_in_place.new.writer.room.ghost_name c.args.replies.now.before.bytes c.obey_in_place.new.writer.before.bytes c.args.replies.now.taken.bytes c.obey_in_place.new.writer.taken.bytes c.obey_in_place.ensures.mark c.requires (returns-clause-before c) (c.obey_in_place.ensures.room moves)
