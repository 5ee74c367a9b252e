use Rattle.std.proofs.Common.{Ok, Err, refl, subst}
use Rattle.memory.specs.declared.Memory.{Memory}
use Rattle.memory.specs.Mirrored.{stored}
use Rattle.see.specs.Seeing.{IsSeen}
use Rattle.subcommands.proofs.Told.{answered, in_memory, not_read, refused_so, said, seen, seen_none}
use Rattle.subcommands.proofs.see_command.do_see.Goals as goal

pub returns-in-Err-clause-seen : goal.returns-in-Err-clause-seen
returns-in-Err-clause-seen g c = λ fine file is. seen_none _ _ _ _ _ (c.refuse_image.ensures.out_of_memory fine (c.in-Err.ensures.accepted file is))

pub returns-in_default-clause-seen : goal.returns-in_default-clause-seen
returns-in_default-clause-seen g c = λ fine file is. seen_none _ _ _ _ _ (c.print_out_of_memory.ensures.printed fine)

pub returns-in-Ok-see-clause-seen : goal.returns-in-Ok-see-clause-seen
returns-in-Ok-see-clause-seen g c = λ fine file is.
    let m = in_memory c.in-Ok.image file (stored c.in-Ok-with_front.memory.value) c.bytes.result.now (c.in-Ok.ensures.accepted file is) c.bytes.ensures.bytes c.in-Ok-with_front.ensures in
    let is_seen = subst (λ (b : Memory). IsSeen (stored b) c.as_bytes.result.now (Ok c.in-Ok-see.text)) c.deref.ensures c.in-Ok-see.ensures.seen in
    seen _ _ _ _ (Ok c.in-Ok-see.text) _ _ _ m c.as_bytes.ensures.value is_seen
    (said c.in-Ok-see.text _ c.args.name.now _ _ _ c.as_slice.ensures.value (c.print_definition.ensures.printed fine))

pub returns-in-Err-clause-refused : goal.returns-in-Err-clause-refused
returns-in-Err-clause-refused g c = λ fine f is.
    let h = c.in-Err.ensures in
    refused_so (Err c.in-Err.fault) c.args.image.now c.in-Err.fault f _ _ _ refl (answered (Err c.in-Err.fault) c.args.image.now f h.truncated h.trailing h.bad_magic h.bad_version h.bad_buffers h.bad_size is) is (c.refuse_image.ensures.printed fine)

pub returns-in-Ok-see-clause-refused : goal.returns-in-Ok-see-clause-refused
returns-in-Ok-see-clause-refused g c = λ fine f is.
    let h = c.in-Ok.ensures in
    absurd (not_read c.in-Ok.image f (answered (Ok c.in-Ok.image) c.args.image.now f h.truncated h.trailing h.bad_magic h.bad_version h.bad_buffers h.bad_size is))
