use Rattle.std.proofs.Common.{Ok, Err, inr, refl}
use Rattle.subcommands.proofs.Told.{answered, not_read, refused_so}
use Rattle.subcommands.proofs.commands.do_view.Goals as goal

pub returns-in-Err-clause-refused : goal.returns-in-Err-clause-refused
returns-in-Err-clause-refused g c = λ fine f is.
    let h = c.in-Err.ensures in
    refused_so (Err c.in-Err.fault) c.args.image.now c.in-Err.fault f _ _ _ refl (answered (Err c.in-Err.fault) c.args.image.now f h.truncated h.trailing h.bad_magic h.bad_version h.bad_buffers h.bad_size is) is (c.refuse_image.ensures.printed fine)

pub returns-in-Ok-view-clause-refused : goal.returns-in-Ok-view-clause-refused
returns-in-Ok-view-clause-refused g c = λ fine f is.
    let h = c.in-Ok.ensures in
    absurd (not_read c.in-Ok.image f (answered (Ok c.in-Ok.image) c.args.image.now f h.truncated h.trailing h.bad_magic h.bad_version h.bad_buffers h.bad_size is))

pub returns-in-Err-clause-viewed : goal.returns-in-Err-clause-viewed
returns-in-Err-clause-viewed g c = λ fine file f. inr (c.refuse_image.ensures.out_of_memory fine (c.in-Err.ensures.accepted file f))
