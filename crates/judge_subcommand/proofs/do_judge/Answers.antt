use Rattle.std.proofs.Common.{Ok, Err, inl, inr, refl}
use Rattle.subcommands.proofs.Told.{answered, not_read, refused_so}
use Rattle.judge_subcommand.proofs.do_judge.Goals as goal

pub returns-in-Err-clause-printed : goal.returns-in-Err-clause-printed
returns-in-Err-clause-printed g c = λ fine file is. inr (_, c.refuse_image.ensures.out_of_memory fine (c.in-Err.ensures.accepted file is))

pub returns-clause-printed : goal.returns-clause-printed
returns-clause-printed g c = λ fine file is. inr (_, c.print_out_of_memory.ensures.printed fine)

pub returns-in-Err-clause-refused : goal.returns-in-Err-clause-refused
returns-in-Err-clause-refused g c = λ fine f is.
    let h = c.in-Err.ensures in
    refused_so (Err c.in-Err.fault) c.args.image.now c.in-Err.fault f _ _ _ refl (answered (Err c.in-Err.fault) c.args.image.now f h.truncated h.trailing h.bad_magic h.bad_version h.bad_buffers h.bad_size is) is (c.refuse_image.ensures.printed fine)

pub returns-clause-refused : goal.returns-clause-refused
returns-clause-refused g c = λ fine f is.
    let h = c.in-Ok.ensures in
    absurd (not_read c.in-Ok.image f (answered (Ok c.in-Ok.image) c.args.image.now f h.truncated h.trailing h.bad_magic h.bad_version h.bad_buffers h.bad_size is))
