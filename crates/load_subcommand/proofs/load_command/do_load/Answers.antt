use Rattle.std.proofs.Common.{Ok, Err, inl}
use Rattle.metacompiler.specs.Moved.{word_of}
use Rattle.metacompiler.specs.declared.load.LoadFault.TheVariants.{OutOfMemory}
use Rattle.load_subcommand.proofs.Loading.{by_value, loaded_so, none_read, none_unread}
use Rattle.load_subcommand.proofs.load_command.do_load.Goals as goal

pub returns-in-Err-clause-loaded : goal.returns-in-Err-clause-loaded
returns-in-Err-clause-loaded g c = λ old is d e. record {
  answer = Err OutOfMemory;
  is_loaded = inl e;
  ends = λ fine. (c.refuse_image.ensures.file, c.refuse_image.ensures.out_of_memory fine (c.in-Err.ensures.accepted old is));
}

pub returns-in-Err-clause-moved : goal.returns-in-Err-clause-moved
returns-in-Err-clause-moved g c = λ old is. record {
  answer = Err OutOfMemory;
  unread = none_unread (word_of old c.args.from c.args.to) _;
  read = none_read (word_of old c.args.from c.args.to) _ _ _ _ _ _;
  ends = λ fine. (c.refuse_image.ensures.file, c.refuse_image.ensures.out_of_memory fine (c.in-Err.ensures.accepted old is));
}

pub returns-in-Ok-load_by_machine-clause-loaded : goal.returns-in-Ok-load_by_machine-clause-loaded
returns-in-Ok-load_by_machine-clause-loaded g c = λ old is d e.
    loaded_so c.in-Ok.image old d c.args.from c.args.to c.args.limit (Ok c.in-Ok-load_by_machine.image) _ c.end_with_made.result _ _ _ (c.in-Ok.ensures.accepted old is)
    (c.in-Ok-load_by_machine.ensures.told d e) (λ fine. by_value _ _ (c.end_with_made.ensures.told fine) (c.end_with_made.ensures.wanting fine))

pub returns-clause-loaded : goal.returns-clause-loaded
returns-clause-loaded g c = λ old is d e.
    loaded_so c.in-Ok.image old d c.args.from c.args.to c.args.limit (Err c.in-Err-load_by_machine.why) _ c.refuse_load.result _ _ _ (c.in-Ok.ensures.accepted old is)
    (c.in-Err-load_by_machine.ensures.told d e) (λ fine. (c.refuse_load.ensures.file, c.refuse_load.ensures.printed fine))
