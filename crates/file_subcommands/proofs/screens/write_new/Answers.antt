use Rattle.std.proofs.Common.{ap, arith, rules, ◌∙◌, inl, inr}
use Rattle.named_files.proofs.Making.{a_file, made, no_file, of_err, passed_on, read_so, refused, refuses, taken}
use Rattle.file_subcommands.proofs.screens.write_new.Goals as goal

pub returns-then-count-gt-MOST_BLOCKS-clause-refused : goal.returns-then-count-gt-MOST_BLOCKS-clause-refused
returns-then-count-gt-MOST_BLOCKS-clause-refused g c = inl (search (rules, arith), refuses _ _ _ _ _ c.refuse_use.ensures.asked.0 (refused _ _ _ _ _ c.refuse_use.ensures.asked) (ap (λ f. f.written) c.refuse_use.ensures.files))

pub returns-in_err-keep_absent-clause-refused : goal.returns-in_err-keep_absent-clause-refused
returns-in_err-keep_absent-clause-refused g c =
    of_err c.from_residual.result _ _ c.from_residual.ensures.1
    (inr (refuses _ _ _ _ _ c.in_err-keep_absent.ensures.asked.0 (refused _ _ _ _ _ c.in_err-keep_absent.ensures.asked) (ap (λ f. f.written) c.keep_absent.ensures.files)))

pub returns-clause-made : goal.returns-clause-made
returns-clause-made g c = record {
  ended = c.do_new-status.result.status;
  reads = read_so _ _ _ _ _ _ c.write_made.ensures.none c.write_made.ensures.made ∙ ap (λ f. f.read) c.keep_absent.ensures.files;
  prints = record {
    silent = λ e. ap g.W.Output.sent (c.do_new-status.ensures.silent (a_file _ _ _ c.do_new-status.ensures.file e));
    wanting = λ fine lt. c.do_new-status.ensures.wanting fine (no_file _ _ _ c.do_new-status.ensures.file lt);
  };
  makes = made _ _ c.do_new-status.result.file _ _ _ _ _ _ _ _ (taken _ _ _ c.in_ok-keep_absent.ensures.asked)
      (ap (λ f. f.written) c.keep_absent.ensures.files) c.do_new-status.ensures.file c.write_made.ensures.none c.write_made.ensures.made;
}

pub returns-clause-passed : goal.returns-clause-passed
returns-clause-passed g c = passed_on g.W.Output.sent _ _ _ _ _ c.do_new-status.result.file c.do_new-status.ensures.silent c.do_new-status.ensures.passed
