use Rattle.std.proofs.Common.{ap, rules, ◌∙◌, inr}
use Rattle.named_files.proofs.Making.{a_file, made, no_file, of_err, passed_on, read_so, refused, refuses, taken, takes}
use Rattle.file_subcommands.proofs.disks.import_screens.Goals as goal

pub returns-in_err-keep_absent-clause-refused : goal.returns-in_err-keep_absent-clause-refused
returns-in_err-keep_absent-clause-refused g c =
    of_err c.from_residual-in_err-keep_absent.result _ _ c.from_residual-in_err-keep_absent.ensures.1
    (inr (rw (← c.in_ok-layout.ensures.same, ← c.in_ok-layout.ensures.silent)
    (refuses _ _ _ _ _ c.in_err-keep_absent.ensures.asked.0 (refused _ _ _ _ _ c.in_err-keep_absent.ensures.asked) (search rules))))

pub returns-in_err-bytes-clause-refused : goal.returns-in_err-bytes-clause-refused
returns-in_err-bytes-clause-refused g c =
    of_err c.from_residual-in_err-bytes.result _ _ c.from_residual-in_err-bytes.ensures.1
    (inr (rw (← c.in_ok-layout.ensures.same, ← c.in_ok-layout.ensures.silent)
    (refuses _ _ _ _ _ c.in_err-bytes.ensures.asked.0 (takes _ _ _ _ _ _ c.in_ok-keep_absent.ensures.asked (refused _ _ _ _ _ c.in_err-bytes.ensures.asked)) (search rules))))

pub returns-clause-imported : goal.returns-clause-imported
returns-clause-imported g c = rw (← c.in_ok-layout.ensures.same, ← c.in_ok-layout.ensures.silent) (record {
  layout = c.in_ok-layout.layout;
  is_wanted = c.in_ok-layout.ensures.wanted;
  bytes = c.as_slice.result.now;
  reads = read_so _ _ _ _ _ _ c.write_made.ensures.none c.write_made.ensures.made ∙ search rules;
  ended = c.do_import-status.result.status;
  makes = made _ _ c.do_import-status.result.file _ _ _ _ _ _ _ _
      (takes _ _ _ _ _ _ c.in_ok-keep_absent.ensures.asked (taken _ _ _ c.in_ok-bytes.ensures.asked))
      (search rules) c.do_import-status.ensures.file c.write_made.ensures.none c.write_made.ensures.made;
  silent = λ e. ap g.W.Output.sent (c.do_import-status.ensures.silent (a_file _ _ _ c.do_import-status.ensures.file e));
  refused = λ fine lt. c.do_import-status.ensures.refused fine (no_file _ _ _ c.do_import-status.ensures.file lt);
})

pub returns-clause-passed : goal.returns-clause-passed
returns-clause-passed g c = rw (← c.in_ok-layout.ensures.silent)
    (passed_on g.W.Output.sent _ _ _ _ _ c.do_import-status.result.file c.do_import-status.ensures.silent c.do_import-status.ensures.passed)
