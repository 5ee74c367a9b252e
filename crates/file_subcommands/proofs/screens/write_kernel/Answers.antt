use Rattle.std.proofs.Common.{ap, ◌∙◌}
use Rattle.named_files.proofs.Making.{a_file, made, no_file, of_err, passed_on, read_so, refused, refuses, taken}
use Rattle.file_subcommands.proofs.screens.write_kernel.Goals as goal

pub returns-in_err-hold-clause-refused : goal.returns-in_err-hold-clause-refused
returns-in_err-hold-clause-refused g c =
    of_err c.from_residual.result _ _ c.from_residual.ensures.1
    (refuses _ _ _ _ _ c.in_err-hold.ensures.asked.0 (refused _ _ _ _ _ c.in_err-hold.ensures.asked) (ap (λ f. f.written) c.hold.ensures.files))

pub returns-clause-made : goal.returns-clause-made
returns-clause-made g c = record {
  ended = c.do_kernel-status.result.status;
  reads = read_so _ _ _ _ _ _ c.write_made.ensures.none c.write_made.ensures.made ∙ ap (λ f. f.read) c.hold.ensures.files;
  prints = record {
    silent = λ e. ap g.W.Output.sent (c.do_kernel-status.ensures.silent (a_file _ _ _ c.do_kernel-status.ensures.file e));
    wanting = λ fine lt. c.do_kernel-status.ensures.wanting fine (no_file _ _ _ c.do_kernel-status.ensures.file lt);
  };
  makes = made _ _ c.do_kernel-status.result.file _ _ _ _ _ _ _ _ (taken _ _ _ c.in_ok-hold.ensures.asked)
      (ap (λ f. f.written) c.hold.ensures.files) c.do_kernel-status.ensures.file c.write_made.ensures.none c.write_made.ensures.made;
}

pub returns-clause-passed : goal.returns-clause-passed
returns-clause-passed g c = passed_on g.W.Output.sent _ _ _ _ _ c.do_kernel-status.result.file c.do_kernel-status.ensures.silent c.do_kernel-status.ensures.passed
