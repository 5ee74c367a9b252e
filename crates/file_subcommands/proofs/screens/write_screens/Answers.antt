use Rattle.std.proofs.Common.{ap, rules, ◌∙◌}
use Rattle.named_files.proofs.Making.{a_file, made, no_file, of_err, passed_on, read_so, refused, refuses, taken, takes}
use Rattle.file_subcommands.proofs.screens.write_screens.Goals as goal

pub returns-in_err-keep_apart-clause-refused : goal.returns-in_err-keep_apart-clause-refused
returns-in_err-keep_apart-clause-refused g c =
    of_err c.from_residual.result _ _ c.from_residual.ensures.1
    (refuses _ _ _ _ _ c.in_err-keep_apart.ensures.asked.0 (refused _ _ _ _ _ c.in_err-keep_apart.ensures.asked) (search rules))

pub returns-in_err-bytes-clause-refused : goal.returns-in_err-bytes-clause-refused
returns-in_err-bytes-clause-refused g c =
    of_err c.from_residual-in_err-bytes.result _ _ c.from_residual-in_err-bytes.ensures.1
    (refuses _ _ _ _ _ c.in_err-bytes.ensures.asked.0 (takes _ _ _ _ _ _ c.in_ok-keep_apart.ensures.asked (refused _ _ _ _ _ c.in_err-bytes.ensures.asked)) (search rules))

pub returns-in_err-keep_blocks-clause-refused : goal.returns-in_err-keep_blocks-clause-refused
returns-in_err-keep_blocks-clause-refused g c =
    of_err c.from_residual-in_err-keep_blocks.result _ _ c.from_residual-in_err-keep_blocks.ensures.1
    (refuses _ _ _ _ _ c.in_err-keep_blocks.ensures.asked.0 (takes _ _ _ _ _ _ c.in_ok-keep_apart.ensures.asked (takes _ _ _ _ _ _ c.in_ok-bytes.ensures.asked (refused _ _ _ _ _ c.in_err-keep_blocks.ensures.asked))) (search rules))

pub returns-in_err-hold-clause-refused : goal.returns-in_err-hold-clause-refused
returns-in_err-hold-clause-refused g c =
    of_err c.from_residual-in_err-hold.result _ _ c.from_residual-in_err-hold.ensures.1
    (refuses _ _ _ _ _ c.in_err-hold.ensures.asked.0 (takes _ _ _ _ _ _ c.in_ok-keep_apart.ensures.asked (takes _ _ _ _ _ _ c.in_ok-bytes.ensures.asked (takes _ _ _ _ _ _ c.in_ok-keep_blocks.ensures.asked (refused _ _ _ _ _ c.in_err-hold.ensures.asked)))) (search rules))

pub returns-in_err-old-clause-refused : goal.returns-in_err-old-clause-refused
returns-in_err-old-clause-refused g c =
    of_err c.from_residual-in_err-old.result _ _ c.from_residual-in_err-old.ensures.1
    (refuses _ _ _ _ _ c.in_err-old.ensures.asked.0 (takes _ _ _ _ _ _ c.in_ok-keep_apart.ensures.asked (takes _ _ _ _ _ _ c.in_ok-bytes.ensures.asked (takes _ _ _ _ _ _ c.in_ok-keep_blocks.ensures.asked (takes _ _ _ _ _ _ c.in_ok-hold.ensures.asked (refused _ _ _ _ _ c.in_err-old.ensures.asked))))) (search rules))

pub returns-clause-made : goal.returns-clause-made
returns-clause-made g c = record {
  typed = c.as_slice.result.now;
  before = c.in_ok-old.old.items;
  reads = read_so _ _ _ _ _ _ c.write_made.ensures.none c.write_made.ensures.made ∙ search rules;
  ended = c.do_screens-status.result.status;
  makes = made _ _ c.do_screens-status.result.file _ _ _ _ _ _ _ _
      (takes _ _ _ _ _ _ c.in_ok-keep_apart.ensures.asked (takes _ _ _ _ _ _ c.in_ok-bytes.ensures.asked (takes _ _ _ _ _ _ c.in_ok-keep_blocks.ensures.asked (takes _ _ _ _ _ _ c.in_ok-hold.ensures.asked (taken _ _ _ c.in_ok-old.ensures.asked)))))
      (search rules) c.do_screens-status.ensures.file c.write_made.ensures.none c.write_made.ensures.made;
  silent = λ e. ap g.W.Output.sent (c.do_screens-status.ensures.silent (a_file _ _ _ c.do_screens-status.ensures.file e));
  refused = λ fine lt. c.do_screens-status.ensures.refused fine (no_file _ _ _ c.do_screens-status.ensures.file lt);
}

pub returns-clause-passed : goal.returns-clause-passed
returns-clause-passed g c = passed_on g.W.Output.sent _ _ _ _ _ c.do_screens-status.result.file c.do_screens-status.ensures.silent c.do_screens-status.ensures.passed
