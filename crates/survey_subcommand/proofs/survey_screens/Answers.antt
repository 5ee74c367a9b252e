use Rattle.std.proofs.Common.{rules}
use Rattle.named_files.proofs.Making.{of_err, refused, refuses, taken, takes}
use Rattle.survey_subcommand.proofs.survey_screens.Goals as goal

pub returns-in_err-image-clause-refused : goal.returns-in_err-image-clause-refused
returns-in_err-image-clause-refused g c =
    of_err c.from_residual.result _ _ c.from_residual.ensures.1
    (refuses _ _ _ _ _ c.in_err-image.ensures.asked.0 (refused _ _ _ _ _ c.in_err-image.ensures.asked) (search rules))

pub returns-in_err-keep_blocks-clause-refused : goal.returns-in_err-keep_blocks-clause-refused
returns-in_err-keep_blocks-clause-refused g c =
    of_err c.from_residual-in_err-keep_blocks.result _ _ c.from_residual-in_err-keep_blocks.ensures.1
    (refuses _ _ _ _ _ c.in_err-keep_blocks.ensures.asked.0 (takes _ _ _ _ _ _ c.in_ok-image.ensures.asked (refused _ _ _ _ _ c.in_err-keep_blocks.ensures.asked)) (search rules))

pub returns-in_err-blocks-clause-refused : goal.returns-in_err-blocks-clause-refused
returns-in_err-blocks-clause-refused g c =
    of_err c.from_residual-in_err-blocks.result _ _ c.from_residual-in_err-blocks.ensures.1
    (refuses _ _ _ _ _ c.in_err-blocks.ensures.asked.0
    (takes _ _ _ _ _ _ c.in_ok-image.ensures.asked (takes _ _ _ _ _ _ c.in_ok-keep_blocks.ensures.asked (refused _ _ _ _ _ c.in_err-blocks.ensures.asked))) (search rules))

pub returns-clause-surveyed : goal.returns-clause-surveyed
returns-clause-surveyed g c = record {
  asks = takes _ _ _ _ _ _ c.in_ok-image.ensures.asked (takes _ _ _ _ _ _ c.in_ok-keep_blocks.ensures.asked (taken _ _ _ c.in_ok-blocks.ensures.asked));
  bytes = c.as_slice.result.now;
  screens = c.as_slice-2.result.now;
  reads = search rules;
  unwritten = search rules;
  used = search rules;
  printed = c.do_survey-ended.ensures.printed;
  refused = c.do_survey-ended.ensures.refused;
}
