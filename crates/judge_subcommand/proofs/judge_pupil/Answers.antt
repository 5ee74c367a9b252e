use Rattle.std.proofs.Common.{rules}
use Rattle.named_files.proofs.Making.{of_err, refused, refuses, taken, takes}
use Rattle.judge_subcommand.proofs.judge_pupil.Goals as goal

pub returns-in_err-image-clause-refused : goal.returns-in_err-image-clause-refused
returns-in_err-image-clause-refused g c =
    of_err c.from_residual.result _ _ c.from_residual.ensures.1
    (refuses _ _ _ _ _ c.in_err-image.ensures.asked.0 (refused _ _ _ _ _ c.in_err-image.ensures.asked) (search rules))

pub returns-in_err-texts-clause-refused : goal.returns-in_err-texts-clause-refused
returns-in_err-texts-clause-refused g c =
    of_err c.from_residual-in_err-texts.result _ _ c.from_residual-in_err-texts.ensures.1
    (refuses _ _ _ _ _ c.in_err-texts.ensures.asked.0 (takes _ _ _ _ _ _ c.in_ok-image.ensures.asked (refused _ _ _ _ _ c.in_err-texts.ensures.asked)) (search rules))

pub returns-in_err-course-clause-refused : goal.returns-in_err-course-clause-refused
returns-in_err-course-clause-refused g c =
    of_err c.from_residual-in_err-course.result _ _ c.from_residual-in_err-course.ensures.1
    (refuses _ _ _ _ _ c.in_err-course.ensures.asked.0
    (takes _ _ _ _ _ _ c.in_ok-image.ensures.asked (takes _ _ _ _ _ _ c.in_ok-texts.ensures.asked (refused _ _ _ _ _ c.in_err-course.ensures.asked))) (search rules))

pub returns-in_err-pupil-clause-refused : goal.returns-in_err-pupil-clause-refused
returns-in_err-pupil-clause-refused g c =
    of_err c.from_residual-in_err-pupil.result _ _ c.from_residual-in_err-pupil.ensures.1
    (refuses _ _ _ _ _ c.in_err-pupil.ensures.asked.0
    (takes _ _ _ _ _ _ c.in_ok-image.ensures.asked (takes _ _ _ _ _ _ c.in_ok-texts.ensures.asked
    (takes _ _ _ _ _ _ c.in_ok-course.ensures.asked (refused _ _ _ _ _ c.in_err-pupil.ensures.asked)))) (search rules))

pub returns-clause-judged : goal.returns-clause-judged
returns-clause-judged g c = record {
  asks = takes _ _ _ _ _ _ c.in_ok-image.ensures.asked (takes _ _ _ _ _ _ c.in_ok-texts.ensures.asked
      (takes _ _ _ _ _ _ c.in_ok-course.ensures.asked (taken _ _ _ c.in_ok-pupil.ensures.asked)));
  bytes = c.as_slice-4.result.now;
  said = c.as_slice.result.now;
  lessons = c.as_slice-2.result.now;
  answers = c.as_slice-3.result.now;
  reads = search rules;
  unwritten = search rules;
  used = search rules;
  printed = c.do_judge-ended.ensures.printed;
  refused = c.do_judge-ended.ensures.refused;
}
