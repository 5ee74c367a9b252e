use Rattle.std.proofs.Common.{rules}
use Rattle.named_files.proofs.Making.{of_err, refused, refuses, taken}
use Rattle.advice_subcommand.proofs.advise_case.Goals as goal

pub returns-in_err-text-clause-refused : goal.returns-in_err-text-clause-refused
returns-in_err-text-clause-refused g c =
    of_err c.from_residual.result _ _ c.from_residual.ensures.1
    (refuses _ _ _ _ _ c.in_err-text.ensures.asked.0 (refused _ _ _ _ _ c.in_err-text.ensures.asked) (search rules))

pub returns-clause-advised : goal.returns-clause-advised
returns-clause-advised g c = record {
  asks = taken _ _ _ c.in_ok-text.ensures.asked;
  bytes = c.as_slice.result.now;
  reads = search rules;
  unwritten = search rules;
  used = search rules;
  printed = c.do_advise-ended.ensures.printed;
}
