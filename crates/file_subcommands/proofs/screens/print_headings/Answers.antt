use Rattle.std.proofs.Common.{rules}
use Rattle.named_files.proofs.Making.{of_err, refused, refuses, taken}
use Rattle.file_subcommands.proofs.screens.print_headings.Goals as goal

pub returns-in_err-bytes-clause-refused : goal.returns-in_err-bytes-clause-refused
returns-in_err-bytes-clause-refused g c =
    of_err c.from_residual.result _ _ c.from_residual.ensures.1
    (refuses _ _ _ _ _ c.in_err-bytes.ensures.asked.0 (refused _ _ _ _ _ c.in_err-bytes.ensures.asked) (search rules))

pub returns-clause-listed : goal.returns-clause-listed
returns-clause-listed g c = record {
  asks = taken _ _ _ c.in_ok-bytes.ensures.asked;
  bytes = c.as_slice.result.now;
  reads = search rules;
  unwritten = search rules;
  listed = c.do_headings.ensures.printed;
}
