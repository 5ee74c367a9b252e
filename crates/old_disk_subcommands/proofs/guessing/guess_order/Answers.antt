use Rattle.std.proofs.Common.{rules}
use Rattle.named_files.proofs.Making.{of_err, refused, refuses, taken}
use Rattle.old_disk_subcommands.proofs.guessing.guess_order.Goals as goal

pub returns-in_err-disk-clause-refused : goal.returns-in_err-disk-clause-refused
returns-in_err-disk-clause-refused g c =
    of_err c.from_residual.result _ _ c.from_residual.ensures.1
    (refuses _ _ _ _ _ c.in_err-disk.ensures.asked.0 (refused _ _ _ _ _ c.in_err-disk.ensures.asked) (search rules))

pub returns-clause-guessed : goal.returns-clause-guessed
returns-clause-guessed g c = record {
  asks = taken _ _ _ c.in_ok-disk.ensures.asked;
  bytes = c.as_slice.result.now;
  reads = search rules;
  unwritten = search rules;
  used = search rules;
  printed = c.do_guess-ended.ensures.printed;
}
