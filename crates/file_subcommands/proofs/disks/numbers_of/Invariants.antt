use Rattle.std.proofs.Common.{◌≡◌, map}
use Rattle.std.specs.Str.Parse.{digits_value, without_leading_plus}
use Rattle.file_subcommands.proofs.disks.numbers_of.Given as goal

-- the numbers of the parts so far
abbrev pub invariant-loop-number : goal.invariant-loop-number
invariant-loop-number l = l.numbers.items ≡ map (λ part. digits_value 10 (without_leading_plus part)) (map (λ part. part.now) l.yielded)
