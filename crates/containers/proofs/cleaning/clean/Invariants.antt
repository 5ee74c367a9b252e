use Rattle.std.proofs.Common.{◌≡◌, ◌++◌, take, drop, map}
use Rattle.containers.specs.Cleaning.{cleaned_byte}
use Rattle.containers.proofs.cleaning.clean.Given as goal

abbrev pub invariant-loop-byte : goal.invariant-loop-byte
invariant-loop-byte l = l.bytes ≡ map cleaned_byte (take l.byte-index l.initial.bytes) ++ drop l.byte-index l.initial.bytes
