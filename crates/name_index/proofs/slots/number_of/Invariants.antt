use Rattle.std.proofs.Common.{◌≡◌, take}
use Rattle.name_index.specs.Slots.{number_of}
use Rattle.name_index.proofs.slots.number_of.Given as goal

abbrev pub invariant-loop-byte : goal.invariant-loop-byte
invariant-loop-byte l = l.number ≡ number_of l.before (take l.byte-index l.bytes)
