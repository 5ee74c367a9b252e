use Rattle.std.proofs.Common.{◌≡◌, ◌≤◌, drop, min}
use Rattle.advice.specs.Large.{are_digits, continued}
use Rattle.advice.proofs.numbers.value_of.Given as goal

abbrev pub invariant-loop-byte : goal.invariant-loop-byte
invariant-loop-byte l =
    (are_digits l.base l.digits ≡ are_digits l.base (drop l.byte-index l.digits))
    × (min 65536 (continued l.base 0 l.digits) ≡ min 65536 (continued l.base l.value (drop l.byte-index l.digits)))
    × (l.value ≤ 65536)
