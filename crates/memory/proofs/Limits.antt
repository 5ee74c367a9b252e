-- Where the block buffers begin, as numbers.
use Rattle.std.proofs.Common.{◌≡◌, ℕ, ◌+◌, ◌*◌, ◌≤◌, arith, refl}
use Rattle.memory.specs.Bytes.{IsCount, limit_of}

-- the buffers and what is below them are all of memory
pub limit_is : (count : ℕ) → IsCount count → limit_of count + 1024 * count ≡ 65536
unfolding limit_of
limit_is count h = omega (arith, h.0, h.1)

pub limit_least : (count : ℕ) → IsCount count → 49152 ≤ limit_of count
limit_least count h = omega (arith, limit_is count h, h.1)

pub limit_most : (count : ℕ) → IsCount count → limit_of count ≤ 63488
limit_most count h = omega (arith, limit_is count h, h.0)

pub of_two : limit_of 2 ≡ 63488
unfolding limit_of
of_two = refl

pub of_four : limit_of 4 ≡ 61440
unfolding limit_of
of_four = refl

pub of_sixteen : limit_of 16 ≡ 49152
unfolding limit_of
of_sixteen = refl
