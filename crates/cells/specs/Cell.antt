use Rattle.std.specs.Prelude.{ℕ, ◌+◌, ◌-◌, ◌/◌, ◌%◌, Bool, false, not, ◌&&◌, ◌||◌, ◌≡◌, IsTrue, ℤ, ◌≤ℤ◌, ◌<ℤ◌, pos, negsuc, ◌+ℤ◌, neg_ℤ, int_lt, nat_lt, nat_le, ◌==◌, if◌then◌else◌}
use Rattle.std.specs.Int.{cast_signed, cast_unsigned, int_div_euclid, int_rem_euclid, w16}

-- what a cell keeps of a number: sums and products wrap
abbrev pub wrap : ℕ → ℕ
wrap n = n % 65536

-- the signed view of a cell, and the cell of a signed number
abbrev pub signed : ℕ → ℤ
signed x = cast_signed w16 x

abbrev pub cell_of : ℤ → ℕ
cell_of n = cast_unsigned w16 n

abbrev pub is_negative : ℕ → Bool
is_negative x = nat_le 32768 x

-- x - y, wrapped
abbrev pub difference : ℕ → ℕ → ℕ
difference x y = wrap (x + (65536 - y))

-- true is -1 and false is 0
abbrev pub flag : Bool → ℕ
flag b = if b then 65535 else 0

-- the quotient of n by m, rounded to the floor: Euclid's for a positive m, and for a negative one that of -n by -m
unfoldable pub floor_quotient : ℤ → ℤ → ℤ
floor_quotient n m = if int_lt m (pos 0) then int_div_euclid (neg_ℤ n) (neg_ℤ m) else int_div_euclid n m

-- the remainder, which has the divisor's sign
unfoldable pub floor_remainder : ℤ → ℤ → ℤ
floor_remainder n m = if int_lt m (pos 0) then neg_ℤ (int_rem_euclid (neg_ℤ n) (neg_ℤ m)) else int_rem_euclid n m

abbrev pub is_zero : ℤ → Bool
is_zero (pos n) = n == 0
is_zero (negsuc n) = false

-- z is outside -32,768..32,767
abbrev pub is_outside : ℤ → Bool
is_outside z = int_lt z (negsuc 32767) || int_lt (pos 32767) z

-- m is not 0, and the quotient fits a cell
unfoldable pub can_divide : ℤ → ℤ → Bool
can_divide n m = not (is_zero m) && not (is_outside (floor_quotient n m))

-- the same of an unsigned double by an unsigned cell
unfoldable pub um_can_divide : ℕ → ℕ → Bool
um_can_divide ud u = not (u == 0) && nat_lt (ud / u) 65536

-- the parts of a quotient that fits
abbrev pub IsDivided : ℤ → ℤ → ℤ × ℤ → Type 0
IsDivided n m p = IsTrue (can_divide n m) × (p.0 ≡ floor_remainder n m) × (p.1 ≡ floor_quotient n m)

abbrev pub IsUmDivided : ℕ → ℕ → ℕ × ℕ → Type 0
IsUmDivided ud u p = IsTrue (um_can_divide ud u) × (p.0 ≡ ud % u) × (p.1 ≡ ud / u)

-- a loop's step leaves the place between limit - 1 and limit after, in either direction
unfoldable pub crosses : ℕ → ℕ → ℕ → Bool
crosses index limit step = is_outside (signed (wrap (difference index limit + 32768)) +ℤ signed step)

-- r is between 0 and m, and is not m
abbrev pub IsBetween : ℤ → ℤ → Type 0
IsBetween r (pos m) = (pos 0 ≤ℤ r) × (r <ℤ pos m)
IsBetween r (negsuc m) = (negsuc m <ℤ r) × (r ≤ℤ pos 0)
