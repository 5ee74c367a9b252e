-- Stacks in the cells in which they lie.
use Rattle.std.proofs.Common.{◌≡◌, ℕ, ◌+◌, ◌-◌, ◌<◌, ◌≤◌, List, [], length, take, drop, sym, ap, ◌∙◌, arith}
use Rattle.std.specs.Prelude.{slice_range}
use Rattle.std.proofs.Math.ListN.{drop_of_length-le}
use Rattle.std.proofs.lemmas.List.{length-take}

-- without more cells than there are it is empty
pub lowered_all : (c : List ℕ) (p n : ℕ) → 256 ≤ p + n → slice_range c 256 256 ≡ drop n (slice_range c p 256)
lowered_all c p n h = sym (drop_of_length-le (slice_range c p 256) (omega (arith, h, length-take (256 - p) (drop p c))))
