use Rattle.std.specs.Prelude.{ℕ, Bool, nat_lt, ◌&&◌}

-- one of the addresses from start to end - 1, which are some, is watched
unfoldable pub is_met : ℕ → ℕ → ℕ → Bool
is_met top start end = nat_lt 256 top && (nat_lt start top && nat_lt 256 end)
