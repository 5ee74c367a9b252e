use Rattle.std.specs.Prelude.{ℕ, ◌+◌, ◌<◌, ◌≡◌, ◌≢◌, List, Bool, true, false, nat_le, nat_lt, ◌&&◌}
use Rattle.cells.specs.Cell.{wrap}
use Rattle.memory.specs.Bytes.{byte}

-- Which addresses the table rests on, and memories that are the same there.

-- the dictionary below top
unfoldable pub is_watched : ℕ → ℕ → Bool
is_watched top a = nat_le 256 a && nat_lt a top

-- two memories have the same bytes there
abbrev pub Agree : ℕ → List ℕ → List ℕ → Type 0
Agree top m other = (a : ℕ) → is_watched top a ≡ true → byte other a ≡ byte m a

-- two memories have the same bytes below an address
abbrev pub AgreeBelow : ℕ → List ℕ → List ℕ → Type 0
AgreeBelow end m other = (a : ℕ) → a < end → byte other a ≡ byte m a

-- a is none of the n addresses from at on
abbrev pub IsBeside : ℕ → ℕ → ℕ → Type 0
IsBeside at n a = (i : ℕ) → i < n → wrap (at + i) ≢ a

-- none of them is watched
abbrev pub IsUnwatched : ℕ → ℕ → ℕ → Type 0
IsUnwatched top at n = (i : ℕ) → i < n → is_watched top (wrap (at + i)) ≡ false

-- two memories have the same bytes but at the n addresses from at on
abbrev pub AgreeBeside : ℕ → ℕ → List ℕ → List ℕ → Type 0
AgreeBeside at n m other = (a : ℕ) → IsBeside at n a → byte other a ≡ byte m a
