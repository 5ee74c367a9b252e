use Rattle.std.specs.Prelude.{ℕ, zero, suc, List, [], ◌∷◌, ◌==◌, if◌then◌else◌, Bool, nat_lt, length, ◌++◌, ◌≡◌, All, IsTrue, IsFalse}
use Rattle.memory.specs.Bytes.{cell}

-- the first n link fields reached from l on: each holds the address of the next, and 0 ends the chain
unfoldable pub chain : List ℕ → ℕ → ℕ → List ℕ
chain m zero l = []
chain m (suc n) l = if l == 0 then [] else l ∷ chain m n (cell m l)

-- the chain has more than n members
unfoldable pub is_longer : List ℕ → ℕ → ℕ → Bool
is_longer m n l = nat_lt n (length (chain m (suc n) l))

-- in a chain's list of members l is the newest that passes the test: it does, and none before it does
pub record IsNewest (test : ℕ → Bool) (ls : List ℕ) (l : ℕ) : Type 0 where
  pub newer : List ℕ
  pub older : List ℕ
  pub stands : ls ≡ newer ++ l ∷ older
  pub passes : IsTrue (test l)
  pub none_newer : All (λ k. IsFalse (test k)) newer
