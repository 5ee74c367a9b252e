use Rattle.std.proofs.Common.{◌≡◌, ℕ, zero, suc, ◌+◌, ◌-◌, ◌<◌, ◌≤◌, ◌==◌, List, refl, sym, arith, ◌≢◌, ◌∙◌, Bool, true, false, inl, inr, ap, if◌then◌else◌}
use Rattle.std.proofs.lemmas.Bool.{cases_lt}
use Rattle.std.proofs.lemmas.Bool.Decides.{nat_tests}
use Rattle.cells.specs.Cell.{wrap}
use Rattle.memory.specs.Bytes.{byte}
use Rattle.plain_rows.specs.MemoryRows.{trimmed, IsTrimmed}

pub trimmed_none : (m : List ℕ) (a n : ℕ) → n ≤ 0 → trimmed m a n ≡ n
unfolding trimmed
trimmed_none m a zero h = refl
trimmed_none m a (suc n) h = absurd (omega arith)

pub trimmed_more : (m : List ℕ) (a n : ℕ) → 0 < n → trimmed m a n ≡ (if byte m (wrap (a + (n - 1))) == 32 then trimmed m a (n - 1) else n)
unfolding trimmed
trimmed_more m a zero h = absurd (omega arith)
trimmed_more m a (suc n) h = let e : suc n - 1 ≡ n = omega arith in rw e refl

-- a blank at the end is left out
shorter : (m : List ℕ) (a n k : ℕ) → byte m (wrap (a + n)) ≡ 32 → IsTrimmed m a n k → IsTrimmed m a (suc n) k
shorter m a n k blank t = record {
  most = omega (arith, t.most);
  before = t.before;
  behind = λ i from to. elim (cases_lt i n) [
    | inl lt ↦ t.behind i from lt
    | inr le ↦ let same : i ≡ n = omega arith in ap (λ j. byte m (wrap (a + j))) same ∙ blank
  ];
}

-- another byte at the end stays
whole : (m : List ℕ) (a n : ℕ) → byte m (wrap (a + n)) ≢ 32 → IsTrimmed m a (suc n) (suc n)
whole m a n other = record {
  most = omega arith;
  before = λ some blank. other (let e : suc n - 1 ≡ n = omega arith in ap (λ j. byte m (wrap (a + j))) (sym e) ∙ blank);
  behind = λ i from to. absurd (omega arith);
}

by_byte : (m : List ℕ) (a n k : ℕ) (b : Bool) → (byte m (wrap (a + n)) == 32) ≡ b → IsTrimmed m a n k → IsTrimmed m a (suc n) (if b then k else suc n)
by_byte m a n k true e t = shorter m a n k (grind (arith, nat_tests)) t
by_byte m a n k false e t = whole m a n (λ blank. absurd (grind (arith, nat_tests)))

pub is_trimmed : (m : List ℕ) (a n : ℕ) → IsTrimmed m a n (trimmed m a n)
unfolding trimmed
is_trimmed m a zero = record { most = omega arith; before = λ some. absurd (omega arith); behind = λ i from to. absurd (omega arith) }
is_trimmed m a (suc n) = by_byte m a n (trimmed m a n) (byte m (wrap (a + n)) == 32) refl (is_trimmed m a n)
