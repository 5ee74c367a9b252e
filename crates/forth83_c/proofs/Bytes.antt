-- Bytes of memory, and bytes that are put one after the other.
use Rattle.std.proofs.Common.{◌≡◌, sym, subst, ℕ, ◌+◌, ◌-◌, ◌≤◌, List, length, arith, take, drop, ◌++◌, ap, ◌∙◌, append_assoc}
use Rattle.std.proofs.lemmas.List.{drop-drop}
use Rattle.std.proofs.lemmas.Grind.{common_steps}

-- bytes that were put after the first ones
pub put_behind : (xs bs : List ℕ) (at end : ℕ) → end ≡ at + length bs → at + length bs ≤ length xs
    → take end (take at xs ++ (bs ++ drop end xs)) ≡ take at xs ++ bs
put_behind xs bs at end e fits = grind (arith, common_steps)

pub append_both : (a b c xs ys zs : List ℕ) → b ≡ a ++ xs → c ≡ b ++ ys → xs ++ ys ≡ zs → c ≡ a ++ zs
append_both a b c xs ys zs e f g = f ∙ ap (λ v. v ++ ys) e ∙ append_assoc a xs ys ∙ ap (λ v. a ++ v) g

drop_on : (a b : List ℕ) (m n : ℕ) → m ≤ n → drop m a ≡ drop m b → drop n a ≡ drop n b
drop_on a b m n most e =
    let sum : m + (n - m) ≡ n = omega arith in
    subst (λ k. drop k a ≡ drop k b) sum (sym (drop-drop (n - m) m a) ∙ ap (drop (n - m)) e ∙ drop-drop (n - m) m b)

-- what is beyond the second of two pieces is beyond the first, too
pub beyond_both : (a b c : List ℕ) (m n : ℕ) → m ≤ n → drop m b ≡ drop m a → drop n c ≡ drop n b → drop n c ≡ drop n a
beyond_both a b c m n most e f = f ∙ drop_on b a m n most e
