-- What a reader gave.
use Rattle.std.proofs.Common.{◌≡◌, ℕ, List, [], ◌∷◌, ◌++◌, Option, Some, length, refl, ap, ◌∙◌, arith, append_assoc, ◌+◌}
use Rattle.std.proofs.lemmas.List.{length-append}
use Rattle.inner_interpreter.specs.Reads.{as_given}

as_given-append : (xs ys : List ℕ) → as_given (xs ++ ys) ≡ as_given xs ++ as_given ys
as_given-append [] ys = refl
as_given-append (x ∷ xs) ys = ap (λ v. Some x ∷ v) (as_given-append xs ys)

-- a byte of a line more
pub given_more : (old mid new : List (Option ℕ)) (line line' : List ℕ) (c : ℕ) (o : Option ℕ) → o ≡ Some c → line' ≡ line ++ c ∷ [] → mid ≡ old ++ as_given line → new ≡ mid ++ o ∷ [] → new ≡ old ++ as_given line'
given_more old mid new line line' c o e l x y = grind (arith, append_assoc, as_given-append)

pub longer : (xs ys : List ℕ) (c n : ℕ) → ys ≡ xs ++ c ∷ [] → length xs ≡ n → length ys ≡ n + 1
longer xs ys c n e h = ap length e ∙ length-append xs (c ∷ []) ∙ omega (arith, h)
