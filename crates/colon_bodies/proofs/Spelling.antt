-- Forced names write the same.
use Rattle.std.proofs.Common.{◌≡◌, Bool, ℕ, List, [], ◌∷◌, ◌++◌, refl, sym, ap, ◌∙◌, arith, append_assoc, append-nil}
use Rattle.colon_bodies.specs.Tokens.{Token, NAME}
use Rattle.colon_bodies.specs.Tree.{named, words, all_words, Body, Empty, Definition}
use Rattle.colon_bodies.specs.Code.{size, code, whole_code}
use Rattle.colon_bodies.specs.Plain.{IsPlainBody, IsPlainDefinition, spelled, all_spelled, respelled}
use Rattle.colon_bodies.proofs.Parts.{by_parts}

pub spelled_size : (f : ℕ → Bool) (t : Body) → size (spelled f t) ≡ size t
spelled_size f = by_parts (λ t. size (spelled f t) ≡ size t) (elim [ Empty ↦ λ ih. refl | t ↦ λ ih. grind (arith, ih) ])

pub spelled_code : (rt : ℕ → ℕ) (f : ℕ → Bool) (t : Body) (at : ℕ) → code rt (spelled f t) at ≡ code rt t at
spelled_code rt f = by_parts (λ t. (at : ℕ) → code rt (spelled f t) at ≡ code rt t at) (elim [ Empty ↦ λ ih at. refl | t ↦ λ ih at. grind (arith, spelled_size, ih) ])

pub spelled_thread : (rt : ℕ → ℕ) (f : ℕ → Bool) (d : Definition) (at : ℕ) → whole_code rt (all_spelled f d) at ≡ whole_code rt d at
spelled_thread rt f d at = grind (arith, spelled_code, spelled_size)

respelled-append : (f : ℕ → Bool) (xs ys : List Token) → respelled f (xs ++ ys) ≡ respelled f xs ++ respelled f ys
respelled-append f [] ys = refl
respelled-append f (NAME w ∷ xs) ys = ap (λ l. named (f w) w ++ l) (respelled-append f xs ys) ∙ sym (append_assoc (named (f w) w) (respelled f xs) (respelled f ys))
respelled-append f (x ∷ xs) ys = ap (λ l. x ∷ l) (respelled-append f xs ys)

pub spelled_words : (rt : ℕ → ℕ) (f : ℕ → Bool) (t : Body) → IsPlainBody rt t → words (spelled f t) ≡ respelled f (words t)
spelled_words rt f = by_parts (λ t. IsPlainBody rt t → words (spelled f t) ≡ respelled f (words t)) (elim [ Empty ↦ λ ih h. refl | t ↦ λ ih h. grind (arith, respelled-append, append-nil, ih) ])

pub all_spelled_words : (rt : ℕ → ℕ) (f : ℕ → Bool) (d : Definition) → IsPlainDefinition rt d → all_words (all_spelled f d) ≡ respelled f (all_words d)
all_spelled_words rt f d h = grind (arith, spelled_words, respelled-append)
