-- A source has one first fault.
use Rattle.std.proofs.Common.{◌≡◌, ℕ, ◌⊎◌, inl, inr, List, [], ◌∷◌, ◌++◌, length, Some, refl, sym, ap, ◌∙◌, subst, arith, append_assoc, append-nil}
use Rattle.colon_bodies.specs.declared.words.Half.TheVariants.{Free}
use Rattle.colon_bodies.specs.declared.fault.BodyCause.{BodyCause}
use Rattle.colon_bodies.specs.declared.fault.BodyCause.TheVariants as r
use Rattle.colon_bodies.specs.Tokens.{Token, AreShort}
use Rattle.colon_bodies.specs.Tree.{Empty}
use Rattle.colon_bodies.specs.Rules.{AreKnown}
use Rattle.colon_bodies.specs.Faults.{IsFront, body_cause, IsFault, IsSameFault}
use Rattle.colon_bodies.proofs.Causes.{Applies}
use Rattle.colon_bodies.specs.Open.{Top}
use Rattle.colon_bodies.proofs.Reading.{accept, accept_all}
use Rattle.colon_bodies.proofs.Taking.{laid-append}
use Rattle.colon_bodies.proofs.Exact.{two_cuts, applies, accept_suits, well_placed, short_front, short_last, known_front, known_last}

-- within words with which nothing is wrong, no word has a cause
pub front_clean : (rt : ℕ → ℕ) (at limit : ℕ) (before rest : List Token) (w : Token) (cause : BodyCause) → IsFront rt at limit (before ++ w ∷ rest) → Applies rt at limit cause before w → cause ≡ r.Memory
front_clean rt at limit before rest w r.Memory f a = refl
front_clean rt at limit before rest w r.Misplaced f a =
    let b = f.begins in
    let q : (before ++ w ∷ rest) ++ b.more ≡ (before ++ w ∷ []) ++ (rest ++ b.more) = simp append_assoc in
    let e = b.is ∙ q in
    absurd (well_placed rt at limit before w (accept_suits before Top Empty Free w (rest ++ b.more) b.body (ap (accept Top Empty Free) (sym (e ∙ append_assoc before (w ∷ []) (rest ++ b.more))) ∙ accept_all b.body)) (record { body = b.body; more = rest ++ b.more; is = e; shallow = b.shallow }) a)
front_clean rt at limit before rest w r.Unbalanced f a =
    let b = f.begins in
    let q : (before ++ w ∷ rest) ++ b.more ≡ (before ++ w ∷ []) ++ (rest ++ b.more) = simp append_assoc in
    absurd (a (record { body = b.body; more = rest ++ b.more; is = b.is ∙ q }))
front_clean rt at limit before rest w r.Unknown f a =
    absurd (a (known_last rt before w (known_front rt (before ++ w ∷ []) rest (subst (λ l. AreKnown rt l) (sym (append_assoc before (w ∷ []) rest)) f.known))))
front_clean rt at limit before rest w r.BadName f a =
    absurd (a (short_last before w (short_front (before ++ w ∷ []) rest (subst (λ l. AreShort l) (sym (append_assoc before (w ∷ []) rest)) f.short))))
front_clean rt at limit before rest w r.Full f a = grind (arith, append_assoc, laid-append)
front_clean rt at limit before rest w r.EndsInside f a = absurd a

-- a fault at a word
record AtWord (rt : ℕ → ℕ) (at limit : ℕ) (source : List Token) (place : ℕ) (cause : BodyCause) : Type 0 where
  before : List Token
  word : Token
  after : List Token
  is : source ≡ before ++ word ∷ after
  place_is : place ≡ length before
  front : IsFront rt at limit before
  first : body_cause rt at limit before word ≡ Some cause

abbrev View : (ℕ → ℕ) → ℕ → ℕ → List Token → ℕ → BodyCause → Type 0
View rt at limit source place cause = (cause ≡ r.Memory) ⊎ ((cause ≡ r.EndsInside) × (place ≡ length source) × IsFront rt at limit source) ⊎ AtWord rt at limit source place cause

view : (rt : ℕ → ℕ) (at limit : ℕ) (source : List Token) (place : ℕ) (cause : BodyCause) → IsFault rt at limit source place cause → View rt at limit source place cause
view rt at limit source place cause f = grind arith

at_one_word : (rt : ℕ → ℕ) (at limit : ℕ) (source : List Token) (p q : ℕ) (c d : BodyCause) (f : AtWord rt at limit source p c) (g : AtWord rt at limit source q d) → g.before ≡ f.before → f.word ≡ g.word → IsSameFault p c q d
at_one_word rt at limit source p q c d f g e h =
    let k : Some c ≡ Some d = sym f.first ∙ ap (λ l. body_cause rt at limit l f.word) (sym e) ∙ ap (body_cause rt at limit g.before) h ∙ g.first in
    inr (inr (f.place_is ∙ ap length (sym e) ∙ sym g.place_is, cc))

words_differ : (rt : ℕ → ℕ) (at limit : ℕ) (source : List Token) (p q : ℕ) (c d : BodyCause) (f : AtWord rt at limit source p c) (g : AtWord rt at limit source q d) (z : List Token) → g.before ≡ f.before ++ z → f.word ∷ f.after ≡ z ++ g.word ∷ g.after → IsSameFault p c q d
words_differ rt at limit source p q c d f g [] e h = let x : f.word ≡ g.word = cc in at_one_word rt at limit source p q c d f g (e ∙ append-nil f.before) x
words_differ rt at limit source p q c d f g (v ∷ z) e h =
    let x : f.word ≡ v = cc in
    inl (front_clean rt at limit f.before z f.word c (subst (λ l. IsFront rt at limit l) (e ∙ ap (λ u. f.before ++ u ∷ z) (sym x)) g.front) (applies rt at limit f.before f.word c f.front f.first).1.applies)

turned : (p q : ℕ) (c d : BodyCause) → IsSameFault q d p c → IsSameFault p c q d
turned p q c d x4 = grind arith

by_view : (rt : ℕ → ℕ) (at limit : ℕ) (source : List Token) (p q : ℕ) (c d : BodyCause) → View rt at limit source p c → View rt at limit source q d → IsSameFault p c q d
by_view rt at limit source p q c d (inl x) g = inl x
by_view rt at limit source p q c d f (inl x) = inr (inl x)
by_view rt at limit source p q c d (inr (inl x)) (inr (inl y)) = inr (inr (x.1 ∙ sym y.1, x.0 ∙ sym y.0))
by_view rt at limit source p q c d (inr (inl x)) (inr (inr g)) = inr (inl (front_clean rt at limit g.before g.after g.word d (subst (λ l. IsFront rt at limit l) g.is x.2) (applies rt at limit g.before g.word d g.front g.first).1.applies))
by_view rt at limit source p q c d (inr (inr f)) (inr (inl y)) = inl (front_clean rt at limit f.before f.after f.word c (subst (λ l. IsFront rt at limit l) f.is y.2) (applies rt at limit f.before f.word c f.front f.first).1.applies)
by_view rt at limit source p q c d (inr (inr f)) (inr (inr g)) =
    elim (two_cuts f.before (f.word ∷ f.after) g.before (g.word ∷ g.after) (sym f.is ∙ g.is)) [
      | inl z ↦ words_differ rt at limit source p q c d f g z.0 z.1 z.2
      | inr z ↦ turned p q c d (words_differ rt at limit source q p d c g f z.0 z.1 z.2)
    ]

pub one_fault : (rt : ℕ → ℕ) (at limit : ℕ) (source : List Token) (p q : ℕ) (c d : BodyCause) → IsFault rt at limit source p c → IsFault rt at limit source q d → IsSameFault p c q d
one_fault rt at limit source p q c d f g = by_view rt at limit source p q c d (view rt at limit source p c f) (view rt at limit source q d g)
