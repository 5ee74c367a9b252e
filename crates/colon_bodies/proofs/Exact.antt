-- A source that is good has no fault.
use Rattle.std.proofs.Common.{◌≡◌, Bool, true, false, ℕ, ◌<◌, ◌≤◌, ◌⊎◌, inl, inr, List, [], ◌∷◌, ◌++◌, Option, Some, None, refl, sym, ap, ◌∙◌, subst, arith, append_assoc, append-nil}
use Rattle.std.specs.Prelude.{◌↔◌}
use Rattle.colon_bodies.specs.declared.words.Half.{Half}
use Rattle.colon_bodies.specs.declared.words.Half.TheVariants.{Free}
use Rattle.colon_bodies.specs.declared.fault.BodyCause.{BodyCause}
use Rattle.colon_bodies.specs.declared.fault.BodyCause.TheVariants as r
use Rattle.colon_bodies.specs.Tokens.{Token, DOES, SEMI, IsShort, AreShort}
use Rattle.colon_bodies.specs.Tree.{Body, Empty, Definition, all_words}
use Rattle.colon_bodies.specs.Rules.{IsKnown, AreKnown, half_after, half_of, suits, has_does}
use Rattle.colon_bodies.specs.Faults.{BeginsShallow, IsFront, body_cause, IsFault, IsGood}
use Rattle.colon_bodies.proofs.Causes.{Applies, rank, FirstCause}
use Rattle.colon_bodies.specs.Open.{Outer, Top, Past, State, At, open_words, read, past, past_after, whole, open_depth}
use Rattle.colon_bodies.proofs.Reading.{accept, accept_words, accept_all, next, finish, finish_is, read_words, whole_words, accept_open, accept_depth}
use Rattle.colon_bodies.proofs.Opened.{Says, says, first_is}
use Rattle.colon_bodies.proofs.Taking.{laid-append, short-append, read_half, read_suits, read_past, read_once}

-- two ways to cut one list
pub two_cuts : {X : Type 0} (xs ys us vs : List X) → xs ++ ys ≡ us ++ vs → ((z : List X) × (us ≡ xs ++ z) × (ys ≡ z ++ vs)) ⊎ ((z : List X) × (xs ≡ us ++ z) × (vs ≡ z ++ ys))
two_cuts (x ∷ xs) ys (u ∷ us) vs e =
    let h : x ≡ u = cc in
    let t : xs ++ ys ≡ us ++ vs = cc in
    elim (two_cuts xs ys us vs t) [
      | inl z ↦ inl (z.0, ap (λ l. u ∷ l) z.1 ∙ ap (λ a. a ∷ (xs ++ z.0)) (sym h), z.2)
      | inr z ↦ inr (z.0, ap (λ l. x ∷ l) z.1 ∙ ap (λ a. a ∷ (us ++ z.0)) h, z.2)
    ]
two_cuts xs ys us vs e = grind arith

nil_front : {X : Type 0} (xs ys : List X) → xs ++ ys ≡ [] → xs ≡ []
nil_front [] ys e = refl
nil_front (x ∷ xs) ys e = cc

pub finish_end : (o : Outer) (t : Body) (h : Half) (u : Definition) (w : Token) (ws : List Token) → finish o t h w ws ≡ Some u → ws ≡ []
finish_end o t h u w ws e = grind arith

-- what accept gives has these words
pub accept_is : (ws : List Token) (o : Outer) (t : Body) (h : Half) (u : Definition) → accept o t h ws ≡ Some u → open_words o t h ++ ws ≡ all_words u ++ SEMI ∷ []
accept_is [] o t h u e = cc
accept_is (w ∷ ws) o t h u e = by (read o t h w) refl (λ p q g f. accept_is ws p q g u f) e
  where
    by : (x : Option State) → read o t h w ≡ x → ((p : Outer) (q : Body) (g : Half) → accept p q g ws ≡ Some u → open_words p q g ++ ws ≡ all_words u ++ SEMI ∷ []) → next x (λ p q g. accept p q g ws) (finish o t h w ws) ≡ Some u → open_words o t h ++ (w ∷ ws) ≡ all_words u ++ SEMI ∷ []
    by None f ih k =
        let i = finish_is o t h u w ws k in
        ap (λ l. l ++ (w ∷ ws)) (whole_words o t h u i.0) ∙ ap (λ y. all_words u ++ (y ∷ ws)) i.1 ∙ ap (λ y. all_words u ++ (SEMI ∷ y)) (finish_end o t h u w ws k)
    by (Some (At p q g)) f ih k =
        sym (append_assoc (open_words o t h) (w ∷ []) ws) ∙ ap (λ l. l ++ ws) (sym (read_words o t h w p q g f)) ∙ ih p q g k

-- a definition and its ; are accepted up to their end alone
pub ends_alone : (d u : Definition) (ws : List Token) → accept Top Empty Free (all_words d ++ (SEMI ∷ ws)) ≡ Some u → ws ≡ []
ends_alone d u ws e = grind (arith, finish_end, accept_words, accept, append_assoc)

-- nothing comes after a whole definition
not_past : (body b : Definition) (before z rest : List Token) → before ≡ (all_words body ++ SEMI ∷ []) ++ z → all_words b ++ SEMI ∷ [] ≡ before ++ rest → all_words body ++ SEMI ∷ [] ≡ before
not_past body b before z rest e h =
    let all : all_words b ++ SEMI ∷ [] ≡ all_words body ++ (SEMI ∷ (z ++ rest)) =
    h ∙ ap (λ l. l ++ rest) e ∙ append_assoc (all_words body ++ SEMI ∷ []) z rest ∙ append_assoc (all_words body) (SEMI ∷ []) (z ++ rest) in
    let n = nil_front z rest (ends_alone body b (z ++ rest) (ap (accept Top Empty Free) (sym all) ∙ accept_all b)) in
    sym (e ∙ ap (λ l. (all_words body ++ SEMI ∷ []) ++ l) n ∙ append-nil (all_words body ++ SEMI ∷ []))

pub short_front : (xs ys : List Token) → AreShort (xs ++ ys) → AreShort xs
short_front [] ys h = tt
short_front (x ∷ xs) ys h = (h.0, short_front xs ys h.1)

pub short_last : (xs : List Token) (w : Token) → AreShort (xs ++ w ∷ []) → IsShort w
short_last [] w h = h.0
short_last (x ∷ xs) w h = short_last xs w h.1

pub known_front : (rt : ℕ → ℕ) (xs ys : List Token) → AreKnown rt (xs ++ ys) → AreKnown rt xs
known_front rt [] ys h = tt
known_front rt (x ∷ xs) ys h = (h.0, known_front rt xs ys h.1)

pub known_last : (rt : ℕ → ℕ) (xs : List Token) (w : Token) → AreKnown rt (xs ++ w ∷ []) → IsKnown rt w
known_last rt [] w h = h.0
known_last rt (x ∷ xs) w h = known_last rt xs w h.1

-- whether a DOES> was, word by word
abbrev pub past_of : Bool → List Token → Bool
past_of b [] = b
past_of b (w ∷ ws) = past_of (past_after b w) ws

past_true : (xs : List Token) → past_of true xs ≡ true
past_true [] = refl
past_true (DOES ∷ xs) = past_true xs
past_true (_ ∷ xs) = past_true xs

past_is : (xs : List Token) → past_of false xs ≡ has_does xs
past_is [] = refl
past_is (DOES ∷ xs) = past_true xs
past_is (_ ∷ xs) = past_is xs

-- within what is accepted each word suits, and no DOES> is a second
pub accept_suits : (before : List Token) (o : Outer) (t : Body) (h : Half) (w : Token) (rest : List Token) (u : Definition) → accept o t h (before ++ (w ∷ rest)) ≡ Some u → (suits (half_of h before) w ≡ true) × (w ≡ DOES → past_of (past o) before ≡ false)
accept_suits [] o t h w rest u e = by (read o t h w) refl e
  where
    ended : (o : Outer) (t : Body) (h : Half) → whole o t h ≡ Some u → suits h SEMI ≡ true
    ended Top t Free f = refl
    ended (Past a) t Free f = refl
    ended _ _ _ f = cc

    by : (x : Option State) → read o t h w ≡ x → next x (λ p q g. accept p q g rest) (finish o t h w rest) ≡ Some u → (suits h w ≡ true) × (w ≡ DOES → past o ≡ false)
    by None f k =
        let i = finish_is o t h u w rest k in
        (ap (suits h) i.1 ∙ ended o t h i.0, λ q. let z : SEMI ≡ DOES = sym i.1 ∙ q in cc)
    by (Some (At p q g)) f k = (read_suits o t h w p q g f, read_once o t h w p q g f)
accept_suits (x ∷ before) o t h w rest u e = by (read o t h x) refl (λ p q g f. accept_suits before p q g w rest u f) e
  where
    no_end : (ws : List Token) (v : Token) → ws ++ (v ∷ rest) ≡ [] → ⊥
    no_end [] v q = cc
    no_end (y ∷ ws) v q = cc

    by : (y : Option State) → read o t h x ≡ y → ((p : Outer) (q : Body) (g : Half) → accept p q g (before ++ (w ∷ rest)) ≡ Some u → (suits (half_of g before) w ≡ true) × (w ≡ DOES → past_of (past p) before ≡ false)) → next y (λ p q g. accept p q g (before ++ (w ∷ rest))) (finish o t h x (before ++ (w ∷ rest))) ≡ Some u → (suits (half_of (half_after h x) before) w ≡ true) × (w ≡ DOES → past_of (past_after (past o) x) before ≡ false)
    by None f ih k = absurd (no_end before w (finish_end o t h u x (before ++ (w ∷ rest)) k))
    by (Some (At p q g)) f ih k =
        let i = ih p q g k in
        (ap (λ y. suits (half_of y before) w) (read_half o t h x p q g f) ∙ i.0, λ d. ap (λ b. past_of b before) (sym (read_past o t h x p q g f)) ∙ i.1 d)

pub well_placed : (rt : ℕ → ℕ) (at limit : ℕ) (before : List Token) (w : Token) → (suits (half_of Free before) w ≡ true) × (w ≡ DOES → past_of false before ≡ false) → BeginsShallow (before ++ w ∷ []) → Applies rt at limit r.Misplaced before w → ⊥
well_placed rt at limit before w s g x7 = grind (arith, past_is)

-- a word within a good source has no cause
pub clean : (rt : ℕ → ℕ) (at limit : ℕ) (source : List Token) (body : Definition) (used : ℕ) (before rest : List Token) (w : Token) (cause : BodyCause) → (g : IsGood rt at limit source body used) → all_words body ++ SEMI ∷ [] ≡ (before ++ w ∷ []) ++ rest → Applies rt at limit cause before w → cause ≡ r.Memory
clean rt at limit source body used before rest w r.Memory g e a = refl
clean rt at limit source body used before rest w r.Misplaced g e a =
    absurd (well_placed rt at limit before w (accept_suits before Top Empty Free w rest body (ap (accept Top Empty Free) (sym (e ∙ append_assoc before (w ∷ []) rest)) ∙ accept_all body)) (record { body = body; more = rest; is = e; shallow = g.shallow }) a)
clean rt at limit source body used before rest w r.Unbalanced g e a =
    absurd (a (record { body = body; more = rest; is = e }))
clean rt at limit source body used before rest w r.Unknown g e a =
    absurd (a (known_last rt before w (known_front rt (before ++ w ∷ []) rest (subst (λ l. AreKnown rt l) e g.known))))
clean rt at limit source body used before rest w r.BadName g e a = grind (arith, short-append, short_last, short_front)
clean rt at limit source body used before rest w r.Full g e a = grind (arith, laid-append)
clean rt at limit source body used before rest w r.EndsInside g e a = absurd a

within : (rt : ℕ → ℕ) (at limit : ℕ) (source : List Token) (body : Definition) (used : ℕ) (before after : List Token) (w : Token) (cause : BodyCause) → IsGood rt at limit source body used → source ≡ before ++ w ∷ after → IsFront rt at limit before → Applies rt at limit cause before w → cause ≡ r.Memory
within rt at limit source body used before after w cause g s f a =
    elim (two_cuts before (w ∷ after) (all_words body ++ SEMI ∷ []) g.after (sym s ∙ g.is)) [
      | inl x ↦ by_rest x.0 x.1 x.2
      | inr x ↦ absurd (f.open_yet body (not_past body f.begins.body before x.0 f.begins.more x.1 f.begins.is))
    ]
  where
    by_rest : (z : List Token) → all_words body ++ SEMI ∷ [] ≡ before ++ z → w ∷ after ≡ z ++ g.after → cause ≡ r.Memory
    by_rest [] e h = absurd (f.open_yet body (e ∙ append-nil before))
    by_rest (v ∷ z) e h =
        let same : w ≡ v = cc in
        clean rt at limit source body used before z w cause g (e ∙ ap (λ u. before ++ u ∷ z) (sym same) ∙ sym (append_assoc before (w ∷ []) z)) a

-- words that a definition goes on after are read to open structures
pub record Reached (front : List Token) : Type 0 where
  pub outer : Outer
  pub body : Body
  pub half : Half
  pub is : front ≡ open_words outer body half

reach : (xs more : List Token) (o : Outer) (t : Body) (h : Half) (d : Definition) → accept o t h (xs ++ more) ≡ Some d → ((u : Definition) → all_words u ++ SEMI ∷ [] ≡ open_words o t h ++ xs → ⊥) → Reached (open_words o t h ++ xs)
reach [] more o t h d e n = record { outer = o; body = t; half = h; is = append-nil (open_words o t h) }
reach (x ∷ xs) more o t h d e n = by (read o t h x) refl (λ p q g a k. reach xs more p q g d a k) e
  where
    by : (y : Option State) → read o t h x ≡ y → ((p : Outer) (q : Body) (g : Half) → accept p q g (xs ++ more) ≡ Some d → ((u : Definition) → all_words u ++ SEMI ∷ [] ≡ open_words p q g ++ xs → ⊥) → Reached (open_words p q g ++ xs)) → next y (λ p q g. accept p q g (xs ++ more)) (finish o t h x (xs ++ more)) ≡ Some d → Reached (open_words o t h ++ (x ∷ xs))
    by None f ih k =
        let i = finish_is o t h d x (xs ++ more) k in
        let z = nil_front xs more (finish_end o t h d x (xs ++ more) k) in
        absurd (n d (ap (λ l. l ++ SEMI ∷ []) (sym (whole_words o t h d i.0)) ∙ ap (λ v. open_words o t h ++ (v ∷ [])) (sym i.1) ∙ ap (λ l. open_words o t h ++ (x ∷ l)) (sym z)))
    by (Some (At p q g)) f ih k =
        let e : open_words p q g ++ xs ≡ open_words o t h ++ (x ∷ xs) = ap (λ l. l ++ xs) (read_words o t h x p q g f) ∙ append_assoc (open_words o t h) (x ∷ []) xs in
        subst (λ l. Reached l) e (ih p q g k (λ u m. n u (m ∙ e)))

pub reached : (rt : ℕ → ℕ) (at limit : ℕ) (front : List Token) → IsFront rt at limit front → Reached front
reached rt at limit front f =
    let b = f.begins in
    reach front b.more Top Empty Free b.body (ap (accept Top Empty Free) (sym b.is) ∙ accept_all b.body) f.open_yet

reached_shallow : (rt : ℕ → ℕ) (at limit : ℕ) (front : List Token) (f : IsFront rt at limit front) (p : Reached front) → open_depth p.outer p.body ≤ 64
reached_shallow rt at limit front f p =
    let b = f.begins in
    let a : accept p.outer p.body p.half b.more ≡ Some b.body =
    sym (accept_open p.outer p.body p.half b.more) ∙ ap (λ l. accept Top Empty Free (l ++ b.more)) (sym p.is) ∙ ap (accept Top Empty Free) (sym b.is) ∙ accept_all b.body in
    let k = accept_depth b.more p.outer p.body p.half b.body a in
    let s = b.shallow in
    omega (arith, k, s)

-- after such words the first cause of a word is what body_cause says
pub cause_says : (rt : ℕ → ℕ) (at limit : ℕ) (before : List Token) (w : Token) → IsFront rt at limit before → Says rt at limit before w (body_cause rt at limit before w)
cause_says rt at limit before w f =
    let p = reached rt at limit before f in
    subst (λ l. Says rt at limit l w (body_cause rt at limit l w)) (sym p.is) (says rt at limit p.outer p.body p.half w (reached_shallow rt at limit before f p))

pub applies : (rt : ℕ → ℕ) (at limit : ℕ) (before : List Token) (w : Token) (c : BodyCause) → IsFront rt at limit before → body_cause rt at limit before w ≡ Some c → (0 < rank c) × FirstCause rt at limit c before w
applies rt at limit before w c f e = subst (λ x. Says rt at limit before w x) e (cause_says rt at limit before w f)

pub first_exactly : (rt : ℕ → ℕ) (at limit : ℕ) (before : List Token) (w : Token) (c : BodyCause) → IsFront rt at limit before → 0 < rank c → FirstCause rt at limit c before w ↔ (body_cause rt at limit before w ≡ Some c)
first_exactly rt at limit before w c f a =
    let p = reached rt at limit before f in (
      λ x. subst (λ l. body_cause rt at limit l w ≡ Some c) (sym p.is) (first_is rt at limit p.outer p.body p.half w c (reached_shallow rt at limit before f p) a (subst (λ l. FirstCause rt at limit c l w) p.is x)),
      λ e. (applies rt at limit before w c f e).1,
    )

pub no_fault : (rt : ℕ → ℕ) (at limit : ℕ) (source : List Token) (body : Definition) (used place : ℕ) (cause : BodyCause) → IsGood rt at limit source body used → IsFault rt at limit source place cause → cause ≡ r.Memory
no_fault rt at limit source body used place r.Memory g f = refl
no_fault rt at limit source body used place r.EndsInside g f =
    let p = f.1 in
    absurd (p.open_yet body (not_past body p.begins.body source g.after p.begins.more g.is p.begins.is))
no_fault rt at limit source body used place c g f =
    within rt at limit source body used f.0 f.2 f.1 c g f.3 f.5 (applies rt at limit f.0 f.1 c f.5 f.6).1.applies
