-- The first cause of a word is what body_cause says.
use Rattle.std.proofs.Common.{◌≡◌, Bool, true, false, not, ◌&&◌, if◌then◌else◌, nat_lt, ℕ, ◌+◌, ◌<◌, ◌≤◌, ◌⊎◌, inr, List, [], ◌∷◌, ◌++◌, length, Option, Some, None, refl, sym, ap, ◌∙◌, subst, arith, append-nil}
use Rattle.std.specs.Prelude.{is_none}
use Rattle.std.proofs.lemmas.Bool.{ltb-true, ltb-false}
use Rattle.colon_bodies.specs.declared.words.Half.{Half}
use Rattle.colon_bodies.specs.declared.words.Half.TheVariants.{Free}
use Rattle.colon_bodies.specs.declared.fault.BodyCause.{BodyCause}
use Rattle.colon_bodies.specs.declared.fault.BodyCause.TheVariants as r
use Rattle.colon_bodies.specs.Tokens.{Token, IF, ELSE, BEGIN, WHILE, DO, DOES, SEMI, control_written, laid, is_long, IsShort}
use Rattle.colon_bodies.specs.Tree.{Body, Empty, Definition, words}
use Rattle.colon_bodies.specs.Rules.{IsKnown, is_missing, half_of, suits, has_does, opens, opened}
use Rattle.colon_bodies.specs.Faults.{is_deep, body_cause}
use Rattle.colon_bodies.specs.Open.{Outer, Top, Past, InIf, InElse, InBegin, InWhile, InDo, State, At, outer_words, open_words, read, whole, past, frames, open_depth}
use Rattle.colon_bodies.specs.Draft.{opener}
use Rattle.colon_bodies.proofs.Parts.{by_parts, by_frames}
use Rattle.colon_bodies.proofs.Causes.{Applies, rank, FirstCause, ranked, same_cause}
use Rattle.colon_bodies.proofs.Reading.{whole_words, whole_depth, too_deep}
use Rattle.colon_bodies.proofs.Taking.{half-open, does-open, goes_on, read_shallow, misplaced, unsuited, second, unbalanced, Placed, placed, unknown, bad_name, full, before_full, semi_free, closed_is}

-- the words that began the open structures, or their last parts
abbrev pub openings : Outer → List Token
openings Top = []
openings (Past t) = []
openings (InIf o t) = IF ∷ openings o
openings (InElse o t a) = ELSE ∷ openings o
openings (InBegin o t) = BEGIN ∷ openings o
openings (InWhile o t a) = WHILE ∷ openings o
openings (InDo o t) = DO ∷ openings o

opened-append : (os : Option (List Token)) (xs ys : List Token) → opened os (xs ++ ys) ≡ opened (opened os xs) ys
opened-append os [] ys = refl
opened-append os (x ∷ xs) ys = opened-append (opens os x) xs ys

opened-words : (t : Body) (os : List Token) → opened (Some os) (words t) ≡ Some os
opened-words = by_parts (λ t. (os : List Token) → opened (Some os) (words t) ≡ Some os) (elim [ Empty ↦ λ ih os. refl | t ↦ λ ih os. grind (arith, opened-append, ih) ])

opened-outer : (o : Outer) → opened (Some []) (outer_words o) ≡ Some (openings o)
opened-outer = by_frames (λ o. opened (Some []) (outer_words o) ≡ Some (openings o)) (elim [ Top ↦ λ ih. refl | o ↦ λ ih. grind (arith, opened-append, opened-words, ih) ])

pub opened-open : (o : Outer) (t : Body) (h : Half) → opened (Some []) (open_words o t h) ≡ Some (openings o)
opened-open o t h = grind (arith, opened-append, opened-words, opened-outer)

length-openings : (o : Outer) → length (openings o) ≡ frames o
length-openings = by_frames (λ o. length (openings o) ≡ frames o) (elim [ Top ↦ λ ih. refl | o ↦ λ ih. grind (arith, ih) ])

opened-after : (o : Outer) (t : Body) (h : Half) (w : Token) → opened (Some []) (open_words o t h ++ w ∷ []) ≡ opens (Some (openings o)) w
opened-after o t h w = opened-append (Some []) (open_words o t h) (w ∷ []) ∙ ap (λ x. opened x (w ∷ [])) (opened-open o t h)

-- one more word
same_openings : (o p o' : Outer) (t u : Body) (h g : Half) → Some (At o' t h) ≡ Some (At p u g) → openings p ≡ openings o'
same_openings o p o' t u h g e = cc

read_opens : (o : Outer) (t : Body) (h : Half) (w : Token) (p : Outer) (u : Body) (g : Half) → read o t h w ≡ Some (At p u g) → opens (Some (openings o)) w ≡ Some (openings p)
read_opens o t h w p u g e = grind (arith, same_openings)

whole_opens : (o : Outer) (t : Body) (h : Half) (d : Definition) → whole o t h ≡ Some d → openings o ≡ []
whole_opens o t h d e = grind arith

none_opens : (o : Outer) (t : Body) (h : Half) (w : Token) (os : List Token) → read o t h w ≡ None → suits h w ≡ true → (w ≡ DOES → past o ≡ false) → opens (Some (openings o)) w ≡ Some os → (w ≡ SEMI) × (frames o ≡ 0)
none_opens Top t h w os e s d k = grind arith
none_opens (Past b) t h w os e s d k = grind arith
none_opens (InIf o b) t h w os e s d k = grind arith
none_opens (InElse o b a) t h w os e s d k = grind arith
none_opens (InBegin o b) t h w os e s d k = grind arith
none_opens (InWhile o b a) t h w os e s d k = grind arith
none_opens (InDo o b) t h w os e s d k = grind arith

read_frames : (o : Outer) (t : Body) (h : Half) (w : Token) (p : Outer) (u : Body) (g : Half) → read o t h w ≡ Some (At p u g) → opener w ≡ true → frames p ≡ frames o + 1
read_frames o t h w p u g e k = grind arith

-- the end of a definition
end_placed : (o : Outer) (t : Body) (h : Half) → suits h SEMI ≡ true → frames o ≡ 0 → open_depth o t ≤ 64 → Placed (open_words o t h) SEMI
end_placed o t h s f k =
    let e = semi_free h s in
    let x = closed_is o t f in
    let q : whole o t h ≡ Some x.0 = ap (whole o t) e ∙ x.1 in
    let deep = whole_depth o t h x.0 q in
    record {
      suited = ap (λ g. suits g SEMI) (half-open o t h) ∙ s;
      once = λ z. cc;
      good = record { body = x.0; more = []; is = sym (append-nil (open_words o t h ++ SEMI ∷ []) ∙ ap (λ l. l ++ SEMI ∷ []) (whole_words o t h x.0 q)); shallow = omega (arith, deep, k) };
    }

-- what the tests say of the structures
deep_first : (rt : ℕ → ℕ) (at limit : ℕ) (o : Outer) (t : Body) (h : Half) (w : Token) → suits h w ≡ true → (w ≡ DOES → past o ≡ false) → is_deep (opens (Some (openings o)) w) ≡ true → FirstCause rt at limit r.Misplaced (open_words o t h) w
deep_first rt at limit o t h w s d k = by (read o t h w) refl
  where
    at_end : (os : Option (List Token)) → opens (Some (openings o)) w ≡ os → is_deep os ≡ true → read o t h w ≡ None → ⊥
    at_end None e j n = cc
    at_end (Some os) e j n =
        let z = none_opens o t h w os n s d e in
        let l = length-openings o in
        let long : 64 < length os = ltb-true 64 (length os) j in
        at_semi os z.0 z.1 e long
      where
        at_semi : (os : List Token) → w ≡ SEMI → frames o ≡ 0 → opens (Some (openings o)) w ≡ Some os → 64 < length os → ⊥
        at_semi os a f g b = grind (arith, length-openings o)

    by : (x : Option State) → read o t h w ≡ x → FirstCause rt at limit r.Misplaced (open_words o t h) w
    by None e = absurd (at_end (opens (Some (openings o)) w) refl k e)
    by (Some (At p u g)) e =
        let long : 64 < length (openings p) = ltb-true 64 (length (openings p)) (sym (ap is_deep (read_opens o t h w p u g e)) ∙ k) in
        let l = length-openings p in
        misplaced rt at limit (open_words o t h) w (inr (inr (goes_on o t h w p u g e, too_deep o t h w p u g e (omega (arith, long, l)))))

none_first : (rt : ℕ → ℕ) (at limit : ℕ) (o : Outer) (t : Body) (h : Half) (w : Token) → suits h w ≡ true → (w ≡ DOES → past o ≡ false) → opens (Some (openings o)) w ≡ None → FirstCause rt at limit r.Unbalanced (open_words o t h) w
none_first rt at limit o t h w s d k = by (read o t h w) refl
  where
    not_whole : (x : Option Definition) → whole o t h ≡ x → w ≡ SEMI → whole o t h ≡ None
    not_whole None e z = e
    not_whole (Some b) e z =
        let q : Some [] ≡ None = ap (λ os. opens (Some os) SEMI) (sym (whole_opens o t h b e)) ∙ ap (opens (Some (openings o))) (sym z) ∙ k in
        cc

    by : (x : Option State) → read o t h w ≡ x → FirstCause rt at limit r.Unbalanced (open_words o t h) w
    by None e = unbalanced rt at limit o t h w s d e (not_whole (whole o t h) refl)
    by (Some (At p u g)) e = let q : Some (openings p) ≡ None = sym (read_opens o t h w p u g e) ∙ k in cc

some_placed : (o : Outer) (t : Body) (h : Half) (w : Token) (os : List Token) → open_depth o t ≤ 64 → suits h w ≡ true → (w ≡ DOES → past o ≡ false) → opens (Some (openings o)) w ≡ Some os → is_deep (Some os) ≡ false → Placed (open_words o t h) w
some_placed o t h w os k s d e j = by (read o t h w) refl
  where
    by : (x : Option State) → read o t h w ≡ x → Placed (open_words o t h) w
    by None n =
        let z = none_opens o t h w os n s d e in
        subst (λ v. Placed (open_words o t h) v) (sym z.0) (end_placed o t h (ap (suits h) (sym z.0) ∙ s) z.1 k)
    by (Some (At p u g)) n =
        let q : Some (openings p) ≡ Some os = sym (read_opens o t h w p u g n) ∙ e in
        let i : openings p ≡ os = cc in
        let m = ap length i in
        let l = length-openings p in
        let low : length os ≤ 64 = ltb-false 64 (length os) j in
        placed o t h w p u g n (read_shallow o t h w p u g k (λ y. let f = read_frames o t h w p u g n y in omega (arith, f, m, l, low)) n)

-- the list of tests
abbrev tests : (suited second deep none missing long over : Bool) → Option BodyCause
tests suited second deep none missing long over =
    if not suited then Some r.Misplaced
    else if second then Some r.Misplaced
    else if deep then Some r.Misplaced
    else if none then Some r.Unbalanced
    else if missing then Some r.Unknown
    else if long then Some r.BadName
    else if over then Some r.Full
    else None

cause_is : (rt : ℕ → ℕ) (at limit : ℕ) (o : Outer) (t : Body) (h : Half) (w : Token) → body_cause rt at limit (open_words o t h) w ≡ tests (suits h w) (past o && has_does (w ∷ [])) (is_deep (opens (Some (openings o)) w)) (is_none (opens (Some (openings o)) w)) (is_missing rt (control_written w)) (is_long w) (nat_lt limit (at + laid (open_words o t h ++ w ∷ [])))
unfolding body_cause
cause_is rt at limit o t h w = rw (half-open o t h, does-open o t h, opened-after o t h w) refl

tests_end : (suited second deep none missing long over : Bool) → tests suited second deep none missing long over ≡ Some r.EndsInside → ⊥
tests_end suited second deep none missing long over e = grind arith

pub never_ends : (rt : ℕ → ℕ) (at limit : ℕ) (before : List Token) (w : Token) → body_cause rt at limit before w ≡ Some r.EndsInside → ⊥
unfolding body_cause
never_ends rt at limit before w e = tests_end (suits (half_of Free before) w) (has_does before && has_does (w ∷ [])) (is_deep (opened (Some []) (before ++ w ∷ []))) (is_none (opened (Some []) (before ++ w ∷ []))) (is_missing rt (control_written w)) (is_long w) (nat_lt limit (at + laid (before ++ w ∷ []))) e

second_is : (w : Token) (b : Bool) → b && has_does (w ∷ []) ≡ true → (w ≡ DOES) × (b ≡ true)
second_is w b e = grind arith

once_is : (w : Token) (b : Bool) → b && has_does (w ∷ []) ≡ false → w ≡ DOES → b ≡ false
once_is w b e d = grind arith

missing_is : (rt : ℕ → ℕ) (w : Token) → is_missing rt (control_written w) ≡ true → IsKnown rt w → ⊥
missing_is rt w e k = grind arith

known_is : (rt : ℕ → ℕ) (w : Token) → is_missing rt (control_written w) ≡ false → IsKnown rt w
known_is rt w e = grind arith

long_is : (w : Token) → is_long w ≡ true → IsShort w → ⊥
long_is w e k = grind (arith, ltb-true)

short_is : (w : Token) → is_long w ≡ false → IsShort w
short_is w e = grind (arith, ltb-false)

-- what a cause that the tests give, or none, says
abbrev pub Says : (ℕ → ℕ) → (at limit : ℕ) → List Token → Token → Option BodyCause → Type 0
Says rt at limit before w None = (d : BodyCause) → 0 < rank d → Applies rt at limit d before w → ⊥
Says rt at limit before w (Some c) = (0 < rank c) × FirstCause rt at limit c before w

clean_placed : (rt : ℕ → ℕ) (at limit : ℕ) (before : List Token) (w : Token) → Placed before w → IsKnown rt w → IsShort w → at + laid (before ++ w ∷ []) ≤ limit → Says rt at limit before w None
clean_placed rt at limit before w p known short room' r.Full a h = omega (arith, h, room')
clean_placed rt at limit before w p known short room' r.EndsInside a h = h
clean_placed rt at limit before w p known short room' r.Memory a h = omega (arith, a)
clean_placed rt at limit before w p known short room' r.Misplaced a h = before_full rt at limit before w p known short r.Misplaced a (omega arith) h
clean_placed rt at limit before w p known short room' r.Unbalanced a h = before_full rt at limit before w p known short r.Unbalanced a (omega arith) h
clean_placed rt at limit before w p known short room' r.Unknown a h = before_full rt at limit before w p known short r.Unknown a (omega arith) h
clean_placed rt at limit before w p known short room' r.BadName a h = before_full rt at limit before w p known short r.BadName a (omega arith) h

says_placed : (rt : ℕ → ℕ) (at limit : ℕ) (before : List Token) (w : Token) (m l v : Bool) → Placed before w → is_missing rt (control_written w) ≡ m → is_long w ≡ l → nat_lt limit (at + laid (before ++ w ∷ [])) ≡ v → Says rt at limit before w (tests true false false false m l v)
says_placed rt at limit before w true l v p a b e = (omega arith, unknown rt at limit before w p (missing_is rt w a))
says_placed rt at limit before w false true v p a b e = (omega arith, bad_name rt at limit before w p (known_is rt w a) (long_is w b))
says_placed rt at limit before w false false true p a b e = (omega arith, full rt at limit before w p (known_is rt w a) (short_is w b) (ltb-true limit (at + laid (before ++ w ∷ [])) e))
says_placed rt at limit before w false false false p a b e = clean_placed rt at limit before w p (known_is rt w a) (short_is w b) (ltb-false limit (at + laid (before ++ w ∷ [])) e)

says_by : (rt : ℕ → ℕ) (at limit : ℕ) (o : Outer) (t : Body) (h : Half) (w : Token) (s d : Bool) (os : Option (List Token)) (deep : Bool) → open_depth o t ≤ 64 → suits h w ≡ s → past o && has_does (w ∷ []) ≡ d → opens (Some (openings o)) w ≡ os → is_deep os ≡ deep → Says rt at limit (open_words o t h) w (tests s d deep (is_none os) (is_missing rt (control_written w)) (is_long w) (nat_lt limit (at + laid (open_words o t h ++ w ∷ []))))
says_by rt at limit o t h w false d os deep k a b e j = (omega arith, unsuited rt at limit o t h w a)
says_by rt at limit o t h w true true os deep k a b e j = let x = second_is w (past o) b in (omega arith, second rt at limit o t h w x.0 x.1)
says_by rt at limit o t h w true false os true k a b e j = (omega arith, deep_first rt at limit o t h w a (once_is w (past o) b) (ap is_deep e ∙ j))
says_by rt at limit o t h w true false None false k a b e j = (omega arith, none_first rt at limit o t h w a (once_is w (past o) b) e)
says_by rt at limit o t h w true false (Some os) false k a b e j = says_placed rt at limit (open_words o t h) w (is_missing rt (control_written w)) (is_long w) (nat_lt limit (at + laid (open_words o t h ++ w ∷ []))) (some_placed o t h w os k a (once_is w (past o) b) e j) refl refl refl

pub says : (rt : ℕ → ℕ) (at limit : ℕ) (o : Outer) (t : Body) (h : Half) (w : Token) → open_depth o t ≤ 64 → Says rt at limit (open_words o t h) w (body_cause rt at limit (open_words o t h) w)
says rt at limit o t h w k =
    subst (λ x. Says rt at limit (open_words o t h) w x) (sym (cause_is rt at limit o t h w)) (says_by rt at limit o t h w (suits h w) (past o && has_does (w ∷ [])) (opens (Some (openings o)) w) (is_deep (opens (Some (openings o)) w)) k refl refl refl refl)

-- and what the first cause is
by_says : (rt : ℕ → ℕ) (at limit : ℕ) (before : List Token) (w : Token) (c : BodyCause) (x : Option BodyCause) → Says rt at limit before w x → 0 < rank c → FirstCause rt at limit c before w → x ≡ Some c
by_says rt at limit before w c None s a f = absurd (s c a f.applies)
by_says rt at limit before w c (Some d) s a f = ap Some (same_cause rt at limit before w d c s.1 f s.0 a)

pub first_is : (rt : ℕ → ℕ) (at limit : ℕ) (o : Outer) (t : Body) (h : Half) (w : Token) (c : BodyCause) → open_depth o t ≤ 64 → 0 < rank c → FirstCause rt at limit c (open_words o t h) w → body_cause rt at limit (open_words o t h) w ≡ Some c
first_is rt at limit o t h w c k a f = by_says rt at limit (open_words o t h) w c (body_cause rt at limit (open_words o t h) w) (says rt at limit o t h w k) a f

pub or_first : (rt : ℕ → ℕ) (at limit : ℕ) (o : Outer) (t : Body) (h : Half) (w : Token) (c : BodyCause) → open_depth o t ≤ 64 → (c ≡ r.Memory) ⊎ FirstCause rt at limit c (open_words o t h) w → (c ≡ r.Memory) ⊎ (body_cause rt at limit (open_words o t h) w ≡ Some c)
or_first rt at limit o t h w c k x = grind (arith, ranked, first_is)
