-- What the causes mean: which apply to a word, and the first of them.
use Rattle.std.proofs.Common.{◌≡◌, ◌≢◌, Bool, true, false, nat_lt, ◌==◌, if◌then◌else◌, ℕ, suc, ◌+◌, ◌<◌, ◌≤◌, ◌⊎◌, inl, inr, List, [], ◌∷◌, length, Option, Some, None, refl, sym, ap, ◌∙◌, subst, arith}
use Rattle.std.specs.Prelude.{◌↔◌, Result, Ok, Err}
use Rattle.std.specs.Option.{option_map}
use Rattle.std.proofs.lemmas.Bool.{lt-ltb, le-ltb, ltb-true, ltb-false, eqb-true}
use Rattle.colon_bodies.specs.Tokens.{Token}
use Rattle.colon_bodies.specs.declared.words.Half.TheVariants.{Free}
use Rattle.colon_bodies.specs.declared.fault.BodyCause.{BodyCause}
use Rattle.colon_bodies.specs.Meaning.{Sense, Plain}
use Rattle.image_builder.specs.Places.{Place}
use Rattle.image_builder.specs.Items.{Items, head_size, kind_size, end_of, names, controls, boot}
use Rattle.image_builder.specs.declared.entry.Lead.{Lead}
use Rattle.image_builder.specs.declared.entry.Lead.TheVariants.{Makes, Defines, Starts}
use Rattle.image_builder.specs.declared.spot.Sort.{Sort}
use Rattle.image_builder.specs.declared.cause.Cause.{Cause}
use Rattle.colon_bodies.proofs.Causes as body
use Rattle.colon_bodies.specs.Faults.{body_cause}
use Rattle.colon_bodies.specs.Faults as bodies
use Rattle.colon_bodies.proofs.Exact.{cause_says, applies}
use Rattle.colon_bodies.proofs.Opened.{Says}
use Rattle.colon_bodies.specs.declared.words.Half.{Half}
use Rattle.colon_bodies.specs.Rules as rules
use Rattle.colon_bodies.specs.declared.fault.BodyCause.TheVariants as r
use Rattle.image_builder.specs.declared.spot.Sort.TheVariants as s
use Rattle.image_builder.specs.declared.cause.Cause.TheVariants as c
use Rattle.image_builder.specs.Meanings.{look, record_named, meaning}
use Rattle.image_builder.specs.Grammar.{may_name}
use Rattle.image_builder.specs.Causes.{cause_of}
use Rattle.image_builder.specs.Names.{Name}
use Rattle.image_builder.specs.Faults.{next_sort, figure_cause, item_cause, counted_cause, name_cause, vocabulary_cause, inner_cause, cause_at}
use Rattle.image_builder.specs.Stages.{IsFront, Stage, body_at, Whole, Counted, Due, Chosen, Inside}

-- the next word is of this sort
abbrev pub Next : List Place → Sort → Type 0
Next [] s = ⊥
Next (p ∷ ps) s = p.sort ≡ s

-- the causes of a word where an item begins
abbrev pub AtItem : Items → (w : Place) → (after : List Place) → Sort → Cause → Type 0
AtItem t w after s.Double c.BadNumber = Unit {0}
AtItem t w after (s.Number n) c.BadNumber = (32768 ≤ n) × Next after s.Allot
AtItem t w after (s.Number n) c.BadPrimitive = Next after s.Prim × (may_name t n ≡ true → ⊥)
AtItem t w after s.Prim c.Misplaced = Unit {0}
AtItem t w after s.Constant c.Misplaced = Unit {0}
AtItem t w after s.Comma c.Misplaced = Unit {0}
AtItem t w after s.CharComma c.Misplaced = Unit {0}
AtItem t w after s.Allot c.Misplaced = Unit {0}
AtItem t w after s.Definitions c.Misplaced = Unit {0}
AtItem t w after s.Immediate c.Misplaced = names t ≡ []
AtItem t w after s.Boot c.Misplaced = boot t ≢ None
AtItem t w after s.Other c.Misplaced = (look t w ≢ None) × (record_named t w ≡ None)
AtItem t w after s.Other c.Unknown = (look t w ≡ None) × (record_named t w ≡ None)
AtItem t w after _ _ = ⊥

-- of a word after a number
abbrev pub AtNumber : (limit : ℕ) → Items → (n : ℕ) → Sort → Cause → Type 0
AtNumber limit t n s.Double c.BadNumber = Unit {0}
AtNumber limit t n s.Prim c.Misplaced = ⊥
AtNumber limit t n s.Constant c.Misplaced = ⊥
AtNumber limit t n s.Comma c.Misplaced = ⊥
AtNumber limit t n s.CharComma c.Misplaced = ⊥
AtNumber limit t n s.Allot c.Misplaced = ⊥
AtNumber limit t n _ c.Misplaced = Unit {0}
AtNumber limit t n s.Comma c.Full = limit < end_of t + 2
AtNumber limit t n s.CharComma c.Full = limit < end_of t + 1
AtNumber limit t n s.Allot c.Full = (n < 32768) × (limit < end_of t + n)
AtNumber limit t n _ _ = ⊥

-- of a word that is due as a name
abbrev pub IsPlainSense : Sense → Type 0
IsPlainSense Plain = Unit {0}
IsPlainSense _ = ⊥

abbrev pub AtName : (limit : ℕ) → Items → (w : Place) → Lead → Cause → Type 0
AtName limit t w (Makes k) c.BadName = 31 < length w.name
AtName limit t w (Makes k) c.Full = limit < end_of t + (head_size w + kind_size k)
AtName limit t w Defines c.BadName = 31 < length w.name
AtName limit t w Defines c.Full = limit < end_of t + head_size w
AtName limit t w Starts c.Misplaced = (look t w ≡ None) × (IsPlainSense w.inner → ⊥)
AtName limit t w Starts c.Unknown = (look t w ≡ None) × IsPlainSense w.inner
AtName limit t w _ _ = ⊥

-- of a word after a vocabulary's name
abbrev pub AtVocabulary : Sort → Cause → Type 0
AtVocabulary s.Double c.BadNumber = Unit {0}
AtVocabulary s.Definitions c.Misplaced = ⊥
AtVocabulary _ c.Misplaced = Unit {0}
AtVocabulary _ _ = ⊥

-- of a word in a body, by what it means
abbrev pub refusal : Cause → BodyCause
refusal c.Misplaced = r.Misplaced
refusal c.Unbalanced = r.Unbalanced
refusal c.Unknown = r.Unknown
refusal c.BadName = r.BadName
refusal c.Full = r.Full
refusal _ = r.EndsInside

abbrev pub InBody : (rt : ℕ → ℕ) → (at limit : ℕ) → (before : List Token) → Result Token Cause → Cause → Type 0
InBody rt at limit before (Ok w) cause = body.Applies rt at limit (refusal cause) before w
InBody rt at limit before (Err d) cause = d ≡ cause

abbrev pub Applies : (limit : ℕ) → Items → Stage → (w : Place) → (after : List Place) → Cause → Type 0
Applies limit t Whole w after cause = AtItem t w after w.sort cause
Applies limit t (Counted n) w after cause = AtNumber limit t n w.sort cause
Applies limit t (Due l) w after cause = AtName limit t w l cause
Applies limit t (Chosen v) w after cause = AtVocabulary w.sort cause
Applies limit t (Inside p before) w after cause = InBody (controls t) (body_at t p) limit before (meaning (rules.half_of Free before) t w) cause

-- the order of causes
abbrev pub rank : Cause → ℕ
rank c.OutOfMemory = 0
rank c.EndsInside = 1
rank c.BadNumber = 2
rank c.BadPrimitive = 3
rank c.Misplaced = 4
rank c.Unbalanced = 5
rank c.Unknown = 6
rank c.BadName = 7
rank c.Full = 8
rank c.NoBoot = 9
rank c.Device = 10

-- the first cause of a word
pub record FirstCause (limit : ℕ) (t : Items) (stage : Stage) (w : Place) (after : List Place) (cause : Cause) : Type 0 where
  pub applies : Applies limit t stage w after cause
  pub first : (d : Cause) → 0 < rank d → rank d < rank cause → Applies limit t stage w after d → ⊥

-- What cause_at gives applies, and what applies it gives, unless an earlier cause does.
figure_said : (t : Items) (w : Place) (n : ℕ) (after : List Place) (d : Cause) → figure_cause t n (next_sort after) ≡ Some d → AtItem t w after (s.Number n) d
figure_said t w n [] d e = cc
figure_said t w n (p ∷ ps) d e = by p.sort (may_name t n) (nat_lt n 32768) refl refl refl e
  where
    by : (sort : Sort) (b m : Bool) → p.sort ≡ sort → may_name t n ≡ b → nat_lt n 32768 ≡ m → figure_cause t n sort ≡ Some d → AtItem t w (p ∷ ps) (s.Number n) d
    by s.Allot b m f g h k = grind (arith, ltb-false)
    by s.Prim b m f g h k = grind arith
    by _ b m f g h k = cc

item_said : (t : Items) (w : Place) (after : List Place) (sort : Sort) (d : Cause) → item_cause t w after sort ≡ Some d → AtItem t w after sort d
item_said t w after (s.Number n) d e = figure_said t w n after d e
item_said t w after s.Immediate d e = by (names t) (length (names t) == 0) refl refl e
  where
    by : (ns : List Name) (b : Bool) → names t ≡ ns → length ns == 0 ≡ b → (if b then Some c.Misplaced else None) ≡ Some d → AtItem t w after s.Immediate d
    by [] true f g h = let q : c.Misplaced ≡ d = cc in subst (λ v. AtItem t w after s.Immediate v) q f
    by (n ∷ ns) true f g h = let q : suc (length ns) ≡ 0 = eqb-true (suc (length ns)) 0 g in absurd (omega (arith, q))
    by ns false f g h = let q : None ≡ Some d = h in cc
item_said t w after sort d e = grind arith

item_is : (t : Items) (w : Place) (after : List Place) (sort : Sort) (d : Cause) → AtItem t w after sort d → item_cause t w after sort ≡ Some d
item_is t w after sort d h = grind (arith, le-ltb)

counted_said : (limit : ℕ) (t : Items) (n : ℕ) (sort : Sort) (d : Cause) → counted_cause limit t n sort ≡ Some d → AtNumber limit t n sort d
counted_said limit t n sort d e = grind (arith, ltb-true)

pub counted_is_full : (limit : ℕ) (t : Items) (n : ℕ) (sort : Sort) → AtNumber limit t n sort c.Full → counted_cause limit t n sort ≡ Some c.Full
counted_is_full limit t n sort h = grind (arith, lt-ltb)

counted_none : (limit : ℕ) (t : Items) (n : ℕ) (sort : Sort) (d : Cause) → counted_cause limit t n sort ≡ None → AtNumber limit t n sort d → ⊥
counted_none limit t n sort d e h = grind (arith, lt-ltb)

counted_earlier : (limit : ℕ) (t : Items) (n : ℕ) (sort : Sort) (d e : Cause) → counted_cause limit t n sort ≡ Some e → rank d < rank e → AtNumber limit t n sort d → ⊥
counted_earlier limit t n sort d e k a h = grind (arith, lt-ltb)

name_said : (limit : ℕ) (t : Items) (w : Place) (l : Lead) (d : Cause) → name_cause limit t w l ≡ Some d → AtName limit t w l d
name_said limit t w l d e = grind (arith, ltb-true)

name_none : (limit : ℕ) (t : Items) (w : Place) (l : Lead) (d : Cause) → name_cause limit t w l ≡ None → AtName limit t w l d → ⊥
name_none limit t w l d e h = grind (arith, ltb-false)

name_earlier : (limit : ℕ) (t : Items) (w : Place) (l : Lead) (d e : Cause) → name_cause limit t w l ≡ Some e → rank d < rank e → AtName limit t w l d → ⊥
name_earlier limit t w l d e k a h = grind (arith, ltb-false, ltb-true)

vocabulary_said : (sort : Sort) (d : Cause) → vocabulary_cause sort ≡ Some d → AtVocabulary sort d
vocabulary_said sort d e = grind arith

vocabulary_none : (sort : Sort) (d : Cause) → vocabulary_cause sort ≡ None → AtVocabulary sort d → ⊥
vocabulary_none sort d e h = grind arith

vocabulary_earlier : (sort : Sort) (d e : Cause) → vocabulary_cause sort ≡ Some e → rank d < rank e → AtVocabulary sort d → ⊥
vocabulary_earlier sort d e k a h = grind arith

refused_as : (e : BodyCause) → 0 < body.rank e → refusal (cause_of e) ≡ e
refused_as e a = grind arith

inner_said : (rt : ℕ → ℕ) (at limit : ℕ) (before : List Token) (m : Result Token Cause) (d : Cause) → bodies.IsFront rt at limit before → inner_cause rt at limit before m ≡ Some d → InBody rt at limit before m d
inner_said rt at limit before (Err x) d f e = cc
inner_said rt at limit before (Ok x) d f e = by (body_cause rt at limit before x) refl e
  where
    by : (o : Option BodyCause) → body_cause rt at limit before x ≡ o → option_map cause_of o ≡ Some d → body.Applies rt at limit (refusal d) before x
    by None g h = cc
    by (Some b) g h =
        let a = applies rt at limit before x b f g in
        let q : cause_of b ≡ d = cc in
        subst (λ v. body.Applies rt at limit v before x) (sym (refused_as b a.0) ∙ ap refusal q) a.1.applies

refusal_ranks : (d : Cause) → 0 < body.rank (refusal d)
refusal_ranks d = grind arith

inner_none : (rt : ℕ → ℕ) (at limit : ℕ) (before : List Token) (m : Result Token Cause) (d : Cause) → bodies.IsFront rt at limit before → inner_cause rt at limit before m ≡ None → InBody rt at limit before m d → ⊥
inner_none rt at limit before (Err x) d f e h = cc
inner_none rt at limit before (Ok x) d f e h = by (body_cause rt at limit before x) refl (cause_says rt at limit before x f) e
  where
    by : (o : Option BodyCause) → body_cause rt at limit before x ≡ o → Says rt at limit before x o → option_map cause_of o ≡ None → ⊥
    by None g i k = i (refusal d) (refusal_ranks d) h
    by (Some b) g i k = cc

pub earlier : (rt : ℕ → ℕ) (at limit : ℕ) (before : List Token) (x : Token) (e : BodyCause) (d : Cause) → body.FirstCause rt at limit e before x → 0 < rank d → rank d < rank (cause_of e) → body.Applies rt at limit (refusal d) before x → ⊥
earlier rt at limit before x e d f a b h = grind arith

inner_earlier : (rt : ℕ → ℕ) (at limit : ℕ) (before : List Token) (m : Result Token Cause) (d e : Cause) → bodies.IsFront rt at limit before → inner_cause rt at limit before m ≡ Some e → 0 < rank d → rank d < rank e → InBody rt at limit before m d → ⊥
inner_earlier rt at limit before (Err x) d e f k a b h =
    let q : x ≡ e = cc in
    omega (arith, b, ap rank h, ap rank q)
inner_earlier rt at limit before (Ok x) d e f k a b h = by (body_cause rt at limit before x) refl k
  where
    by : (o : Option BodyCause) → body_cause rt at limit before x ≡ o → option_map cause_of o ≡ Some e → ⊥
    by None g i = cc
    by (Some z) g i =
        let q : cause_of z ≡ e = cc in
        earlier rt at limit before x z d (applies rt at limit before x z f g).1 a (subst (λ v. rank d < rank v) (sym q) b) h

-- at a word after words that nothing is wrong with
pub said : (limit : ℕ) (front : List Place) (t : Items) (ws : List Place) (stage : Stage) (w : Place) (after : List Place) (d : Cause) → IsFront limit front t ws stage → cause_at limit t stage w after ≡ Some d → Applies limit t stage w after d
said limit front t ws Whole w after d f e = item_said t w after w.sort d e
said limit front t ws (Counted n) w after d f e = counted_said limit t n w.sort d e
said limit front t ws (Due l) w after d f e = name_said limit t w l d e
said limit front t ws (Chosen v) w after d f e = vocabulary_said w.sort d e
said limit front t ws (Inside p before) w after d f e = inner_said (controls t) (body_at t p) limit before (meaning (rules.half_of Free before) t w) d f.begun.fits e

none_said : (limit : ℕ) (front : List Place) (t : Items) (ws : List Place) (stage : Stage) (w : Place) (after : List Place) (d : Cause) → IsFront limit front t ws stage → cause_at limit t stage w after ≡ None → Applies limit t stage w after d → ⊥
none_said limit front t ws Whole w after d f e h = let q : None ≡ Some d = sym e ∙ item_is t w after w.sort d h in cc
none_said limit front t ws (Counted n) w after d f e h = counted_none limit t n w.sort d e h
none_said limit front t ws (Due l) w after d f e h = name_none limit t w l d e h
none_said limit front t ws (Chosen v) w after d f e h = vocabulary_none w.sort d e h
none_said limit front t ws (Inside p before) w after d f e h = inner_none (controls t) (body_at t p) limit before (meaning (rules.half_of Free before) t w) d f.begun.fits e h

other_cause : (x : Option Cause) (d e : Cause) → x ≡ Some e → x ≡ Some d → rank d < rank e → ⊥
other_cause x d e a b h =
    let q : d ≡ e = cc in
    omega (arith, h, ap rank q)

none_earlier : (limit : ℕ) (front : List Place) (t : Items) (ws : List Place) (stage : Stage) (w : Place) (after : List Place) (e : Cause) → IsFront limit front t ws stage → cause_at limit t stage w after ≡ Some e → (d : Cause) → 0 < rank d → rank d < rank e → Applies limit t stage w after d → ⊥
none_earlier limit front t ws Whole w after e f k d a b h = other_cause (item_cause t w after w.sort) d e k (item_is t w after w.sort d h) b
none_earlier limit front t ws (Counted n) w after e f k d a b h = counted_earlier limit t n w.sort d e k b h
none_earlier limit front t ws (Due l) w after e f k d a b h = name_earlier limit t w l d e k b h
none_earlier limit front t ws (Chosen v) w after e f k d a b h = vocabulary_earlier w.sort d e k b h
none_earlier limit front t ws (Inside p before) w after e f k d a b h = inner_earlier (controls t) (body_at t p) limit before (meaning (rules.half_of Free before) t w) d e f.begun.fits k a b h

-- there is one first cause
rank_same : (a b : Cause) → rank a ≡ rank b → a ≡ b
rank_same a b e = grind arith

pub ranked : (a : Cause) → (a ≡ c.OutOfMemory) ⊎ (0 < rank a)
ranked a = grind arith

order : (m n : ℕ) → (m < n) ⊎ (n < m) ⊎ (m ≡ n)
order (suc m) (suc n) = elim (order m n) [ inl a ↦ inl (omega arith) | inr (inl a) ↦ inr (inl (omega arith)) | inr (inr a) ↦ inr (inr (ap suc a)) ]
order m n = grind arith

meaning_cause : (t : Items) (h : Half) (w : Place) (d : Cause) → meaning h t w ≡ Err d → 0 < rank d
meaning_cause t h w d e = grind arith

some_rank : (limit : ℕ) (front : List Place) (t : Items) (ws : List Place) (stage : Stage) (w : Place) (after : List Place) (d : Cause) → IsFront limit front t ws stage → cause_at limit t stage w after ≡ Some d → 0 < rank d
some_rank limit front t ws (Inside p before) w after d f e = by (meaning (rules.half_of Free before) t w) refl e
  where
    by_body : (x : Token) (o : Option BodyCause) → body_cause (controls t) (body_at t p) limit before x ≡ o → option_map cause_of o ≡ Some d → 0 < rank d
    by_body x None g k = cc
    by_body x (Some b) g k =
        let a = (applies (controls t) (body_at t p) limit before x b f.begun.fits g).0 in
        let q : cause_of b ≡ d = cc in
        subst (λ v. 0 < rank v) q (rank_of b a)
      where
        rank_of : (b : BodyCause) → 0 < body.rank b → 0 < rank (cause_of b)
        rank_of b a = grind arith

    by : (m : Result Token Cause) → meaning (rules.half_of Free before) t w ≡ m → inner_cause (controls t) (body_at t p) limit before m ≡ Some d → 0 < rank d
    by (Ok x) g k = by_body x (body_cause (controls t) (body_at t p) limit before x) refl k
    by (Err x) g k = let q : x ≡ d = cc in meaning_cause t (rules.half_of Free before) w d (g ∙ ap Err q)
some_rank limit front t ws stage w after d f e = grind arith

-- which is what cause_at gives
pub first_exactly : (limit : ℕ) (front : List Place) (t : Items) (ws : List Place) (stage : Stage) (w : Place) (after : List Place) (d : Cause) → IsFront limit front t ws stage → 0 < rank d → FirstCause limit t stage w after d ↔ (cause_at limit t stage w after ≡ Some d)
first_exactly limit front t ws stage w after d f a = (
  λ x. by (cause_at limit t stage w after) refl x,
  λ e. record { applies = said limit front t ws stage w after d f e; first = none_earlier limit front t ws stage w after d f e },
)
  where
    same : (e : Cause) → cause_at limit t stage w after ≡ Some e → FirstCause limit t stage w after d → 0 < rank e → d ≡ e
    same e g x b =
        elim (order (rank d) (rank e)) [
          | inl low ↦ absurd (none_earlier limit front t ws stage w after e f g d a low x.applies)
          | inr (inl high) ↦ absurd (x.first e b high (said limit front t ws stage w after e f g))
          | inr (inr even) ↦ rank_same d e even
        ]

    by : (o : Option Cause) → cause_at limit t stage w after ≡ o → FirstCause limit t stage w after d → cause_at limit t stage w after ≡ Some d
    by None g x = absurd (none_said limit front t ws stage w after d f g x.applies)
    by (Some e) g x = g ∙ ap Some (sym (same e g x (some_rank limit front t ws stage w after e f g)))
