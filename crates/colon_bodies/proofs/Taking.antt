-- Which cause one more word has.
use Rattle.std.proofs.Common.{◌≡◌, ◌≢◌, Bool, true, false, ℕ, ◌+◌, ◌<◌, ◌≤◌, ◌⊎◌, inl, inr, List, [], ◌∷◌, ◌++◌, length, Option, Some, None, Ok, Err, refl, sym, ap, ◌∙◌, subst, arith, append_assoc, append-nil, length-append}
use Rattle.std.specs.Prelude.{IsTrue, ◌↔◌}
use Rattle.colon_bodies.specs.declared.words.Half.{Half}
use Rattle.colon_bodies.specs.declared.words.Half.TheVariants.{Free}
use Rattle.colon_bodies.specs.declared.draft.Mark.{Mark}
use Rattle.colon_bodies.specs.declared.draft.Draft.{Draft}
use Rattle.colon_bodies.specs.declared.fault.BodyCause.{BodyCause}
use Rattle.colon_bodies.specs.declared.fault.BodyCause.TheVariants as r
use Rattle.colon_bodies.specs.Tokens.{Token, TEXT, DOES, SEMI, laid_by, laid, IsShort, AreShort}
use Rattle.colon_bodies.specs.Tree.{Body, Empty, Text, Definition, Simple, Doing, words, all_words}
use Rattle.colon_bodies.specs.Code.{size, all_size, whole_code}
use Rattle.memory.specs.Bytes.{cell_bytes}
use Rattle.colon_bodies.specs.Rules.{IsKnown, AreKnown, half_after, half_of, suits, has_does}
use Rattle.colon_bodies.specs.Faults.{BeginsShallow}
use Rattle.colon_bodies.proofs.Causes.{Begins, Applies, rank, FirstCause}
use Rattle.colon_bodies.specs.Open.{Outer, Top, Past, InIf, InElse, InBegin, InWhile, InDo, State, At, outer_words, half_words, open_words, fit, read, whole, past, past_after, frames, open_depth, outer_size, half_size, open_size}
use Rattle.colon_bodies.specs.Draft.{marks_of, Drafted, Drafts, After, Goes, Finishes, opener}
use Rattle.colon_bodies.proofs.Cells.{length-cell}
use Rattle.colon_bodies.proofs.Reading.{read_words, begins, begins_any, unfit, too_deep, state_at, completed_open, whole_words, whole_depth}
use Rattle.colon_bodies.proofs.Laying.{drafted_length}
use Rattle.colon_bodies.proofs.Parts.{by_parts, by_frames}

-- the words say how much is written
pub laid-append : (xs ys : List Token) → laid (xs ++ ys) ≡ laid xs + laid ys
laid-append [] ys = omega arith
laid-append (x ∷ xs) ys = ap (λ n. laid_by x + n) (laid-append xs ys) ∙ omega arith

pub laid-words : (t : Body) → laid (words t) ≡ size t
laid-words = by_parts (λ t. laid (words t) ≡ size t) (elim [ Empty ↦ λ ih. refl | t ↦ λ ih. grind (arith, laid-append, ih) ])

pub laid-all : (d : Definition) → laid (all_words d) ≡ all_size d
laid-all d = grind (arith, laid-words, laid-append)

pub laid-outer : (o : Outer) → laid (outer_words o) ≡ outer_size o
laid-outer = by_frames (λ o. laid (outer_words o) ≡ outer_size o) (elim [ Top ↦ λ ih. refl | o ↦ λ ih. grind (arith, laid-append, laid-words, ih) ])

laid-half : (h : Half) (ws : List Token) → laid (half_words h ws) ≡ laid ws + half_size h
laid-half h ws = grind (arith, laid-append)

pub laid-open : (o : Outer) (t : Body) (h : Half) → laid (open_words o t h) ≡ open_size o t h
laid-open o t h = laid-half h (outer_words o ++ words t) ∙ omega (arith, laid-append (outer_words o) (words t), laid-outer o, laid-words t)

pub short-append : (xs ys : List Token) → AreShort xs → AreShort ys → AreShort (xs ++ ys)
short-append [] ys a b = b
short-append (x ∷ xs) ys a b = (a.0, short-append xs ys a.1 b)

pub known-append : (rt : ℕ → ℕ) (xs ys : List Token) → AreKnown rt xs → AreKnown rt ys → AreKnown rt (xs ++ ys)
known-append rt [] ys a b = b
known-append rt (x ∷ xs) ys a b = (a.0, known-append rt xs ys a.1 b)

-- what the words leave half read
pub half-append : (h : Half) (xs ys : List Token) → half_of h (xs ++ ys) ≡ half_of (half_of h xs) ys
half-append h [] ys = refl
half-append h (x ∷ xs) ys = half-append (half_after h x) xs ys

pub half-words : (t : Body) → half_of Free (words t) ≡ Free
half-words = by_parts (λ t. half_of Free (words t) ≡ Free) (elim [ Empty ↦ λ ih. refl | t ↦ λ ih. grind (arith, half-append, ih) ])

half-outer : (o : Outer) → half_of Free (outer_words o) ≡ Free
half-outer = by_frames (λ o. half_of Free (outer_words o) ≡ Free) (elim [ Top ↦ λ ih. refl | o ↦ λ ih. grind (arith, half-append, half-words, ih) ])

pub half-open : (o : Outer) (t : Body) (h : Half) → half_of Free (open_words o t h) ≡ h
half-open o t h = grind (arith, half-append, half-words, half-outer)

-- whether a DOES> was read
none_before : (xs ys : List Token) → has_does xs ≡ false → has_does (xs ++ ys) ≡ has_does ys
none_before [] ys e = refl
none_before (DOES ∷ xs) ys e = cc
none_before (_ ∷ xs) ys e = none_before xs ys e

none_behind : (xs ys : List Token) → has_does ys ≡ false → has_does (xs ++ ys) ≡ has_does xs
none_behind [] ys e = e
none_behind (DOES ∷ xs) ys e = refl
none_behind (_ ∷ xs) ys e = none_behind xs ys e

does-words : (t : Body) → has_does (words t) ≡ false
does-words = by_parts (λ t. has_does (words t) ≡ false) (elim [ Empty ↦ λ ih. refl | t ↦ λ ih. grind (arith, none_before, ih) ])

does-outer : (o : Outer) → has_does (outer_words o) ≡ past o
does-outer = by_frames (λ o. has_does (outer_words o) ≡ past o) (elim [ Top ↦ λ ih. refl | o ↦ λ ih. grind (arith, none_before, does-words, none_behind, ih) ])

does-free : (o : Outer) (t : Body) → has_does (outer_words o ++ words t) ≡ past o
does-free o t = none_behind (outer_words o) (words t) (does-words t) ∙ does-outer o

pub does-open : (o : Outer) (t : Body) (h : Half) → has_does (open_words o t h) ≡ past o
does-open o t h = grind (arith, does-free, none_behind)

-- depth
length-marks : (at : ℕ) (o : Outer) → length (marks_of at o) ≡ frames o
length-marks at = by_frames (λ o. length (marks_of at o) ≡ frames o) (elim [ Top ↦ λ ih. refl | o ↦ λ ih. grind (arith, length-append, ih) ])

pub drafted_marks : (rt : ℕ → ℕ) (at : ℕ) (o : Outer) (t : Body) (h : Half) (image : List ℕ) (marks : List Mark) → Drafted rt at o t h image marks → length marks ≡ frames o
drafted_marks rt at o t h image marks d = ap length d.marked ∙ length-marks at o

fit_shallow : (o : Outer) (t : Body) (w : Token) (p : Outer) (u : Body) (g : Half) → open_depth o t ≤ 64 → (opener w ≡ true → frames o < 64) → fit o t w ≡ Some (At p u g) → open_depth p u ≤ 64
fit_shallow o t w p u g k f e = grind arith

pub read_shallow : (o : Outer) (t : Body) (h : Half) (w : Token) (p : Outer) (u : Body) (g : Half) → open_depth o t ≤ 64 → (opener w ≡ true → frames o < 64) → read o t h w ≡ Some (At p u g) → open_depth p u ≤ 64
read_shallow o t h w p u g k f e = grind (arith, completed_open, fit_shallow)

-- a word that is read suits, is no second DOES>, and leaves its own
pub read_suits : (o : Outer) (t : Body) (h : Half) (w : Token) (p : Outer) (u : Body) (g : Half) → read o t h w ≡ Some (At p u g) → suits h w ≡ true
read_suits o t h w p u g e = grind arith

once : (o : Outer) (t : Body) (h : Half) (p : Outer) (u : Body) (g : Half) → read o t h DOES ≡ Some (At p u g) → past o ≡ false
once o t h p u g e = grind arith

pub read_once : (o : Outer) (t : Body) (h : Half) (w : Token) (p : Outer) (u : Body) (g : Half) → read o t h w ≡ Some (At p u g) → w ≡ DOES → past o ≡ false
read_once o t h w p u g e d = once o t h p u g (ap (read o t h) (sym d) ∙ e)

pub read_half : (o : Outer) (t : Body) (h : Half) (w : Token) (p : Outer) (u : Body) (g : Half) → read o t h w ≡ Some (At p u g) → half_after h w ≡ g
read_half o t h w p u g e = grind arith

moved : (o' p : Outer) (t' u : Body) (h' g : Half) → Some (At o' t' h') ≡ Some (At p u g) → past p ≡ past o'
moved o' p t' u h' g e = sym (ap past (state_at o' p t' u h' g e).0)

pub read_past : (o : Outer) (t : Body) (h : Half) (w : Token) (p : Outer) (u : Body) (g : Half) → read o t h w ≡ Some (At p u g) → past p ≡ past_after (past o) w
read_past o t h w p u g e = grind (arith, moved)

-- a word that fits goes on to a definition
pub goes_on : (o : Outer) (t : Body) (h : Half) (w : Token) (p : Outer) (u : Body) (g : Half) → read o t h w ≡ Some (At p u g) → Begins (open_words o t h ++ w ∷ [])
goes_on o t h w p u g e = subst (λ l. Begins l) (read_words o t h w p u g e) (begins_any p u g)

pub goes_on_shallow : (o : Outer) (t : Body) (h : Half) (w : Token) (p : Outer) (u : Body) (g : Half) → read o t h w ≡ Some (At p u g) → open_depth p u ≤ 64 → BeginsShallow (open_words o t h ++ w ∷ [])
goes_on_shallow o t h w p u g e k = subst (λ l. BeginsShallow l) (read_words o t h w p u g e) (begins p u g k)

-- the causes
pub misplaced : (rt : ℕ → ℕ) (at limit : ℕ) (before : List Token) (w : Token) → Applies rt at limit r.Misplaced before w → FirstCause rt at limit r.Misplaced before w
misplaced rt at limit before w h = record { applies = h; first = λ c a b _. absurd (omega (arith, a, b)) }

pub unsuited : (rt : ℕ → ℕ) (at limit : ℕ) (o : Outer) (t : Body) (h : Half) (w : Token) → suits h w ≡ false → FirstCause rt at limit r.Misplaced (open_words o t h) w
unsuited rt at limit o t h w e = misplaced rt at limit (open_words o t h) w (inl (ap (λ g. suits g w) (half-open o t h) ∙ e))

pub second : (rt : ℕ → ℕ) (at limit : ℕ) (o : Outer) (t : Body) (h : Half) (w : Token) → w ≡ DOES → past o ≡ true → FirstCause rt at limit r.Misplaced (open_words o t h) w
second rt at limit o t h w d e = misplaced rt at limit (open_words o t h) w (inr (inl (d, does-open o t h ∙ e)))

pub deep : (rt : ℕ → ℕ) (at limit : ℕ) (o : Outer) (t : Body) (h : Half) (w : Token) → suits h w ≡ true → opener w ≡ true → 64 ≤ frames o → FirstCause rt at limit r.Misplaced (open_words o t h) w
deep rt at limit o t h w s e k = grind (arith, misplaced, goes_on, too_deep)

-- a word that is placed well
pub record Placed (before : List Token) (w : Token) : Type 0 where
  pub suited : suits (half_of Free before) w ≡ true
  pub once : w ≡ DOES → has_does before ≡ false
  pub good : BeginsShallow (before ++ w ∷ [])

before_unbalanced : (rt : ℕ → ℕ) (at limit : ℕ) (before : List Token) (w : Token) → suits (half_of Free before) w ≡ true → (w ≡ DOES → has_does before ≡ false) → (Begins (before ++ w ∷ []) → ⊥) → (d : BodyCause) → 0 < rank d → rank d < 2 → Applies rt at limit d before w → ⊥
before_unbalanced rt at limit before w s d bad x8 a b h = grind arith

pub unbalanced : (rt : ℕ → ℕ) (at limit : ℕ) (o : Outer) (t : Body) (h : Half) (w : Token) → suits h w ≡ true → (w ≡ DOES → past o ≡ false) → read o t h w ≡ None → (w ≡ SEMI → whole o t h ≡ None) → FirstCause rt at limit r.Unbalanced (open_words o t h) w
unbalanced rt at limit o t h w s d e n = grind (arith, unfit, before_unbalanced, half-open, does-open)

begun : (before : List Token) (w : Token) → BeginsShallow (before ++ w ∷ []) → Begins (before ++ w ∷ [])
begun before w good = record { body = good.body; more = good.more; is = good.is }

pub placed : (o : Outer) (t : Body) (h : Half) (w : Token) (p : Outer) (u : Body) (g : Half) → read o t h w ≡ Some (At p u g) → open_depth p u ≤ 64 → Placed (open_words o t h) w
placed o t h w p u g e k = grind (arith, half-open, read_suits, once, does-open, read_once, goes_on_shallow)

before_unknown : (rt : ℕ → ℕ) (at limit : ℕ) (before : List Token) (w : Token) → Placed before w → (d : BodyCause) → 0 < rank d → rank d < 3 → Applies rt at limit d before w → ⊥
before_unknown rt at limit before w p d a b h = grind (arith, once, begun)

pub unknown : (rt : ℕ → ℕ) (at limit : ℕ) (before : List Token) (w : Token) → Placed before w → (IsKnown rt w → ⊥) → FirstCause rt at limit r.Unknown before w
unknown rt at limit before w p bad = record { applies = bad; first = before_unknown rt at limit before w p }

before_bad_name : (rt : ℕ → ℕ) (at limit : ℕ) (before : List Token) (w : Token) → Placed before w → IsKnown rt w → (d : BodyCause) → 0 < rank d → rank d < 4 → Applies rt at limit d before w → ⊥
before_bad_name rt at limit before w p known d a b h = grind (arith, before_unknown, begun)

pub bad_name : (rt : ℕ → ℕ) (at limit : ℕ) (before : List Token) (w : Token) → Placed before w → IsKnown rt w → (IsShort w → ⊥) → FirstCause rt at limit r.BadName before w
bad_name rt at limit before w p known bad = record { applies = bad; first = before_bad_name rt at limit before w p known }

pub before_full : (rt : ℕ → ℕ) (at limit : ℕ) (before : List Token) (w : Token) → Placed before w → IsKnown rt w → IsShort w → (d : BodyCause) → 0 < rank d → rank d < 5 → Applies rt at limit d before w → ⊥
before_full rt at limit before w p known short d a b h = grind (arith, before_unknown, begun)

pub full : (rt : ℕ → ℕ) (at limit : ℕ) (before : List Token) (w : Token) → Placed before w → IsKnown rt w → IsShort w → limit < at + laid (before ++ w ∷ []) → FirstCause rt at limit r.Full before w
full rt at limit before w p known short over = record { applies = over; first = before_full rt at limit before w p known short }

-- a text too long
text_read : (o : Outer) (t : Body) (h : Half) (w : Token) → suits h w ≡ true → (IsShort w → ⊥) → open_depth o t ≤ 64 → Placed (open_words o t h) w
text_read o t Free (TEXT k bs) s bad d = placed o t Free (TEXT k bs) o (Text t k bs) Free refl d
text_read o t Free _ s bad d = absurd (bad tt)
text_read o t _ (TEXT k bs) s bad d = cc
text_read o t _ _ s bad d = absurd (bad tt)

pub long_text : (rt : ℕ → ℕ) (at limit : ℕ) (o : Outer) (t : Body) (h : Half) (w : Token) → suits h w ≡ true → open_depth o t ≤ 64 → IsKnown rt w → (IsShort w → ⊥) → FirstCause rt at limit r.BadName (open_words o t h) w
long_text rt at limit o t h w s d known bad = bad_name rt at limit (open_words o t h) w (text_read o t h w s bad d) known bad

pub unknown_text : (rt : ℕ → ℕ) (at limit : ℕ) (o : Outer) (t : Body) (h : Half) (w : Token) → suits h w ≡ true → open_depth o t ≤ 64 → (IsKnown rt w → ⊥) → (IsShort w → ⊥) → FirstCause rt at limit r.Unknown (open_words o t h) w
unknown_text rt at limit o t h w s d nope bad = unknown rt at limit (open_words o t h) w (text_read o t h w s bad d) nope

-- what a step says
pub after_ok : (rt : ℕ → ℕ) (at : ℕ) (s : Option State) (u : Unit {0}) (image : List ℕ) (marks : List Mark) → After rt at s (Ok u) image marks → (p : Outer) × (v : Body) × (g : Half) × (s ≡ Some (At p v g)) × Drafted rt at p v g image marks
after_ok rt at s u image marks h = grind arith

pub after_err : (rt : ℕ → ℕ) (at : ℕ) (s : Option State) (e : BodyCause) (image : List ℕ) (marks : List Mark) → After rt at s (Err e) image marks → (e ≡ r.Memory) ⊎ ((s ≡ None) × (e ≡ r.Unbalanced))
after_err rt at s e image marks h = grind arith

pub take_err : (rt : ℕ → ℕ) (at limit : ℕ) (o : Outer) (t : Body) (h : Half) (w : Token) (e : BodyCause) (image : List ℕ) (marks : List Mark) → w ≢ SEMI → suits h w ≡ true → (w ≡ DOES → past o ≡ false) → After rt at (read o t h w) (Err e) image marks → (e ≡ r.Memory) ⊎ FirstCause rt at limit e (open_words o t h) w
take_err rt at limit o t h w e image marks n s d a =
    elim (after_err rt at (read o t h w) e image marks a) [
      | inl m ↦ inl m
      | inr x ↦ inr (subst (λ d. FirstCause rt at limit d (open_words o t h) w) (sym x.1) (unbalanced rt at limit o t h w s d x.0 (λ q. absurd (n q))))
    ]

laid_after : (rt : ℕ → ℕ) (at : ℕ) (o : Outer) (t : Body) (h : Half) (w : Token) (p : Outer) (u : Body) (g : Half) (image : List ℕ) (marks : List Mark) → read o t h w ≡ Some (At p u g) → Drafted rt at p u g image marks → laid (open_words o t h ++ w ∷ []) ≡ length image
laid_after rt at o t h w p u g image marks e d =
    ap laid (sym (read_words o t h w p u g e)) ∙ laid-open p u g ∙ sym (drafted_length rt at p u g image marks d)

pub take_unknown : (rt : ℕ → ℕ) (at limit : ℕ) (o : Outer) (t : Body) (h : Half) (w : Token) (image : List ℕ) (marks : List Mark) → open_depth o t ≤ 64 → (opener w ≡ true → frames o < 64) → (IsKnown rt w → ⊥) → After rt at (read o t h w) (Ok tt) image marks → FirstCause rt at limit r.Unknown (open_words o t h) w
take_unknown rt at limit o t h w image marks k f bad a = search (arith, after_ok, unknown, placed, read_shallow)

pub take_full : (rt : ℕ → ℕ) (at limit : ℕ) (o : Outer) (t : Body) (h : Half) (w : Token) (image : List ℕ) (marks : List Mark) → open_depth o t ≤ 64 → (opener w ≡ true → frames o < 64) → IsKnown rt w → IsShort w → limit < at + length image → After rt at (read o t h w) (Ok tt) image marks → FirstCause rt at limit r.Full (open_words o t h) w
take_full rt at limit o t h w image marks k f known short over a = search (arith, after_ok, laid_after, full, placed, read_shallow)

pub take_ok : (rt : ℕ → ℕ) (at limit : ℕ) (o : Outer) (t : Body) (h : Half) (w : Token) (old new : Draft) (image : List ℕ) (marks : List Mark) → open_depth o t ≤ 64 → (opener w ≡ true → frames o < 64) → IsKnown rt w → IsShort w → at + length image ≤ limit → Drafts rt at o t h old → new.image.items ≡ image → new.marks.items ≡ marks → new.half ≡ half_after old.half w → new.is_past ≡ past_after old.is_past w → After rt at (read o t h w) (Ok tt) image marks → Goes rt at limit o t h w new
take_ok rt at limit o t h w old new image marks k f known sh room' d i m hh pp a = search (arith, after_ok, read_half, read_past, read_shallow)

-- ;
pub closed_is : (o : Outer) (t : Body) → frames o ≡ 0 → (d : Definition) × (whole o t Free ≡ Some d)
closed_is Top t e = (Simple t, refl)
closed_is (Past t) a e = (Doing t a, refl)
closed_is (InIf o t) a e = absurd (omega arith)
closed_is (InElse o t a) b e = absurd (omega arith)
closed_is (InBegin o t) a e = absurd (omega arith)
closed_is (InWhile o t a) b e = absurd (omega arith)
closed_is (InDo o t) a e = absurd (omega arith)

open_is : (o : Outer) (t : Body) (h : Half) → 0 < frames o → whole o t h ≡ None
open_is o t h e = grind arith

pub semi_free : (h : Half) → suits h SEMI ≡ true → h ≡ Free
semi_free h e = grind arith

read_semi : (o : Outer) (t : Body) (h : Half) → read o t h SEMI ≡ None
read_semi o t h = grind arith

pub ends_inside : (rt : ℕ → ℕ) (at limit : ℕ) (o : Outer) (t : Body) (h : Half) → suits h SEMI ≡ true → 0 < frames o → FirstCause rt at limit r.Unbalanced (open_words o t h) SEMI
ends_inside rt at limit o t h s k = unbalanced rt at limit o t h SEMI s (λ q. cc) (read_semi o t h) (λ _. open_is o t h k)

pub end_unknown : (rt : ℕ → ℕ) (at limit : ℕ) (o : Outer) (t : Body) (h : Half) → suits h SEMI ≡ true → frames o ≡ 0 → open_depth o t ≤ 64 → (IsKnown rt SEMI → ⊥) → FirstCause rt at limit r.Unknown (open_words o t h) SEMI
end_unknown rt at limit o t h s f k bad = grind (arith, unknown, semi_free h s, closed_is o t f, half-open, once, whole_words, append-nil, whole_depth)

end_is : (rt : ℕ → ℕ) (at : ℕ) (o : Outer) (t : Body) (d : Definition) (image new : List ℕ) (marks : List Mark) (control : ℕ) → whole o t Free ≡ Some d → rt 5 ≡ control → Drafted rt at o t Free image marks → new ≡ image ++ cell_bytes control → new ≡ whole_code rt d at
end_is rt at o t d image new marks control e r k h = grind (arith, append_assoc)

pub end_full : (rt : ℕ → ℕ) (at limit : ℕ) (o : Outer) (t : Body) (h : Half) (image new : List ℕ) (marks : List Mark) (control : ℕ) → suits h SEMI ≡ true → frames o ≡ 0 → open_depth o t ≤ 64 → IsKnown rt SEMI → Drafted rt at o t h image marks → new ≡ image ++ cell_bytes control → limit < at + length new → FirstCause rt at limit r.Full (open_words o t h) SEMI
end_full rt at limit o t h image new marks control s f k known d i over = grind (arith, length-append, length-cell, laid-append, laid-open, full, semi_free h s, closed_is o t f, drafted_length rt at o t h image marks d, half-open, once, whole_words, append-nil, whole_depth)

pub end_ok : (rt : ℕ → ℕ) (at limit : ℕ) (o : Outer) (t : Body) (h : Half) (image new : List ℕ) (marks : List Mark) (control : ℕ) → suits h SEMI ≡ true → frames o ≡ 0 → IsKnown rt SEMI → rt 5 ≡ control → Drafted rt at o t h image marks → new ≡ image ++ cell_bytes control → at + length new ≤ limit → Finishes rt at limit o t h new
end_ok rt at limit o t h image new marks control s f known r d i room' =
    let e = semi_free h s in
    let x = closed_is o t f in
    record {
      body = x.0;
      is = grind arith;
      bytes = end_is rt at o t x.0 image new marks control x.1 r (subst (λ g. Drafted rt at o t g image marks) e d) i;
      known = known;
      room = room';
    }

-- what tests say
pub false_test : (b : Bool) (P : Type 0) → IsTrue b ↔ P → b ≡ false → P → ⊥
false_test b P h e p = let t = h.1 p in cc

pub not_over : (b : Bool) (m n : ℕ) → IsTrue b ↔ (m < n) → b ≡ false → n ≤ m
not_over b m n h e = omega (arith, false_test b (m < n) h e)

pub open_some : (b : Bool) (n f : ℕ) → IsTrue b ↔ (n ≡ 0) → b ≡ false → n ≡ f → 0 < f
open_some b n f h e m = omega (arith, false_test b (n ≡ 0) h e)

pub not_deep : (b : Bool) (w : Bool) (n f : ℕ) → IsTrue b ↔ ((w ≡ true) × (64 ≤ n)) → b ≡ false → n ≡ f → w ≡ true → f < 64
not_deep b w n f h e m t = omega (arith, λ (g : 64 ≤ n). false_test b ((w ≡ true) × (64 ≤ n)) h e (t, g))

-- no second DOES>
pub once_if : (b : Bool) (w : Token) (p q : Bool) → IsTrue b ↔ ((w ≡ DOES) × (p ≡ true)) → b ≡ false → p ≡ q → w ≡ DOES → q ≡ false
once_if b w p q i e f d = grind (arith, false_test)
