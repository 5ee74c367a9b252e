-- Plain definitions: their words, what these compile to, and their bounds.
use Rattle.std.proofs.Common.{◌≡◌, false, ℕ, List, [], ◌∷◌, ◌++◌, sym, subst, append_assoc, arith, ◌+◌, ◌≤◌, length, Some, refl, ap, ◌∙◌, append-nil, length-append, Bool}
use Rattle.colon_bodies.specs.declared.words.Half.{Half}
use Rattle.colon_bodies.specs.declared.words.Half.TheVariants.{Free}
use Rattle.colon_bodies.specs.Tokens.{Token, DOES, SEMI, laid, NAME, AreShort}
use Rattle.colon_bodies.specs.Tree.{Body, Empty, Definition, Simple, Doing, words, all_words, named, nesting, all_nesting}
use Rattle.colon_bodies.specs.Rules.{half_after, half_of, AreKnown}
use Rattle.colon_bodies.specs.Open.{Top}
use Rattle.colon_bodies.specs.Plain.{IsPlainBody, IsPlainDefinition, AreApart, spelled, all_spelled, respelled}
use Rattle.see.specs.PlainWords.{IsPlainWord, ArePlainWords}
use Rattle.std.specs.Prelude.{IsTrue, ◌↔◌}
use Rattle.colon_bodies.proofs.Taking.{half-open, half-append, known-append, laid-append, laid-all}
use Rattle.colon_bodies.proofs.Exact.{known_front, known_last, ends_alone, no_fault}
use Rattle.colon_bodies.proofs.Parts.{by_parts}
use Rattle.colon_bodies.specs.declared.fault.BodyCause.{BodyCause}
use Rattle.colon_bodies.specs.declared.fault.BodyCause.TheVariants as r
use Rattle.colon_bodies.specs.Code.{whole_code}
use Rattle.colon_bodies.specs.Faults.{IsFault}
use Rattle.colon_bodies.specs.Draft.{Compiled}
use Rattle.see.specs.Shown.{Shown, Makes, Compiles, IsThread, IsWithinBounds}
use Rattle.colon_bodies.proofs.Reading.{accept, accept_all}
use Rattle.colon_bodies.proofs.Laying.{length-all}
use Rattle.colon_bodies.proofs.Cells.{length-cell}
use Rattle.colon_bodies.specs.Found.{found}
use Rattle.colon_bodies.proofs.Bytes.{found_again}
use Rattle.colon_bodies.proofs.Spelling.{all_spelled_words}

-- The words of plain definitions.
words_free : (t : Body) → half_of Free (words t) ≡ Free
words_free t = half-open Top t Free

split_words : (rt : ℕ → ℕ) (h : Half) (xs ys : List Token) → ArePlainWords rt h (xs ++ ys) → ArePlainWords rt h xs × ArePlainWords rt (half_of h xs) ys
split_words rt h [] ys p = (tt, p)
split_words rt h (x ∷ xs) ys p = let s = split_words rt (half_after h x) xs ys p.1 in ((p.0, s.0), s.1)

join_words : (rt : ℕ → ℕ) (h : Half) (xs ys : List Token) → ArePlainWords rt h xs → ArePlainWords rt (half_of h xs) ys → ArePlainWords rt h (xs ++ ys)
join_words rt h [] ys p q = q
join_words rt h (x ∷ xs) ys p q = (p.0, join_words rt (half_after h x) xs ys p.1 q)

apart : (rt : ℕ → ℕ) (t : Body) (ys : List Token) → ArePlainWords rt Free (words t ++ ys) → ArePlainWords rt Free (words t) × ArePlainWords rt Free ys
apart rt t ys p = let s = split_words rt Free (words t) ys p in (s.0, subst (λ h. ArePlainWords rt h ys) (words_free t) s.1)

along : (rt : ℕ → ℕ) (t : Body) (ys : List Token) → ArePlainWords rt Free (words t) → ArePlainWords rt Free ys → ArePlainWords rt Free (words t ++ ys)
along rt t ys p q = join_words rt Free (words t) ys p (subst (λ h. ArePlainWords rt h ys) (sym (words_free t)) q)

known_back : (rt : ℕ → ℕ) (xs ys : List Token) → AreKnown rt (xs ++ ys) → AreKnown rt ys
known_back rt [] ys h = h
known_back rt (x ∷ xs) ys h = known_back rt xs ys h.1

known_parts : (rt : ℕ → ℕ) (xs ys : List Token) → AreKnown rt (xs ++ ys) ↔ (AreKnown rt xs × AreKnown rt ys)
known_parts rt xs ys = (λ h. (known_front rt xs ys h, known_back rt xs ys h), λ h. known-append rt xs ys h.0 h.1)

plain_parts : (rt : ℕ → ℕ) (t : Body) (ys : List Token) → ArePlainWords rt Free (words t ++ ys) ↔ (ArePlainWords rt Free (words t) × ArePlainWords rt Free ys)
plain_parts rt t ys = (λ h. apart rt t ys h, λ h. along rt t ys h.0 h.1)

plain_is : (rt : ℕ → ℕ) (t : Body) → ArePlainWords rt Free (words t) → AreKnown rt (words t) → IsPlainBody rt t
plain_is rt = by_parts (λ t. ArePlainWords rt Free (words t) → AreKnown rt (words t) → IsPlainBody rt t) (elim [ Empty ↦ λ ih p k. tt | t ↦ λ ih p k. grind (arith, plain_parts, known_parts, ih) ])

pub all_plain_is : (rt : ℕ → ℕ) (d : Definition) (ys : List Token) → ArePlainWords rt Free (all_words d ++ ys) → AreKnown rt (all_words d ++ ys) → IsPlainDefinition rt d
all_plain_is rt (Simple t) ys p k = plain_is rt t (split_words rt Free (words t) ys p).0 (known_front rt (words t) ys k)
all_plain_is rt (Doing t a) ys p k =
    let q = split_words rt Free (words t ++ (DOES ∷ words a)) ys p in
    let l = known_front rt (words t ++ (DOES ∷ words a)) ys k in
    grind (arith, plain_is, known_front, apart rt t _ q.0, known_back rt (words t) _ l)

is_plain : (rt : ℕ → ℕ) (t : Body) → IsPlainBody rt t → ArePlainWords rt Free (words t)
is_plain rt = by_parts (λ t. IsPlainBody rt t → ArePlainWords rt Free (words t)) (elim [ Empty ↦ λ ih h. tt | t ↦ λ ih h. grind (arith, along, ih) ])

pub are_all_plain : (rt : ℕ → ℕ) (d : Definition) → IsPlainDefinition rt d → ArePlainWords rt Free (all_words d ++ SEMI ∷ [])
are_all_plain rt d h = grind (arith, along, is_plain, append_assoc)

-- word by word
pub record Plainly (rt : ℕ → ℕ) (h : Half) (done : List Token) : Type 0 where
  pub half_is : h ≡ half_of Free done
  pub plain : ArePlainWords rt Free done

pub plainly_on : (rt : ℕ → ℕ) (h : Half) (done : List Token) (w : Token) → Plainly rt h done → IsPlainWord rt h w → Plainly rt (half_after h w) (done ++ w ∷ [])
plainly_on rt h done w p q = grind (arith, half-append, join_words)

pub plainly_not : (rt : ℕ → ℕ) (h : Half) (done after all : List Token) (w : Token) → Plainly rt h done → all ≡ done ++ (w ∷ after) → ArePlainWords rt Free all → IsPlainWord rt h w
plainly_not rt h done after all w p e q = grind (arith, split_words)

pub not_true : (P : Type 0) → IsTrue false → P
not_true P z = cc

-- What is compiled again.
no_length : (xs : List Token) → length xs ≡ 0 → xs ≡ []
no_length [] h = refl
no_length (x ∷ xs) h = absurd (omega arith)

-- all the words were compiled, to these bytes
pub made : (rt : ℕ → ℕ) (at limit : ℕ) (source : List Token) (image bytes : List ℕ) (used : ℕ) → Compiled rt at limit source image used → used ≡ length source → image ≡ bytes → Makes rt at bytes source
made rt at limit source image bytes used c u e = grind (arith, length-append, no_length, append-nil)

-- the words of a definition compile to that definition
same_some : (t u : Definition) → ◌≡◌ {A = _} (Some t) (Some u) → t ≡ u
same_some t u e = cc

pub compiles_to : (rt : ℕ → ℕ) (at limit : ℕ) (source : List Token) (image : List ℕ) (used : ℕ) (d : Definition) → Compiled rt at limit source image used → source ≡ all_words d ++ SEMI ∷ [] → (used ≡ length source) × (image ≡ whole_code rt d at)
compiles_to rt at limit source image used d c e =
    let g = c.good in
    let all : all_words d ++ SEMI ∷ [] ≡ all_words c.body ++ (SEMI ∷ g.after) = sym e ∙ g.is ∙ append_assoc (all_words c.body) (SEMI ∷ []) g.after in
    let n = ends_alone c.body d g.after (ap (accept Top Empty Free) (sym all) ∙ accept_all d) in
    let same : c.body ≡ d = same_some c.body d (sym (accept_all c.body) ∙ ap (λ a. accept Top Empty Free (all_words c.body ++ (SEMI ∷ a))) (sym n) ∙ ap (accept Top Empty Free) (sym all) ∙ accept_all d) in
    (g.used_is ∙ ap (λ b. length (all_words b ++ SEMI ∷ [])) same ∙ ap length (sym e), c.is ∙ ap (λ b. whole_code rt b at) same)

-- they have no fault
pub compiles_well : (rt : ℕ → ℕ) (at limit : ℕ) (source : List Token) (place : ℕ) (cause : BodyCause) (d : Definition) → Compiles rt at limit d → source ≡ all_words d ++ SEMI ∷ [] → IsFault rt at limit source place cause → cause ≡ r.Memory
compiles_well rt at limit source place cause d k e f =
    no_fault rt at limit source d (length (all_words d ++ SEMI ∷ [])) place cause
    (record { after = []; is = e ∙ sym (append-nil (all_words d ++ SEMI ∷ [])); used_is = refl; shallow = k.shallow; known = k.known; short = k.short; room = k.room }) f

-- what a plain definition writes has cells
plain_known : (rt : ℕ → ℕ) (t : Body) → IsPlainBody rt t → AreKnown rt (words t)
plain_known rt = by_parts (λ t. IsPlainBody rt t → AreKnown rt (words t)) (elim [ Empty ↦ λ ih h. tt | t ↦ λ ih h. grind (arith, known-append, ih) ])

pub thread_compiles : (rt : ℕ → ℕ) (at limit : ℕ) (bytes : List ℕ) (d : Definition) → at + length bytes ≤ limit → IsThread rt at bytes d → Compiles rt at limit d
thread_compiles rt at limit bytes d room h = grind (arith, known-append, length-append, length-all, length-cell, laid-all, laid-append, plain_known)

pub found_in : (rt : ℕ → ℕ) (at : ℕ) (bytes : List ℕ) (d : Definition) → AreApart rt → IsThread rt at bytes d → found rt bytes at ≡ Some d
found_in rt at bytes d a h = ap (λ b. found rt b at) (sym h.is) ∙ found_again rt a d at h.plain

pub shown : (rt : ℕ → ℕ) (at : ℕ) (bytes : List ℕ) (ws : List Token) → ArePlainWords rt Free ws → Makes rt at bytes ws → Shown rt at bytes ws
shown rt at bytes ws p m = grind (arith, all_plain_is, known_last)

pub plainly : (rt : ℕ → ℕ) (d : Definition) (ws : List Token) → IsPlainDefinition rt d → ws ≡ all_words d ++ SEMI ∷ [] → ArePlainWords rt Free ws
plainly rt d ws h e = subst (λ l. ArePlainWords rt Free l) (sym e) (are_all_plain rt d h)

pub thread_laid : (rt : ℕ → ℕ) (at : ℕ) (bytes : List ℕ) (d : Definition) (ws : List Token) → ws ≡ all_words d ++ SEMI ∷ [] → whole_code rt d at ≡ bytes → laid ws ≤ length bytes
thread_laid rt at bytes d ws e h = grind (arith, length-append, length-all, length-cell, laid-all, laid-append)

-- Forced names leave a definition within its bounds.

-- they are no structures
spelled_depth : (f : ℕ → Bool) (t : Body) → nesting (spelled f t) ≡ nesting t
spelled_depth f = by_parts (λ t. nesting (spelled f t) ≡ nesting t) (elim [ Empty ↦ λ ih. refl | t ↦ λ ih. grind (arith, ih) ])

all_spelled_depth : (f : ℕ → Bool) (d : Definition) → all_nesting (all_spelled f d) ≡ all_nesting d
all_spelled_depth f d = grind (arith, spelled_depth)

-- they write no control, and are no texts
named_known : (rt : ℕ → ℕ) (b : Bool) (w : ℕ) (ws : List Token) → AreKnown rt ws → AreKnown rt (named b w ++ ws)
named_known rt b w ws h = grind arith

respelled_known : (rt : ℕ → ℕ) (f : ℕ → Bool) (ws : List Token) → AreKnown rt ws → AreKnown rt (respelled f ws)
respelled_known rt f [] h = tt
respelled_known rt f (NAME w ∷ ws) h = named_known rt (f w) w (respelled f ws) (respelled_known rt f ws h.1)
respelled_known rt f (w ∷ ws) h = (h.0, respelled_known rt f ws h.1)

named_short : (b : Bool) (w : ℕ) (ws : List Token) → AreShort ws → AreShort (named b w ++ ws)
named_short b w ws h = grind arith

respelled_short : (f : ℕ → Bool) (ws : List Token) → AreShort ws → AreShort (respelled f ws)
respelled_short f [] h = tt
respelled_short f (NAME w ∷ ws) h = named_short (f w) w (respelled f ws) (respelled_short f ws h.1)
respelled_short f (w ∷ ws) h = (h.0, respelled_short f ws h.1)

pub spelled_within : (rt : ℕ → ℕ) (at : ℕ) (bytes : List ℕ) (f : ℕ → Bool) (d : Definition) → IsThread rt at bytes d → IsWithinBounds rt (all_spelled f d)
spelled_within rt at bytes f d h = grind (arith, all_spelled_words, all_spelled_depth, known-append, respelled_known, respelled_short, plain_known)
