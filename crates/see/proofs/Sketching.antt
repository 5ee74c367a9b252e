-- Words without their BEGINs, and how many of these are at each place.
use Rattle.std.proofs.Common.{◌≡◌, Bool, ℕ, zero, suc, ◌+◌, ◌<◌, ◌≤◌, ◌==◌, if◌then◌else◌, List, [], ◌∷◌, ◌++◌, length, map, drop, get_or, refl, sym, ap, ◌∙◌, arith, append_assoc, append-nil}
use Rattle.std.proofs.lemmas.Bool.{ne_eqb, cases_eq}
use Rattle.std.proofs.lemmas.List.{get_or-drop, drop_more, drop_all}
use Rattle.std.specs.Prelude.{slice_index}
use Rattle.colon_bodies.specs.Tokens.{Token, FORCE, THEN, BEGIN, SEMI, laid, laid_by}
use Rattle.colon_bodies.specs.Tree.{Body, Empty, Definition, words, all_words}
use Rattle.see.specs.Places.{without_begins, once, begins, IsSketch, opened, Leads, AreLed, AreUnforced}
use Rattle.colon_bodies.proofs.Parts.{by_parts}

-- words after words
pub without-append : (xs ys : List Token) → without_begins (xs ++ ys) ≡ without_begins xs ++ without_begins ys
without-append [] ys = refl
without-append (BEGIN ∷ xs) ys = without-append xs ys
without-append (x ∷ xs) ys = ap (λ l. x ∷ l) (without-append xs ys)

pub begins-append : (xs ys : List Token) (n p : ℕ) → begins (xs ++ ys) n p ≡ begins xs n p + begins ys (n + laid xs) p
begins-append [] ys n p = grind (arith)
begins-append (BEGIN ∷ xs) ys n p = grind (arith, begins-append xs ys n p)
begins-append (x ∷ xs) ys n p = grind (arith, begins-append xs ys (n + laid_by x) p)

pub unforced-append : (xs ys : List Token) → AreUnforced xs → AreUnforced ys → AreUnforced (xs ++ ys)
unforced-append [] ys h k = k
unforced-append (FORCE ∷ xs) ys h k = h
unforced-append (x ∷ xs) ys h k = unforced-append xs ys h k

pub unforced_parts : (xs ys : List Token) → AreUnforced (xs ++ ys) → AreUnforced xs × AreUnforced ys
unforced_parts [] ys h = (tt, h)
unforced_parts (FORCE ∷ xs) ys h = absurd h
unforced_parts (x ∷ xs) ys h = unforced_parts xs ys h

-- one BEGIN
pub once_elsewhere : (n p : ℕ) → (n ≡ p → ⊥) → once n p ≡ 0
once_elsewhere n p h = ap (λ (b : Bool). if b then 1 else 0) (ne_eqb n p h)

-- places below, and places further on
begins_below : (xs : List Token) (n p : ℕ) → p < n → begins xs n p ≡ 0
begins_below [] n p h = refl
begins_below (BEGIN ∷ xs) n p h = omega (arith, once_elsewhere n p (λ e. omega arith), begins_below xs n p h)
begins_below (x ∷ xs) n p h = begins_below xs (n + laid_by x) p (omega arith)

once_on : (k n p : ℕ) → once (k + n) (k + p) ≡ once n p
once_on k n p = grind (arith, cases_eq, once_elsewhere)

begins_on : (xs : List Token) (k n p : ℕ) → begins xs (k + n) (k + p) ≡ begins xs n p
begins_on [] k n p = refl
begins_on (BEGIN ∷ xs) k n p = omega (arith, once_on k n p, begins_on xs k n p)
begins_on (x ∷ xs) k n p = grind (arith, begins_on xs k (n + laid_by x) p)

-- the words again, from the others and the places
abbrev pub first_count : List ℕ → (size : ℕ) → ℕ
first_count counts size = if size == 0 then 0 else slice_index counts 0

abbrev pub filled : List ℕ → List Token → List Token
filled counts [] = []
filled counts (w ∷ ws) = opened (first_count counts (laid_by w)) (w ∷ filled (drop (laid_by w) counts) ws)

first_of_laid : (counts : List ℕ) (size : ℕ) → 0 < size → first_count counts size ≡ slice_index counts 0
first_of_laid counts size h = ap (λ b. if b then 0 else slice_index counts 0) (ne_eqb size 0 (λ e. omega arith))

opened_more : (n : ℕ) (ws : List Token) → opened n (BEGIN ∷ ws) ≡ opened (suc n) ws
opened_more zero ws = refl
opened_more (suc n) ws = ap (λ l. BEGIN ∷ l) (opened_more n ws)

pub opened-append : (n : ℕ) (ws : List Token) → opened n ws ≡ opened n [] ++ ws
opened-append zero ws = refl
opened-append (suc n) ws = ap (λ l. BEGIN ∷ l) (opened-append n ws)

pub opened_next : (n : ℕ) → opened (n + 1) [] ≡ opened n [] ++ BEGIN ∷ []
opened_next n =
    let e : n + 1 ≡ suc n = omega arith in
    ap (λ k. opened k []) e ∙ sym (opened_more n []) ∙ opened-append n (BEGIN ∷ [])

-- lists that are seen as tokens
pub map_snoc : {X : Type 0} (f : X → Token) (xs : List X) (x : X) → map f (xs ++ x ∷ []) ≡ map f xs ++ f x ∷ []
map_snoc f [] x = refl
map_snoc f (a ∷ xs) x = ap (λ l. f a ∷ l) (map_snoc f xs x)

-- one word is written after its BEGINs
pub filled_on : {X : Type 0} (tok : X → Token) (ws : List X) (i : ℕ) (d : X) (counts left : List ℕ) (done done1 done2 : List X) (n size : ℕ) (all : List Token) → i < length ws → size ≡ laid_by (tok (get_or ws i d)) → n ≡ first_count counts size → left ≡ drop size counts → map tok done1 ≡ map tok done ++ opened n [] → done2 ≡ done1 ++ get_or ws i d ∷ [] → map tok done ++ filled counts (map tok (drop i ws)) ≡ all → map tok done2 ++ filled left (map tok (drop (i + 1) ws)) ≡ all
filled_on tok ws i d counts left done done1 done2 n size all h s c l e1 e2 z = grind (arith, drop_more, opened-append, map_snoc, append_assoc)

pub filled_end : {X : Type 0} (tok : X → Token) (ws : List X) (i : ℕ) (counts : List ℕ) (done : List Token) (all : List Token) → length ws ≤ i → done ++ filled counts (map tok (drop i ws)) ≡ all → done ≡ all
filled_end tok ws i counts done all h z = sym (append-nil done) ∙ ap (λ k. done ++ filled counts (map tok k)) (sym (drop_all i ws h)) ∙ z

-- the places of what comes after one word
behind : (counts : List ℕ) (xs : List Token) (k : ℕ) → 0 < k → ((p : ℕ) → 0 < p → slice_index counts p ≡ begins xs (0 + k) p) → (p : ℕ) → slice_index (drop k counts) p ≡ begins xs 0 p
behind counts xs k h e p =
    let m : 0 + k ≡ k + 0 = omega arith in
    get_or-drop k counts p 0 ∙ e (k + p) (omega arith) ∙ ap (λ j. begins xs j (k + p)) m ∙ begins_on xs k 0 p

-- j BEGINs were passed already
refilled : (xs : List Token) (counts : List ℕ) (j : ℕ) → (0 < j → Leads xs) → AreLed xs → slice_index counts 0 ≡ j + begins xs 0 0 → ((p : ℕ) → 0 < p → slice_index counts p ≡ begins xs 0 p) → filled counts (without_begins xs) ≡ opened j xs
refilled (BEGIN ∷ xs) counts j h l e k = grind (arith, once_elsewhere, opened_more, refilled xs counts (suc j) (λ _. l.0) l.1 (omega (arith, e)) (λ p q. k p q ∙ omega (arith, once_elsewhere 0 p (λ z. omega arith))))
refilled (THEN ∷ xs) counts zero h l e k = ap (λ r. THEN ∷ r) (refilled xs counts 0 (λ q. absurd (omega arith)) l e k)
refilled (FORCE ∷ xs) counts zero h l e k = ap (λ r. FORCE ∷ r) (refilled xs counts 0 (λ q. absurd (omega arith)) l e k)
refilled (w ∷ xs) counts j h l e k =
    let s : 0 < laid_by w = omega arith in
    let b = behind counts xs (laid_by w) s k in
    let r = refilled xs (drop (laid_by w) counts) 0 (λ q. absurd (omega arith)) l (b 0 ∙ omega arith) (λ p q. b p) in
    grind (arith, first_of_laid, begins_below)
refilled xs counts j h l e k = grind (arith, once_elsewhere, opened_more, behind, first_of_laid, begins_below)

pub filled_again : (whole ws : List Token) (counts : List ℕ) → IsSketch whole ws counts → AreLed whole → filled counts ws ≡ whole
filled_again whole ws counts s l =
    ap (filled counts) s.words_are ∙ refilled whole counts 0 (λ q. absurd (omega arith)) l (s.counts_are 0 ∙ omega arith) (λ p q. s.counts_are p)

-- each BEGIN of a definition leads to a word that writes something
leads-append : (xs ys : List Token) → Leads xs → Leads (xs ++ ys)
leads-append (BEGIN ∷ xs) ys h = leads-append xs ys h
leads-append xs ys h = grind arith

led-append : (xs ys : List Token) → AreLed xs → AreLed ys → AreLed (xs ++ ys)
led-append [] ys h k = k
led-append (BEGIN ∷ xs) ys h k = (leads-append xs ys h.0, led-append xs ys h.1 k)
led-append (x ∷ xs) ys h k = led-append xs ys h k

-- a body in front of what leads
leads_words : (t : Body) (ys : List Token) → AreUnforced (words t) → Leads ys → Leads (words t ++ ys)
leads_words = by_parts (λ t. (ys : List Token) → AreUnforced (words t) → Leads ys → Leads (words t ++ ys)) (elim [ Empty ↦ λ ih ys u h. h | t ↦ λ ih ys u h. grind (arith, unforced_parts, leads-append, append_assoc, ih) ])

-- a body, and more after it
led_behind : (xs tail : List Token) → (AreUnforced xs → AreLed xs) → AreUnforced (xs ++ tail) → (AreUnforced tail → AreLed tail) → AreLed (xs ++ tail)
led_behind xs tail ih u h = let p = unforced_parts xs tail u in led-append xs tail (ih p.0) (h p.1)

led_words : (t : Body) → AreUnforced (words t) → AreLed (words t)
led_words = by_parts (λ t. AreUnforced (words t) → AreLed (words t)) (elim [ Empty ↦ λ ih u. tt | t ↦ λ ih u. grind (arith, led-append, unforced_parts, leads_words, ih) ])

pub led_definition : (d : Definition) → AreUnforced (all_words d) → AreLed (all_words d ++ SEMI ∷ [])
led_definition d u = grind (arith, led-append, led_words, led_behind)
