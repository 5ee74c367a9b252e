-- What an image says: its headers, chains and views, field by field.
use Rattle.std.proofs.Common.{◌≡◌, ◌≢◌, ℕ, zero, suc, ◌+◌, ◌*◌, ◌-◌, ◌<◌, ◌≤◌, inl, inr, List, [], ◌∷◌, ◌++◌, map, length, refl, sym, ap, ◌∙◌, subst, arith, length-append, length-drop, append_assoc, append-nil}
use Rattle.std.specs.Prelude.{Bool, true, false, cond, Option, Some, None, ◌==◌, ◌&&◌, ◌%◌, slice_index, find}
use Rattle.std.specs.List.{filter, All}
use Rattle.std.specs.Str.{bytes_eq}
use Rattle.std.proofs.lemmas.Bool.{eqb-true, eq-eqb}
use Rattle.std.proofs.lemmas.List.{length-replicate}
use Rattle.std.specs.Option.{option_map}
use Rattle.cells.specs.Cell.{wrap}
use Rattle.memory.specs.Bytes.{cell, cell_bytes, front_put, byte, bytes}
use Rattle.memory.specs.Bytes as memory
use Rattle.memory.proofs.Same.{Stands}
use Rattle.dictionary.specs.Header.{view_of, is_named, count_byte, is_immediate}
use Rattle.dictionary.specs.Chain.{chain, is_longer}
use Rattle.dictionary.specs.Search.{head_of, Found, Nowhere, comes_to, walked, or_else as or_forth, first_in, first_from, sought_in, sought_from, sought}
use Rattle.memory.specs.declared.limit.TheConstants.{GREATEST_LIMIT}
use Rattle.image_builder.specs.Places.{Place}
use Rattle.image_builder.specs.Names.{Name, class_of, newest_of, newest_link, link_or_none, within, found, or_older}
use Rattle.image_builder.specs.declared.entry.Sign.TheVariants as s
use Rattle.image_builder.specs.Items.{Header, Colon, Cell, Byte, Allot, Immediate, Items, Nothing, Then, end_of, current, names, mark, new_name, sign_of, head_size, link_of, heads_of, system, head, kind_size, code_of, header_count as new_count, parameters, own, passes, items_bytes as item_bytes}
use Rattle.image_builder.specs.Grammar.{AreSound, IsLimit}
use Rattle.image_builder.specs.Headers.{Says, memory_of, IsTitled, IsVocabulary, chain_of, links_of, sought_name, titled_in, title_or, titled, IsMade}
use Rattle.image_builder.proofs.Finding.{Every, heads_marked}
use Rattle.image_builder.proofs.Imaging.{bytes_seam, record_below, length-bytes, length-field}
use Rattle.image_builder.proofs.Sound.{IsName, sound_names, sound_below}
use Rattle.image_builder.proofs.Standing.{stands_cell, stands_behind, stands_byte, stands_bytes}
use Rattle.image_builder.proofs.Headers.{has_header, header_says, items_stand, length-image, system_cell, count_says, says}
use Rattle.std.proofs.lemmas.List.Elements.{All-cons, All-nil}
use Rattle.std.specs.Int.RustNames.{bit_and}
use Rattle.colon_bodies.proofs.Cells.{length-cell}
use Rattle.dictionary.proofs.CountBits.{and_right}
use Rattle.image_builder.specs.declared.entry.Kind.{Kind}

-- The chains of an image, and what searches of it come to.

-- the items before one that makes a header
titled_room : (limit : ℕ) (t u : Items) (p : Place) → AreSound limit t → IsTitled t u p → (length p.name < 32) × (end_of u + head_size p ≤ end_of t)
titled_room limit Nothing u p h e = absurd e
titled_room limit (Then t ws i) u p h (inr e) = let r = titled_room limit t u p h.0 e in (r.0, omega (arith, r.1))
titled_room limit (Then t ws (Header q k)) u p h (inl e) =
    let a : u ≡ t = e.0 in
    let b : q ≡ p = some_is q p e.1 in
    let n : end_of u ≡ end_of t = ap end_of a in
    let m : length q.name ≡ length p.name = ap (λ x. length x.name) b in
    let f = h.1.fits in
    (subst (λ x. x < 32) m f.0, omega (arith, n, m))
  where
    some_is : (x y : Place) → Some x ≡ Some y → x ≡ y
    some_is x y e = cc
titled_room limit (Then t ws (Colon q b)) u p h (inl e) =
    let a : u ≡ t = e.0 in
    let c : q ≡ p = some_is q p e.1 in
    let n : end_of u ≡ end_of t = ap end_of a in
    let m : length q.name ≡ length p.name = ap (λ x. length x.name) c in
    let f = h.1.fits in
    (subst (λ x. x < 32) m f.0, omega (arith, n, m))
  where
    some_is : (x y : Place) → Some x ≡ Some y → x ≡ y
    some_is x y e = cc
titled_room limit _ u p h (inl e) = let q = e.1 in cc

length-zeros : length memory.zeros ≡ 65536
unfolding memory.zeros
length-zeros = length-replicate {A = ℕ} 65536 0

pub length-memory : (limit : ℕ) → IsLimit limit → (t : Items) → AreSound limit t → length (memory_of t) ≡ 65536
unfolding front_put
length-memory limit few t h = grind (arith, sound_below, length-append, length-drop, length-zeros, length-image)

-- what each header says
pub title_says : (limit : ℕ) → IsLimit limit → (t u : Items) (p : Place) → AreSound limit t → IsTitled t u p → Says (memory_of t) (end_of u + 2) p.screen (link_of u p) p.name
title_says limit few t u p h e = grind (arith, header_says, length-memory, items_stand, has_header (heads_of t) t u false p e, titled_room limit t u p h e, sound_below limit few t h)

-- all headers of items say so in a memory
abbrev pub AllSay : List ℕ → Items → Type 0
AllSay m t = (u : Items) (p : Place) → IsTitled t u p → Says m (end_of u + 2) p.screen (link_of u p) p.name

-- one more name in front of a chain
chain_end : (m : List ℕ) (k : ℕ) → chain m k 0 ≡ []
unfolding chain
chain_end m k = grind arith

chain_on : (m : List ℕ) (k l : ℕ) → l ≢ 0 → chain m (suc k) l ≡ l ∷ chain m k (cell m l)
unfolding chain
chain_on m k l h = grind (arith, eqb-true)

two_true : (a b : Bool) → (a && b) ≡ true → (a ≡ true) × (b ≡ true)
two_true a b e = grind arith

chain_more : (m : List ℕ) (voc class k : ℕ) (n : Name) (ns : List Name) → n.link ≢ 0 → cell m n.link ≡ newest_link ns n.vocabulary (class_of n.name) → ((j : ℕ) → length ns ≤ j → chain m j (newest_link ns voc class) ≡ links_of voc class ns) → length (n ∷ ns) ≤ k → chain m k (newest_link (n ∷ ns) voc class) ≡ links_of voc class (n ∷ ns)
chain_more m voc class zero n ns z c f h = absurd (omega arith)
chain_more m voc class (suc k) n ns z c f h = by ((n.vocabulary == voc) && (class_of n.name == class)) refl
  where
    by : (b : Bool) → ((n.vocabulary == voc) && (class_of n.name == class)) ≡ b → chain m (suc k) (link_or_none (cond b (Some n) (newest_of voc class ns))) ≡ map (λ x. x.link) (cond b (n ∷ filter (λ x. (x.vocabulary == voc) && (class_of x.name == class)) ns) (filter (λ x. (x.vocabulary == voc) && (class_of x.name == class)) ns))
    by true e =
        let q = two_true (n.vocabulary == voc) (class_of n.name == class) e in
        let l : cell m n.link ≡ newest_link ns voc class = c ∙ ap (λ v. newest_link ns v (class_of n.name)) (eqb-true n.vocabulary voc q.0) ∙ ap (λ d. newest_link ns voc d) (eqb-true (class_of n.name) class q.1) in
        chain_on m k n.link z ∙ ap (λ a. n.link ∷ chain m k a) l ∙ ap (λ x. n.link ∷ x) (f k (omega arith))
    by false e = f (suc k) (omega arith)

links_marked : (voc class : ℕ) (ns : List Name) → links_of voc class (mark ns) ≡ links_of voc class ns
links_marked voc class ns = grind arith

length-mark : (ns : List Name) → length (mark ns) ≡ length ns
length-mark ns = grind arith

-- the chain of a head is the names of its vocabulary and class
pub chain_is : (m : List ℕ) (voc class : ℕ) (t : Items) (k : ℕ) → AllSay m t → length (names t) ≤ k → chain m k (newest_link (names t) voc class) ≡ links_of voc class (names t)
chain_is m voc class Nothing k f h = chain_end m k
chain_is m voc class (Then t ws (Header p x)) k f h =
    let y = f t p (inl (refl, refl)) in
    chain_more m voc class k (new_name t p (sign_of x)) (names t) (omega arith) y.links (λ j g. chain_is m voc class t j (λ u q e. f u q (inr e)) g) h
chain_is m voc class (Then t ws (Colon p b)) k f h =
    let y = f t p (inl (refl, refl)) in
    chain_more m voc class k (new_name t p s.Plain) (names t) (omega arith) y.links (λ j g. chain_is m voc class t j (λ u q e. f u q (inr e)) g) h
chain_is m voc class (Then t ws Immediate) k f h = grind (arith, heads_marked, length-mark, links_marked, chain_is m voc class t k (λ u q e. f u q (inr e)) (omega (arith, length-mark (names t))))
chain_is m voc class (Then t ws _) k f h = chain_is m voc class t k (λ u q e. f u q (inr e)) h

-- seven bytes a name at least
few_names : (t : Items) → 7 * length (names t) + 256 ≤ end_of t
few_names Nothing = omega arith
few_names (Then t ws Immediate) = omega (arith, few_names t, length-mark (names t))
few_names (Then t ws _) = omega (arith, few_names t)

pub names_few : (limit : ℕ) → IsLimit limit → (t : Items) → AreSound limit t → length (names t) ≤ 32768
names_few limit few t h = omega (arith, few_names t, sound_below limit few t h)

-- heads
forth_head : (t : Items) (class : ℕ) → class < 4 → system t (2 * (21 + class)) ≡ newest_link (names t) 42 class
forth_head t (suc (suc zero)) h = refl
forth_head t (suc (suc (suc zero))) h = refl
forth_head t (suc (suc (suc (suc n)))) h = absurd (omega arith)
forth_head t class h = grind arith

pub head_is : (limit : ℕ) → IsLimit limit → (t : Items) (voc class : ℕ) → AreSound limit t → IsVocabulary t voc → class < 4 → cell (memory_of t) (voc + 2 * class) ≡ newest_link (names t) voc class
unfolding cell_bytes
head_is limit few t voc class h (inl e) lt =
    let a : voc + 2 * class ≡ 2 * (21 + class) = omega arith in
    ap (λ x. cell (memory_of t) x) a ∙ system_cell t (21 + class) (omega arith) ∙ forth_head t class lt ∙ ap (λ v. newest_link (names t) v class) (sym e)
head_is limit few t voc class h (inr r) lt =
    let b = record_below t voc r in
    let k = bytes_seam (heads_of t) (heads_of t) t false voc class r lt (λ u d e. refl) (voc + 2 * class - 256) (omega arith) in
    let x = newest_link (names t) voc class in
    let room = sound_below limit few t h in
    let st : Stands (memory_of t) (voc + 2 * class) (cell_bytes x ++ []) = items_stand t k.front (cell_bytes x) k.back (voc + 2 * class) k.new_is (omega arith) in
    stands_cell (memory_of t) (voc + 2 * class) x [] (omega arith) st

pub image_chain : (limit : ℕ) → IsLimit limit → (t : Items) (voc class : ℕ) → AreSound limit t → IsVocabulary t voc → class < 4 → chain_of (memory_of t) voc class ≡ links_of voc class (names t)
image_chain limit few t voc class h v lt =
    ap (λ l. chain (memory_of t) 32769 l) (head_is limit few t voc class h v lt)
    ∙ chain_is (memory_of t) voc class t 32769 (λ u p e. title_says limit few t u p h e) (omega (arith, names_few limit few t h))

-- what searches come to
length-links : (voc class : ℕ) (ns : List Name) → length (links_of voc class ns) ≤ length ns
length-links voc class [] = omega arith
length-links voc class (n ∷ ns) = by (length-links voc class ns) ((n.vocabulary == voc) && (class_of n.name == class))
  where
    by : length (links_of voc class ns) ≤ length ns → (b : Bool) → length (map (λ x. x.link) (cond b (n ∷ filter (λ x. (x.vocabulary == voc) && (class_of x.name == class)) ns) (filter (λ x. (x.vocabulary == voc) && (class_of x.name == class)) ns))) ≤ suc (length ns)
    by r true = omega arith
    by r false = omega arith

-- a header is named as its item says
named_says : (m : List ℕ) (l screen link : ℕ) (name bs : List ℕ) → Says m l screen link name → is_named m bs l ≡ bytes_eq name bs
unfolding is_named
named_says m l screen link name bs y = let a = y.shown in let b = y.named in rw (a, b) refl

all_named : (m bs : List ℕ) (t : Items) → AllSay m t → Every (λ n. is_named m bs n.link ≡ bytes_eq n.name bs) (names t)
all_named m bs Nothing f = tt
all_named m bs (Then t ws (Header p x)) f = (named_says m (end_of t + 2) p.screen (link_of t p) p.name bs (f t p (inl (refl, refl))), all_named m bs t (λ u q e. f u q (inr e)))
all_named m bs (Then t ws (Colon p b)) f = (named_says m (end_of t + 2) p.screen (link_of t p) p.name bs (f t p (inl (refl, refl))), all_named m bs t (λ u q e. f u q (inr e)))
all_named m bs (Then t ws Immediate) f = marked (names t) (all_named m bs t (λ u q e. f u q (inr e)))
  where
    marked : (ns : List Name) → Every (λ n. is_named m bs n.link ≡ bytes_eq n.name bs) ns → Every (λ n. is_named m bs n.link ≡ bytes_eq n.name bs) (mark ns)
    marked [] h = tt
    marked (n ∷ ns) h = h
all_named m bs (Then t ws _) f = all_named m bs t (λ u q e. f u q (inr e))

same_bytes : (xs ys : List ℕ) → bytes_eq xs ys ≡ true → xs ≡ ys
same_bytes (x ∷ xs) (y ∷ ys) e =
    let q = two_true (x == y) (bytes_eq xs ys) e in
    ap (λ z. z ∷ xs) (eqb-true x y q.0) ∙ ap (λ l. y ∷ l) (same_bytes xs ys q.1)
same_bytes xs ys e = grind (arith, two_true, eqb-true)

-- the first of a chain that is named so is the newest name of the vocabulary that is spelled so
find_links : (test : ℕ → Bool) (voc class : ℕ) (bs : List ℕ) (ns : List Name) → class ≡ class_of bs → Every (λ n. test n.link ≡ bytes_eq n.name bs) ns → find test (links_of voc class ns) ≡ option_map (λ n. n.link) (within voc bs ns)
find_links test voc class bs [] c h = refl
find_links test voc class bs (n ∷ ns) c h = by (n.vocabulary == voc) (class_of n.name == class) (bytes_eq n.name bs) (find_links test voc class bs ns c h.1) refl refl h.0
  where
    by : (a b e : Bool) → find test (links_of voc class ns) ≡ option_map (λ x. x.link) (within voc bs ns) → (class_of n.name == class) ≡ b → bytes_eq n.name bs ≡ e → test n.link ≡ bytes_eq n.name bs
        → find test (map (λ x. x.link) (cond (a && b) (n ∷ filter (λ x. (x.vocabulary == voc) && (class_of x.name == class)) ns) (filter (λ x. (x.vocabulary == voc) && (class_of x.name == class)) ns))) ≡ option_map (λ x. x.link) (cond (a && e) (Some n) (within voc bs ns))
    by true true true i q r f = let g = f ∙ r in rw g refl
    by true true false i q r f = let g = f ∙ r in rw g i
    by true false true i q r f =
        let same : n.name ≡ bs = same_bytes n.name bs r in
        let k : (class_of n.name == class) ≡ true = eq-eqb (class_of n.name) class (ap class_of same ∙ sym c) in
        cc
    by true false false i q r f = i
    by false b e i q r f = i

pub class_is : (bs : List ℕ) → slice_index bs 0 % 4 ≡ class_of bs
class_is bs = grind arith

pub class_below : (bs : List ℕ) → class_of bs < 4
class_below bs = grind arith

pub vocabulary_below : (limit : ℕ) → IsLimit limit → (t : Items) (voc : ℕ) → AreSound limit t → IsVocabulary t voc → voc + 10 ≤ GREATEST_LIMIT
vocabulary_below limit few t voc h x5 = grind (arith, record_below, sound_below)

comes_to_name : (o : Option Name) → comes_to (option_map (λ n. n.link) o) false ≡ sought_name o
comes_to_name o = grind arith

not_longer : (m : List ℕ) (n l : ℕ) → length (chain m (suc n) l) ≤ n → is_longer m n l ≡ false
unfolding is_longer
not_longer m n l h = grind arith

pub image_sought_in : (limit : ℕ) → IsLimit limit → (t : Items) (voc : ℕ) (bs : List ℕ) → AreSound limit t → IsVocabulary t voc → sought_in (memory_of t) voc bs ≡ sought_name (within voc bs (names t))
unfolding sought_in first_in head_of walked
image_sought_in limit few t voc bs h v =
    let m = memory_of t in
    let ns = names t in
    let c = class_of bs in
    let f : AllSay m t = λ u p e. title_says limit few t u p h e in
    let w : wrap (voc + 2 * (slice_index bs 0 % 4)) ≡ voc + 2 * c = let k = class_below bs in let i = class_is bs in let b = vocabulary_below limit few t voc h v in omega arith in
    let l : cell m (wrap (voc + 2 * (slice_index bs 0 % 4))) ≡ newest_link ns voc c = ap (cell m) w ∙ head_is limit few t voc c h v (class_below bs) in
    let few = names_few limit few t h in
    let a : find (is_named m bs) (chain m 32768 (newest_link ns voc c)) ≡ option_map (λ n. n.link) (within voc bs ns) =
    ap (λ ls. find (is_named m bs) ls) (chain_is m voc c t 32768 f few) ∙ find_links (is_named m bs) voc c bs ns refl (all_named m bs t f) in
    grind (arith, not_longer, chain_is, length-links, comes_to_name)

-- the machine's own search
context_is : (t : Items) → cell (memory_of t) 32 ≡ current t
context_is t = system_cell t 16 (omega arith)

sought_both : (m bs : List ℕ) → 0 < length bs → sought m bs ≡ or_forth (sought_in m (cell m 32) bs) (sought_in m 42 bs)
unfolding sought sought_from sought_in first_from
sought_both m bs l = let z : (length bs == 0) ≡ false = grind arith in rw z refl

pub image_sought : (limit : ℕ) → IsLimit limit → (t : Items) (bs : List ℕ) → AreSound limit t → 0 < length bs → sought (memory_of t) bs ≡ sought_name (found (current t) bs (names t))
image_sought limit few t bs h l = grind (arith, sound_names, context_is, image_sought_in, sought_both)

-- a header that no later one hides
equal_bytes : (xs : List ℕ) → bytes_eq xs xs ≡ true
equal_bytes [] = refl
equal_bytes (x ∷ xs) = let a : (x == x) ≡ true = eq-eqb x x refl in rw a (equal_bytes xs)

passed : (voc : ℕ) (bs : List ℕ) (newer : List Name) (n : Name) (older : List Name) → within voc bs newer ≡ None → n.vocabulary ≡ voc → n.name ≡ bs → within voc bs (newer ++ n ∷ older) ≡ Some n
passed voc bs [] n older e v w =
    let a : (n.vocabulary == voc) ≡ true = eq-eqb n.vocabulary voc v in
    let b : bytes_eq n.name bs ≡ true = ap (λ x. bytes_eq x bs) w ∙ equal_bytes bs in
    rw (a, b) refl
passed voc bs (k ∷ newer) n older e v w = by ((k.vocabulary == voc) && bytes_eq k.name bs) e (λ q. passed voc bs newer n older q v w)
  where
    by : (b : Bool) → cond b (Some k) (within voc bs newer) ≡ None → (within voc bs newer ≡ None → within voc bs (newer ++ n ∷ older) ≡ Some n) → cond b (Some k) (within voc bs (newer ++ n ∷ older)) ≡ Some n
    by true q f = cc
    by false q f = f q

pub image_finds : (limit : ℕ) → IsLimit limit → (t : Items) (newer older : List Name) (n : Name) → AreSound limit t → names t ≡ newer ++ n ∷ older → within n.vocabulary n.name newer ≡ None → sought_in (memory_of t) n.vocabulary n.name ≡ Found n.link
image_finds limit few t newer older n h e f =
    let i : IsName t n = every_in (IsName t) newer n older (subst (λ l. Every (IsName t) l) e (sound_names limit t h).1) in
    image_sought_in limit few t n.vocabulary n.name h i.vocabulary_is
    ∙ ap (λ l. sought_name (within n.vocabulary n.name l)) e
    ∙ ap sought_name (passed n.vocabulary n.name newer n older f refl refl)
  where
    every_in : (P : Name → Type 0) (xs : List Name) (x : Name) (ys : List Name) → Every P (xs ++ x ∷ ys) → P x
    every_in P [] x ys g = g.0
    every_in P (y ∷ xs) x ys g = every_in P xs x ys g.1

-- what VIEW says
abbrev Views : List ℕ → Option Place → Option Name → Type 0
Views m None None = Unit {0}
Views m (Some p) (Some n) = view_of m n.link ≡ p.screen
Views m _ _ = ⊥

views_more : (m : List ℕ) (voc : ℕ) (bs : List ℕ) (t : Items) (p : Place) (o : Option Place) (n : Name) (ns : List Name) → n.vocabulary ≡ current t → n.name ≡ p.name → view_of m n.link ≡ p.screen → Views m o (within voc bs ns) → Views m (cond ((current t == voc) && bytes_eq p.name bs) (Some p) o) (within voc bs (n ∷ ns))
views_more m voc bs t p o n ns v e y g = grind arith

views_marked : (m : List ℕ) (voc : ℕ) (bs : List ℕ) (o : Option Place) (ns : List Name) → Views m o (within voc bs ns) → Views m o (within voc bs (mark ns))
views_marked m voc bs o ns g = grind arith

views_in : (m : List ℕ) (voc : ℕ) (bs : List ℕ) (t : Items) → AllSay m t → Views m (titled_in voc bs t) (within voc bs (names t))
views_in m voc bs Nothing f = tt
views_in m voc bs (Then t ws (Header p x)) f =
    let y = f t p (inl (refl, refl)) in
    views_more m voc bs t p (titled_in voc bs t) (new_name t p (sign_of x)) (names t) refl refl y.view (views_in m voc bs t (λ u q e. f u q (inr e)))
views_in m voc bs (Then t ws (Colon p b)) f =
    let y = f t p (inl (refl, refl)) in
    views_more m voc bs t p (titled_in voc bs t) (new_name t p s.Plain) (names t) refl refl y.view (views_in m voc bs t (λ u q e. f u q (inr e)))
views_in m voc bs (Then t ws Immediate) f = views_marked m voc bs (titled_in voc bs t) (names t) (views_in m voc bs t (λ u q e. f u q (inr e)))
views_in m voc bs (Then t ws _) f = views_in m voc bs t (λ u q e. f u q (inr e))

views_or : (m : List ℕ) (o q : Option Place) (a b : Option Name) → Views m o a → Views m q b → Views m (title_or o q) (or_older a b)
views_or m o q a b g h = grind arith

image_views : (limit : ℕ) → IsLimit limit → (t : Items) (bs : List ℕ) → AreSound limit t → Views (memory_of t) (titled bs t) (found (current t) bs (names t))
image_views limit few t bs h = search (arith, title_says, views_or, views_in)

pub image_view : (limit : ℕ) → IsLimit limit → (t : Items) (bs : List ℕ) (p : Place) → AreSound limit t → 0 < length bs → titled bs t ≡ Some p → (l : ℕ) × (sought (memory_of t) bs ≡ Found l) × (view_of (memory_of t) l ≡ p.screen)
image_view limit few t bs p h l e = by (found (current t) bs (names t)) (subst (λ o. Views (memory_of t) o (found (current t) bs (names t))) e (image_views limit few t bs h)) (image_sought limit few t bs h l)
  where
    by : (o : Option Name) → Views (memory_of t) (Some p) o → sought (memory_of t) bs ≡ sought_name o → (k : ℕ) × (sought (memory_of t) bs ≡ Found k) × (view_of (memory_of t) k ≡ p.screen)
    by None g q = absurd g
    by (Some n) g q = (n.link, q, g)

pub image_no_view : (limit : ℕ) → IsLimit limit → (t : Items) (bs : List ℕ) → AreSound limit t → 0 < length bs → titled bs t ≡ None → sought (memory_of t) bs ≡ Nowhere
image_no_view limit few t bs h l e = by (found (current t) bs (names t)) (subst (λ o. Views (memory_of t) o (found (current t) bs (names t))) e (image_views limit few t bs h)) (image_sought limit few t bs h l)
  where
    by : (o : Option Name) → Views (memory_of t) None o → sought (memory_of t) bs ≡ sought_name o → sought (memory_of t) bs ≡ Nowhere
    by None g q = q
    by (Some n) g q = absurd g

-- The immediate bit of each built header is that of its name; its code field and what comes after it are its item's.

-- the names of items after which an IMMEDIATE comes or not
abbrev marked_names : Items → (immediate : Bool) → List Name
marked_names t imm = cond imm (mark (names t)) (names t)

-- the header of a name among bytes
record HasMark (bs : List ℕ) (n : Name) : Type 0 where
  before : List ℕ
  after : List ℕ
  title : Place
  link : ℕ
  code : ℕ
  is : bs ≡ before ++ (head link title n.immediate code ++ after)
  place : length before + 258 ≡ n.link
  short : length title.name < 32

more : (bs next : List ℕ) (n : Name) → HasMark bs n → HasMark (bs ++ next) n
more bs next n g = grind (arith, append_assoc)

all_more : (bs next : List ℕ) (ns : List Name) → Every (HasMark bs) ns → Every (HasMark (bs ++ next)) ns
all_more bs next [] h = tt
all_more bs next (n ∷ ns) h = (more bs next n h.0, all_more bs next ns h.1)

marked_twice : (ns : List Name) → mark ns ≡ mark (mark ns)
marked_twice ns = grind arith

has_marks : (h : ℕ → ℕ → ℕ) (limit : ℕ) (t : Items) (imm : Bool) → AreSound limit t → Every (HasMark (item_bytes h t imm)) (marked_names t imm)
has_marks h limit (Then t ws (Header p k)) true s = grind (arith, length-bytes, all_more, has_marks h limit t false s.0)
has_marks h limit (Then t ws (Header p k)) false s = grind (arith, length-bytes, all_more, has_marks h limit t false s.0)
has_marks h limit (Then t ws (Colon p b)) true s = grind (arith, length-bytes, all_more, has_marks h limit t false s.0)
has_marks h limit (Then t ws (Colon p b)) false s = grind (arith, length-bytes, all_more, has_marks h limit t false s.0)
has_marks h limit (Then t ws Immediate) true s = grind (arith, marked_twice, all_more, has_marks h limit t true s.0)
has_marks h limit (Then t ws Immediate) false s = all_more (item_bytes h t true) [] (mark (names t)) (has_marks h limit t true s.0)
has_marks h limit (Then t ws (Cell n)) imm s = all_more (item_bytes h t imm) (own h t (Cell n) imm) (marked_names t imm) (has_marks h limit t imm s.0)
has_marks h limit (Then t ws (Byte n)) imm s = all_more (item_bytes h t imm) (own h t (Byte n) imm) (marked_names t imm) (has_marks h limit t imm s.0)
has_marks h limit (Then t ws (Allot n)) imm s = all_more (item_bytes h t imm) (own h t (Allot n) imm) (marked_names t imm) (has_marks h limit t imm s.0)
has_marks h limit (Then t ws _) imm s = all_more (item_bytes h t imm) [] (marked_names t imm) (has_marks h limit t imm s.0)
has_marks h limit t imm s = grind (arith, length-bytes, all_more, marked_twice)

-- what the bit says
says_bit : (c n : ℕ) (imm : Bool) → says c imm n ≡ true → (bit_and (n + c) 64 == 64) ≡ imm
says_bit c n imm h = grind (arith, and_right)

-- bytes that are in memory begin in it
inside : (m : List ℕ) (at b : ℕ) (bs : List ℕ) → Stands m at (b ∷ bs) → at < length m
inside m at b bs s = let q = s.place in rw (s.is) (omega (arith, q, length-append s.before ((b ∷ bs) ++ s.after)))

bit_says : (m : List ℕ) (at link code : ℕ) (p : Place) (imm : Bool) → length m ≡ 65536 → length p.name < 32 → Stands m at (head link p imm code) → is_immediate m (at + 2) ≡ imm
unfolding is_immediate count_byte
bit_says m at link code p imm lm short st =
    let n = length p.name in
    let c = new_count p imm in
    let tail = p.name ++ cell_bytes code in
    let s2 : Stands m (at + 2) (cell_bytes link ++ (c ∷ tail)) = stands_behind m (cell_bytes p.screen) (cell_bytes link ++ (c ∷ tail)) at (at + 2) (omega (arith, length-cell p.screen)) st in
    let s4 : Stands m (at + 4) (c ∷ tail) = stands_behind m (cell_bytes link) (c ∷ tail) (at + 2) (at + 4) (omega (arith, length-cell link)) s2 in
    let size : at + 4 < length m = inside m (at + 4) c tail s4 in
    let w : wrap (at + 2 + 2) ≡ at + 4 = omega (arith, size, lm) in
    let b : byte m (at + 4) ≡ c = stands_byte m (at + 4) c tail s4 in
    ap (λ a. bit_and (byte m a) 64 == 64) w ∙ ap (λ x. bit_and x 64 == 64) b ∙ says_bit (cond imm 192 128) n imm (count_says imm n short)

pub marks_say : (limit : ℕ) → IsLimit limit → (t : Items) → AreSound limit t → All (λ n. is_immediate (memory_of t) n.link ≡ n.immediate) (names t)
marks_say limit few t s = each (names t) (has_marks (heads_of t) limit t false s)
  where
    one : (n : Name) → HasMark (item_bytes (heads_of t) t false) n → is_immediate (memory_of t) n.link ≡ n.immediate
    one n g =
        let st = items_stand t g.before (head g.link g.title n.immediate g.code) g.after (length g.before + 256) g.is refl in
        let e : length g.before + 256 + 2 ≡ n.link = let q = g.place in omega arith in
        subst (λ l. is_immediate (memory_of t) l ≡ n.immediate) e (bit_says (memory_of t) (length g.before + 256) g.link g.code g.title n.immediate (length-memory limit few t s) g.short st)

    each : (ns : List Name) → Every (HasMark (item_bytes (heads_of t) t false)) ns → All (λ n. is_immediate (memory_of t) n.link ≡ n.immediate) ns
    each [] h = All-nil (λ n. is_immediate (memory_of t) n.link ≡ n.immediate)
    each (n ∷ ns) h = All-cons (λ n. is_immediate (memory_of t) n.link ≡ n.immediate) n ns (one n h.0) (each ns h.1)

-- the fields of an item's header among bytes
record HasFields (bs : List ℕ) (h : ℕ → ℕ → ℕ) (t : Items) (p : Place) (k : Kind) : Type 0 where
  before : List ℕ
  after : List ℕ
  is : bs ≡ before ++ ((cell_bytes (code_of k) ++ parameters h t (end_of t + head_size p) k) ++ after)
  place : length before + 256 ≡ end_of t + (5 + length p.name)

abbrev front_of : Items → Place → Bool → List ℕ
front_of t p imm = cell_bytes p.screen ++ (cell_bytes (link_of t p) ++ (new_count p imm ∷ p.name))

length-front : (t : Items) (p : Place) (imm : Bool) → length (front_of t p imm) ≡ 5 + length p.name
length-front t p imm = omega (arith, length-append (cell_bytes p.screen) (cell_bytes (link_of t p) ++ (new_count p imm ∷ p.name)), length-append (cell_bytes (link_of t p)) (new_count p imm ∷ p.name), length-cell p.screen, length-cell (link_of t p))

in_header : (bs a b : List ℕ) (c : ℕ) (name code f : List ℕ) → bs ++ ((a ++ (b ++ (c ∷ (name ++ code)))) ++ f) ≡ (bs ++ (a ++ (b ++ (c ∷ name)))) ++ ((code ++ f) ++ [])
in_header bs a b c name code f = simp (append_assoc, append-nil)

has_fields : (h : ℕ → ℕ → ℕ) (t u : Items) (imm : Bool) (p : Place) (k : Kind) → IsMade t u p k → HasFields (item_bytes h t imm) h u p k
has_fields h Nothing u imm p k e = absurd e
has_fields h (Then t ws i) u imm p k (inl e) = grind (arith, in_header, length-append, length-front, length-bytes)
has_fields h (Then t ws i) u imm p k (inr e) = grind (arith, append_assoc, has_fields h t u (passes i imm) p k e)

pub fields_are : (t u : Items) (p : Place) (k : Kind) → IsMade t u p k → bytes (memory_of t) (end_of u + (5 + length p.name)) (2 + kind_size k) ≡ cell_bytes (code_of k) ++ parameters (heads_of t) u (end_of u + head_size p) k
fields_are t u p k e =
    let g = has_fields (heads_of t) t u false p k e in
    let bs = cell_bytes (code_of k) ++ parameters (heads_of t) u (end_of u + head_size p) k in
    let n : length bs ≡ 2 + kind_size k = omega (arith, length-append (cell_bytes (code_of k)) (parameters (heads_of t) u (end_of u + head_size p) k), length-cell (code_of k), length-field (heads_of t) u (end_of u + head_size p) k) in
    subst (λ x. bytes (memory_of t) (end_of u + (5 + length p.name)) x ≡ bs) n (stands_bytes (memory_of t) (end_of u + (5 + length p.name)) bs (items_stand t g.before bs g.after (end_of u + (5 + length p.name)) g.is g.place))
