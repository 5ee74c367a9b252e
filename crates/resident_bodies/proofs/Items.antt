-- A colon item's memory, as one header with its code after it.
use Rattle.std.proofs.Common.{◌≡◌, ◌⊎◌, ℕ, zero, suc, ◌+◌, ◌*◌, ◌-◌, ◌/◌, ◌%◌, ◌<◌, ◌≤◌, inl, inr, List, [], ◌∷◌, ◌++◌, length, drop, subst, refl, sym, ap, ◌∙◌, arith, append_assoc, length-append, length-drop}
use Rattle.std.specs.Prelude.{false, slice_set, ◌==◌, if◌then◌else◌}
use Rattle.std.proofs.Math.Seq.{set-append_seam}
use Rattle.std.proofs.lemmas.List.{drop-drop, length-replicate}
use Rattle.cells.specs.Cell.{wrap}
use Rattle.memory.specs.Bytes.{cell, put_byte, put_cell, put_bytes, cell_bytes, front_put, written}
use Rattle.memory.specs.Bytes as memory
use Rattle.memory.proofs.Kept.{wrap_small}
use Rattle.dictionary.specs.Search.{head_of}
use Rattle.dictionary.specs.Adding.{header_bytes, with_header_at}
use Rattle.dictionary.proofs.Pieces.{length_header}
use Rattle.compiling_words.specs.Code.{runtime}
use Rattle.colon_bodies.specs.Tree.{Definition}
use Rattle.colon_bodies.specs.Code.{all_size, whole_code}
use Rattle.colon_bodies.proofs.Cells.{length-cell, patched}
use Rattle.colon_bodies.proofs.Laying.{length-all}
use Rattle.image_builder.specs.Places.{Place}
use Rattle.image_builder.specs.Names.{Name, class_of, newest_link}
use Rattle.image_builder.specs.declared.entry.Sign.TheVariants as s
use Rattle.image_builder.specs.Items.{Colon, Items, Then, end_of, current, names, new_name, controls, newest_record, head, head_size, link_of, zero_bytes, items_bytes as item_bytes, heads_of, last_link, system, low, image}
use Rattle.image_builder.specs.Grammar.{IsLimit, AreSound}
use Rattle.image_builder.specs.Built.{IsRecord}
use Rattle.image_builder.specs.Headers.{memory_of}
use Rattle.image_builder.proofs.Imaging.{length-zeros, record_below, bytes_seam}
use Rattle.image_builder.proofs.Looping.{length-low}
use Rattle.image_builder.proofs.Sound.{sound_names, sound_below, end_above}
use Rattle.image_builder.proofs.Making.{headed_bytes}
use Rattle.image_builder.proofs.Headers.{length-image, system_cell, control_cell}
use Rattle.image_builder.proofs.Finding.{head_new, head_else}
use Rattle.image_builder.proofs.Chained.{head_is, class_is, class_below, vocabulary_below, length-memory}
use Rattle.resident_bodies.specs.Definitions.{Opens, laid_definition}
use Rattle.resident_bodies.proofs.Controls.{thread_same}

length-blank : length memory.zeros ≡ 65536
unfolding memory.zeros
length-blank = length-replicate {A = ℕ} 65536 0

-- bytes that are put where a list ends
pub put_at : (xs ys bs : List ℕ) (n : ℕ) → n ≡ length xs → length bs ≤ length ys → n + length bs ≤ 65535 → put_bytes (xs ++ ys) n bs ≡ xs ++ (bs ++ drop (length bs) ys)
unfolding put_bytes put_byte
put_at xs ys [] n e h l = refl
put_at xs [] (b ∷ bs) n e h l = absurd (omega arith)
put_at xs (y ∷ ys) (b ∷ bs) n e h l =
    let one : slice_set (xs ++ y ∷ ys) n b ≡ (xs ++ b ∷ []) ++ ys = ap (λ i. slice_set (xs ++ y ∷ ys) i b) e ∙ set-append_seam xs y ys b ∙ sym (append_assoc xs (b ∷ []) ys) in
    let k : n + 1 ≡ length (xs ++ b ∷ []) = omega (arith, length-append xs (b ∷ [])) in
    rw (one, wrap_small (n + 1) (omega arith)) (put_at (xs ++ b ∷ []) ys bs (n + 1) k (omega arith) (omega arith) ∙ append_assoc xs (b ∷ []) (bs ++ drop (length bs) ys))

-- a cell that is put among bytes
put_patch : (front back : List ℕ) (x y i : ℕ) → length front ≡ i → i + 1 < 65536 → put_cell (front ++ (cell_bytes y ++ back)) i x ≡ front ++ (cell_bytes x ++ back)
unfolding put_cell put_byte
put_patch front back x y i e h = ap (λ j. slice_set (slice_set (front ++ (cell_bytes y ++ back)) i (x % 256)) j (x / 256)) (wrap_small (i + 1) h) ∙ patched (front ++ (cell_bytes y ++ back)) front back x y i refl e

-- the system's cells, if memory says these
abbrev sys : (e l v r a b c d f : ℕ) → List ℕ
sys e l v r a b c d f = low (λ x.
    (if x == 18 then 10 else
    (if x == 28 then e else
    (if x == 30 then l else
    (if x == 32 then v else
    (if x == 34 then v else
    (if x == 42 then a else
    (if x == 44 then b else
    (if x == 46 then c else
    (if x == 48 then d else
    (if x == 52 then r else
    (if x == 54 then f else
    0)))))))))))) 0 32

-- with the four heads of FORTH as a function
abbrev cells : (e l v r : ℕ) → (ℕ → ℕ) → ℕ → List ℕ
cells e l v r h f = sys e l v r (h 0) (h 1) (h 2) (h 3) f

put_end : (e l v r a b c d f x : ℕ) (rest : List ℕ) → put_cell (sys e l v r a b c d f ++ rest) 28 x ≡ sys x l v r a b c d f ++ rest
unfolding put_cell put_byte cell_bytes
put_end e l v r a b c d f x rest = refl

put_last : (e l v r a b c d f x : ℕ) (rest : List ℕ) → put_cell (sys e l v r a b c d f ++ rest) 30 x ≡ sys e x v r a b c d f ++ rest
unfolding put_cell put_byte cell_bytes
put_last e l v r a b c d f x rest = refl

put_fence : (e l v r a b c d f x : ℕ) (rest : List ℕ) → put_cell (sys e l v r a b c d f ++ rest) 54 x ≡ sys e l v r a b c d x ++ rest
unfolding put_cell put_byte cell_bytes
put_fence e l v r a b c d f x rest = refl

put_head : (e l v r : ℕ) (h : ℕ → ℕ) (f k x : ℕ) (rest : List ℕ) → k < 4 → put_cell (cells e l v r h f ++ rest) (42 + 2 * k) x ≡ cells e l v r (λ i. if i == k then x else h i) f ++ rest
unfolding put_cell put_byte cell_bytes
put_head e l v r h f zero x rest lt = refl
put_head e l v r h f (suc zero) x rest lt = refl
put_head e l v r h f (suc (suc zero)) x rest lt = refl
put_head e l v r h f (suc (suc (suc zero))) x rest lt = refl
put_head e l v r h f (suc (suc (suc (suc n)))) x rest lt = absurd (omega arith)

length-sys : (e l v r a b c d f : ℕ) → length (sys e l v r a b c d f) ≡ 64
unfolding cell_bytes
length-sys e l v r a b c d f = refl

cells_same : (e l v r f : ℕ) (g h : ℕ → ℕ) → ((i : ℕ) → g i ≡ h i) → cells e l v r g f ≡ cells e l v r h f
cells_same e l v r f g h q = grind arith

-- the heads after a definition

heads_now : (t : Items) (n : Name) (k i : ℕ) → n.vocabulary ≡ 42 → class_of n.name ≡ k → (if i == k then n.link else newest_link (names t) 42 i) ≡ newest_link (n ∷ names t) 42 i
heads_now t n k i v c = grind arith

-- the bytes of memory, part by part
abbrev parts : (a c z v x : List ℕ) → List ℕ
parts a c z v x = a ++ (c ++ (z ++ (v ++ x)))

in_parts : (a c z v x : List ℕ) → (a ++ (c ++ (z ++ v))) ++ x ≡ parts a c z v x
in_parts a c z v x = simp append_assoc

among : (a c z f w g x : List ℕ) → parts a c z (f ++ (w ++ g)) x ≡ (a ++ (c ++ (z ++ f))) ++ (w ++ (g ++ x))
among a c z f w g x = simp append_assoc

own_bytes : (v l n name code more : List ℕ) → (v ++ (l ++ (n ++ (name ++ code)))) ++ more ≡ v ++ (l ++ (n ++ (name ++ (code ++ more))))
own_bytes v l n name code more = simp append_assoc

behind_all : (a c z v o x : List ℕ) → (a ++ (c ++ (z ++ (v ++ o)))) ++ x ≡ parts a c z v (o ++ x)
behind_all a c z v o x = simp append_assoc

-- the writes of a definition on an image's memory, at an end, a head and an end to come
abbrev writes : List ℕ → (here head : ℕ) → List ℕ → List ℕ
writes m here head hb = put_cell (put_cell (put_cell (put_bytes m here hb) 28 (wrap (here + length hb))) head (wrap (here + 2))) 30 (wrap (here + 2))

abbrev header_of : (view link : ℕ) → List ℕ → List ℕ → List ℕ
header_of view link name extra = header_bytes view link (128 + length name) name 1 extra

pub written_is : (m : List ℕ) (view : ℕ) (name : List ℕ) (b : Definition) → laid_definition m view name b ≡ writes m (cell m 28) (head_of (cell m 34) name) (header_of view (cell m (head_of (cell m 34) name)) name (whole_code (runtime m) b (cell m 28 + (7 + length name))))
unfolding with_header_at written
written_is m view name b = refl

written_at : (m : List ℕ) (view : ℕ) (name : List ℕ) (b : Definition) (rt : ℕ → ℕ) (here head link : ℕ) → cell m 28 ≡ here → head_of (cell m 34) name ≡ head → cell m head ≡ link → ((k : ℕ) → k < 32 → runtime m k ≡ rt k) → laid_definition m view name b ≡ writes m here head (header_of view link name (whole_code rt b (here + (7 + length name))))
written_at m view name b rt here head link e h l c =
    written_is m view name b
    ∙ ap (λ x. writes m x (head_of (cell m 34) name) (header_of view (cell m (head_of (cell m 34) name)) name (whole_code (runtime m) b (x + (7 + length name))))) e
    ∙ ap (λ x. writes m here x (header_of view (cell m x) name (whole_code (runtime m) b (here + (7 + length name))))) h
    ∙ ap (λ x. writes m here head (header_of view x name (whole_code (runtime m) b (here + (7 + length name))))) l
    ∙ ap (λ x. writes m here head (header_of view link name x)) (thread_same (runtime m) rt b (here + (7 + length name)) c)

-- the header is what the item writes
own_is : (t : Items) (p : Place) (b : Definition) → header_of p.screen (link_of t p) p.name (whole_code (controls t) b (end_of t + head_size p)) ≡ head (link_of t p) p false 1 ++ whole_code (controls t) b (end_of t + head_size p)
unfolding header_bytes
own_is t p b =
    let n : 128 + length p.name ≡ length p.name + 128 = omega arith in
    ap (λ c. cell_bytes p.screen ++ (cell_bytes (link_of t p) ++ ((c ∷ []) ++ (p.name ++ (cell_bytes 1 ++ whole_code (controls t) b (end_of t + head_size p)))))) n
    ∙ sym (own_bytes (cell_bytes p.screen) (cell_bytes (link_of t p)) ((length p.name + 128) ∷ []) p.name (cell_bytes 1) (whole_code (controls t) b (end_of t + head_size p)))

length-own : (t : Items) (p : Place) (b : Definition) → length (header_of p.screen (link_of t p) p.name (whole_code (controls t) b (end_of t + head_size p))) ≡ head_size p + (all_size b + 2)
length-own t p b = grind (arith, length_header, length-append, length-all, length-cell)

-- where the definition goes
name_at : (limit : ℕ) → IsLimit limit → (t : Items) (name : List ℕ) → AreSound limit t → head_of (cell (memory_of t) 34) name ≡ current t + 2 * class_of name
unfolding head_of
name_at limit few t name h =
    let v : cell (memory_of t) 34 ≡ current t = system_cell t 17 (omega arith) in
    grind (arith, vocabulary_below, sound_names, class_is, class_below)

-- the four writes, in front of a chain of FORTH
forth_writes : (limit : ℕ) → IsLimit limit → (t : Items) (ws : List Place) (p : Place) (b : Definition) (x : List ℕ) → AreSound limit t → current t ≡ 42
    → let c = low (λ a. controls t (a / 2)) 0 32 in let u = Then t ws (Colon p b) in
    put_cell (put_cell (put_cell (put_cell (parts (low (system t) 0 32) c (zero_bytes 128) (item_bytes (heads_of t) t false) x) 28 (end_of u)) (current t + 2 * class_of p.name) (end_of t + 2)) 30 (end_of t + 2)) 54 (end_of u)
    ≡ parts (low (system u) 0 32) c (zero_bytes 128) (item_bytes (heads_of u) t false) x
forth_writes limit few t ws p b x h v =
    let c = low (λ a. controls t (a / 2)) 0 32 in
    let u = Then t ws (Colon p b) in
    let k = class_of p.name in
    let e = end_of t in
    let f = end_of u in
    let l = last_link (names t) in
    let r = newest_record t in
    let g = heads_of t 42 in
    let rest = c ++ (zero_bytes 128 ++ (item_bytes (heads_of t) t false ++ x)) in
    let now = λ (i : ℕ). if i == k then e + 2 else g i in
    let same : item_bytes (heads_of t) t false ≡ item_bytes (heads_of u) t false = headed_bytes limit t p s.Plain (item_bytes (heads_of t) t false) (item_bytes (heads_of t) t false) (current t) h refl refl (λ _. refl) (λ z. absurd (z v)) in
    ap (λ m. put_cell (put_cell (put_cell m (current t + 2 * k) (e + 2)) 30 (e + 2)) 54 f) (put_end e l (current t) r (g 0) (g 1) (g 2) (g 3) e f rest)
    ∙ ap (λ i. put_cell (put_cell (put_cell (cells f l (current t) r g e ++ rest) i (e + 2)) 30 (e + 2)) 54 f) (omega arith)
    ∙ ap (λ m. put_cell (put_cell m 30 (e + 2)) 54 f) (put_head f l (current t) r g e k (e + 2) rest (class_below p.name))
    ∙ ap (λ m. put_cell m 54 f) (put_last f l (current t) r (now 0) (now 1) (now 2) (now 3) e (e + 2) rest)
    ∙ put_fence f (e + 2) (current t) r (now 0) (now 1) (now 2) (now 3) e f rest
    ∙ ap (λ y. y ++ rest) (cells_same f (e + 2) (current t) r f now (heads_of u 42) (λ i. heads_now t (new_name t p s.Plain) k i v refl))
    ∙ ap (λ w. parts (low (system u) 0 32) c (zero_bytes 128) w x) same

-- and in front of a chain of another vocabulary, whose record is among the items
record_writes : (limit : ℕ) → IsLimit limit → (t : Items) (ws : List Place) (p : Place) (b : Definition) (x : List ℕ) → AreSound limit t → IsRecord t (current t)
    → let c = low (λ a. controls t (a / 2)) 0 32 in let u = Then t ws (Colon p b) in
    put_cell (put_cell (put_cell (put_cell (parts (low (system t) 0 32) c (zero_bytes 128) (item_bytes (heads_of t) t false) x) 28 (end_of u)) (current t + 2 * class_of p.name) (end_of t + 2)) 30 (end_of t + 2)) 54 (end_of u)
    ≡ parts (low (system u) 0 32) c (zero_bytes 128) (item_bytes (heads_of u) t false) x
record_writes limit few t ws p b x h o =
    let c = low (λ a. controls t (a / 2)) 0 32 in
    let z = zero_bytes 128 in
    let u = Then t ws (Colon p b) in
    let n = new_name t p s.Plain in
    let k = class_of p.name in
    let e = end_of t in
    let f = end_of u in
    let l = last_link (names t) in
    let r = newest_record t in
    let g = heads_of t 42 in
    let old = item_bytes (heads_of t) t false in
    let new = item_bytes (heads_of u) t false in
    let w = record_below t (current t) o in
    let room = sound_below limit few t h in
    let q = bytes_seam (heads_of t) (heads_of u) t false (current t) k o (class_below p.name) (λ y d a. head_else (names t) n y d a) (current t + 2 * k - 256) (omega arith) in
    let kb = class_below p.name in
    let a = cells f l (current t) r g e in
    let front = a ++ (c ++ (z ++ q.front)) in
    let place : length front ≡ current t + 2 * k = omega (arith, length-append a (c ++ (z ++ q.front)), length-append c (z ++ q.front), length-append z q.front, length-low (λ (y : ℕ). controls t (y / 2)) 0 32, length-zeros 128, length-sys f l (current t) r (g 0) (g 1) (g 2) (g 3) e) in
    let put : put_cell (parts a c z old x) (current t + 2 * k) (e + 2) ≡ parts a c z new x =
    ap (λ y. put_cell (parts a c z y x) (current t + 2 * k) (e + 2)) q.old_is
    ∙ ap (λ y. put_cell y (current t + 2 * k) (e + 2)) (among a c z q.front (cell_bytes q.was) q.back x)
    ∙ put_patch front (q.back ++ x) (e + 2) q.was (current t + 2 * k) place (omega arith)
    ∙ sym (among a c z q.front (cell_bytes (e + 2)) q.back x)
    ∙ ap (λ y. parts a c z (q.front ++ (cell_bytes y ++ q.back)) x) (sym (head_new (names t) n))
    ∙ ap (λ y. parts a c z y x) (sym q.new_is) in
    let rest = c ++ (z ++ (new ++ x)) in
    let heads : (i : ℕ) → g i ≡ heads_of u 42 i = λ i. head_else (names t) n 42 i (λ y _. omega (arith, y, w)) in
    ap (λ m. put_cell (put_cell (put_cell m (current t + 2 * k) (e + 2)) 30 (e + 2)) 54 f) (put_end e l (current t) r (g 0) (g 1) (g 2) (g 3) e f (c ++ (z ++ (old ++ x))))
    ∙ ap (λ m. put_cell (put_cell m 30 (e + 2)) 54 f) put
    ∙ ap (λ m. put_cell m 54 f) (put_last f l (current t) r (g 0) (g 1) (g 2) (g 3) e (e + 2) rest)
    ∙ put_fence f (e + 2) (current t) r (g 0) (g 1) (g 2) (g 3) e f rest
    ∙ ap (λ y. y ++ rest) (cells_same f (e + 2) (current t) r f g (heads_of u 42) heads)

pub item_is : (limit : ℕ) → IsLimit limit → (t : Items) (ws : List Place) (p : Place) (b : Definition) → AreSound limit (Then t ws (Colon p b)) → memory_of (Then t ws (Colon p b)) ≡ put_cell (laid_definition (memory_of t) p.screen p.name b) 54 (end_of (Then t ws (Colon p b)))
unfolding front_put
item_is limit few t ws p b h =
    let u = Then t ws (Colon p b) in
    let before = h.0 in
    let e = end_of t in
    let c = low (λ a. controls t (a / 2)) 0 32 in
    let z = zero_bytes 128 in
    let old = item_bytes (heads_of t) t false in
    let extra = whole_code (controls t) b (e + head_size p) in
    let hb = header_of p.screen (link_of t p) p.name extra in
    let n = length-own t p b in
    let at = current t + 2 * class_of p.name in
    let voc = (sound_names limit t before).0 in
    let after = drop (length (image t)) memory.zeros in
    let rest = drop (length (image u)) memory.zeros in
    let la = length-image t in
    let lb = length-image u in
    let la0 : length after ≡ 65536 - length (image t) = length-drop (length (image t)) memory.zeros ∙ ap (λ x. x - length (image t)) length-blank in
    let one : laid_definition (memory_of t) p.screen p.name b ≡ writes (memory_of t) e at hb =
    written_at (memory_of t) p.screen p.name b (controls t) e at (link_of t p) (system_cell t 14 (omega arith)) (name_at limit few t p.name before) (head_is limit few t (current t) (class_of p.name) before voc (class_below p.name)) (λ k lt. control_cell t k lt) in
    let two : put_bytes (memory_of t) e hb ≡ parts (low (system t) 0 32) c z old (hb ++ rest) =
    put_at (image t) after hb e (sym la) (omega arith) (omega arith)
    ∙ ap (λ x. image t ++ (hb ++ x)) (drop-drop (length hb) (length (image t)) memory.zeros ∙ ap (λ x. drop x memory.zeros) (omega arith))
    ∙ in_parts (low (system t) 0 32) c z old (hb ++ rest) in
    let we : wrap (e + length hb) ≡ end_of u = omega arith in
    let three : put_cell (writes (memory_of t) e at hb) 54 (end_of u) ≡ put_cell (put_cell (put_cell (put_cell (parts (low (system t) 0 32) c z old (hb ++ rest)) 28 (end_of u)) at (e + 2)) 30 (e + 2)) 54 (end_of u) =
    ap (λ m. put_cell (put_cell (put_cell (put_cell m 28 (wrap (e + length hb))) at (wrap (e + 2))) 30 (wrap (e + 2))) 54 (end_of u)) two
    ∙ ap (λ x. put_cell (put_cell (put_cell (put_cell (parts (low (system t) 0 32) c z old (hb ++ rest)) 28 x) at (wrap (e + 2))) 30 (wrap (e + 2))) 54 (end_of u)) we
    ∙ ap (λ x. put_cell (put_cell (put_cell (put_cell (parts (low (system t) 0 32) c z old (hb ++ rest)) 28 (end_of u)) at x) 30 x) 54 (end_of u)) (omega arith) in
    let four : put_cell (put_cell (put_cell (put_cell (parts (low (system t) 0 32) c z old (hb ++ rest)) 28 (end_of u)) at (e + 2)) 30 (e + 2)) 54 (end_of u) ≡ parts (low (system u) 0 32) c z (item_bytes (heads_of u) t false) (hb ++ rest) =
    elim voc [ inl v ↦ forth_writes limit few t ws p b (hb ++ rest) before v | inr r ↦ record_writes limit few t ws p b (hb ++ rest) before r ] in
    let five : memory_of u ≡ parts (low (system u) 0 32) c z (item_bytes (heads_of u) t false) (hb ++ rest) =
    behind_all (low (system u) 0 32) c z (item_bytes (heads_of u) t false) (head (link_of t p) p false 1 ++ extra) rest
    ∙ ap (λ o. parts (low (system u) 0 32) c z (item_bytes (heads_of u) t false) (o ++ rest)) (sym (own_is t p b)) in
    five ∙ sym (ap (λ m. put_cell m 54 (end_of u)) one ∙ three ∙ four)

-- a definition may begin after the items
head_placed : (t : Items) (voc class : ℕ) → class < 4 → (voc ≡ 42) ⊎ IsRecord t voc → ((42 ≤ voc + 2 * class) × (voc + 2 * class + 1 < 52)) ⊎ ((256 ≤ voc + 2 * class) × (voc + 2 * class + 1 < end_of t))
head_placed t voc class h y0 = grind (arith, record_below)

pub image_opens : (limit : ℕ) → IsLimit limit → (t : Items) (name : List ℕ) (behind : ℕ) → AreSound limit t → length name ≤ 31 → end_of t + (7 + length name + behind) ≤ limit → Opens (memory_of t) name behind
image_opens limit few t name behind h l r =
    let dp : cell (memory_of t) 28 ≡ end_of t = system_cell t 14 (omega arith) in
    let ab = end_above t in
    let at : head_of (cell (memory_of t) 34) name ≡ current t + 2 * class_of name = name_at limit few t name h in
    let P = λ (x e : ℕ). ((42 ≤ x) × (x + 1 < 52)) ⊎ ((256 ≤ x) × (x + 1 < e)) in
    record {
      all = length-memory limit few t h;
      executing = system_cell t 8 (omega arith);
      short = l;
      low = omega arith;
      high = omega (arith, few.1, dp, r);
      head = subst (λ e. P (head_of (cell (memory_of t) 34) name) e) (sym dp) (subst (λ x. P x (end_of t)) (sym at) (head_placed t (current t) (class_of name) (class_below name) (sound_names limit t h).0));
    }
