-- A definition that is started, read and ended, against the whole of it.
use Rattle.std.proofs.Common.{◌≡◌, ◌≢◌, ℕ, zero, suc, ◌+◌, ◌-◌, ◌*◌, ◌<◌, ◌/◌, ◌≤◌, ◌⊎◌, inl, inr, ◌++◌, ◌∷◌, List, [], length, refl, sym, ap, ◌∙◌, subst, arith, Bool, true, false, length-append, append_assoc}
use Rattle.std.specs.Prelude.{◌==◌, slice_index}
use Rattle.std.proofs.lemmas.Bool.{cases_lt, eqb-true, eq-eqb}
use Rattle.std.proofs.lemmas.List.{get_or-append-add, get_or_append_left}
use Rattle.cells.specs.Cell.{wrap}
use Rattle.memory.specs.Bytes.{byte, cell, put_byte, put_cell, put_bytes, cell_bytes, written}
use Rattle.memory.specs.declared.limit.TheConstants.{GREATEST_LIMIT}
use Rattle.memory.proofs.Same.{Stands}
use Rattle.memory.proofs.Both.{cell_both, laid_has, stands_has}
use Rattle.memory.proofs.Kept.{byte_set, byte_here, byte_cell, byte_below, length_byte, length_cell, length_bytes, cell_here, cell_beside}
use Rattle.memory.proofs.Stands.{lay}
use Rattle.dictionary.specs.Search.{head_of}
use Rattle.dictionary.specs.Laying.{laid_at}
use Rattle.dictionary.specs.Adding.{header_bytes, site_of}
use Rattle.dictionary.specs.Newest.{newest_count, revealed}
use Rattle.dictionary.proofs.Pieces.{length_header}
use Rattle.dictionary.proofs.NewCounts.{reveal_new}
use Rattle.compiling_words.specs.Code.{runtime}
use Rattle.compiling_words.specs.Definitions.{begun, ended}
use Rattle.compiling_words.specs.Laying.{laid}
use Rattle.colon_bodies.specs.Tree.{Definition, all_words}
use Rattle.colon_bodies.specs.Code.{all_size, all_code, whole_code}
use Rattle.colon_bodies.proofs.Cells.{length-cell}
use Rattle.colon_bodies.proofs.Laying.{length-all}
use Rattle.resident_bodies.specs.Words.{lays_all}
use Rattle.resident_bodies.specs.Drafts.{Kept, Bodied}
use Rattle.resident_bodies.specs.Definitions.{laid_definition, Opens, Agrees}
use Rattle.resident_bodies.proofs.Controls.{all_same}
use Rattle.resident_bodies.proofs.Items.{written_is}
use Rattle.resident_bodies.proofs.Bodies.{body_laid}

-- DP, the head of a chain and LAST are written over what was written
abbrev pub tops : List ℕ → (d head x : ℕ) → List ℕ
tops p d head x = put_cell (put_cell (put_cell p 28 d) head x) 30 x

-- a head is between 42 and an address, and apart from the other cells of the system
abbrev pub IsPlaced : (head here : ℕ) → Type 0
IsPlaced head here = ((42 ≤ head) × (head + 1 < 52)) ⊎ ((256 ≤ head) × (head + 1 < here))

pub head_low : (head here : ℕ) → 256 ≤ here → IsPlaced head here → (42 ≤ head) × (head + 1 < here)
head_low head here l y0 = grind arith

pub top_byte : (p : List ℕ) (d head x j : ℕ) → head + 1 < 65536 → j / 2 ≢ 14 → j / 2 ≢ 15 → j ≢ head → j ≢ head + 1 → byte (tops p d head x) j ≡ byte p j
top_byte p d head x j h a b c e = omega (arith, byte_cell)

pub length-tops : (p : List ℕ) (d head x : ℕ) → length (tops p d head x) ≡ length p
length-tops p d head x = length_cell (put_cell (put_cell p 28 d) head x) 30 x ∙ length_cell (put_cell p 28 d) head x ∙ length_cell p 28 d

pub top_both : (p q : List ℕ) (d e head x j : ℕ) → length p ≡ 65536 → length q ≡ 65536 → head + 1 < 65536 → j / 2 ≢ 14 → byte p j ≡ byte q j → byte (tops p d head x) j ≡ byte (tops q e head x) j
top_both p q d e head x j lp lq h a s = grind (arith, byte_cell, cell_both, length_cell)

pub top_here : (p : List ℕ) (d head x : ℕ) → length p ≡ 65536 → 42 ≤ head → head + 1 < 65536 → cell (tops p d head x) 28 ≡ d
top_here p d head x l a h = omega (arith, cell_beside, cell_here)

pub top_last : (p : List ℕ) (d head x : ℕ) → length p ≡ 65536 → cell (tops p d head x) 30 ≡ x
top_last p d head x l = cell_here (put_cell (put_cell p 28 d) head x) 30 x (length_cell (put_cell p 28 d) head x ∙ length_cell p 28 d ∙ l) (omega arith)

-- headers that differ in their counts
count_other : (f g : List ℕ) (c x i : ℕ) → i ≢ length f → slice_index (f ++ (c ∷ g)) i ≡ slice_index (f ++ (x ∷ g)) i
count_other [] g c x zero h = absurd (h refl)
count_other [] g c x (suc i) h = refl
count_other (y ∷ f) g c x zero h = refl
count_other (y ∷ f) g c x (suc i) h = count_other f g c x i (λ e. h (ap suc e))

count_here : (f g : List ℕ) (c : ℕ) → slice_index (f ++ (c ∷ g)) (length f) ≡ c
count_here [] g c = refl
count_here (y ∷ f) g c = count_here f g c

abbrev pub front : (view link : ℕ) → List ℕ
front view link = cell_bytes view ++ cell_bytes link

abbrev pub whole_header : (view link count : ℕ) → List ℕ → List ℕ
whole_header view link count name = front view link ++ (count ∷ (name ++ cell_bytes 1))

length-front : (v k : ℕ) → length (front v k) ≡ 4
length-front v k = length-append (cell_bytes v) (cell_bytes k) ∙ omega (arith, length-cell v, length-cell k)

length-whole : (v k c : ℕ) (name : List ℕ) → length (whole_header v k c name) ≡ 7 + length name
length-whole v k c name = length-append (front v k) (c ∷ (name ++ cell_bytes 1)) ∙ omega (arith, length-front v k, length-append name (cell_bytes 1), length-cell 1)

header_is : (v k c : ℕ) (name extra : List ℕ) → header_bytes v k c name 1 extra ≡ whole_header v k c name ++ extra
unfolding header_bytes
header_is v k c name extra = grind (arith, append_assoc)

-- memory after `:`
begun_is : (m name : List ℕ) → begun m name ≡ put_cell (put_cell (tops (put_bytes m (cell m 28) (header_bytes (cell m 22) (cell m (head_of (cell m 34) name)) (160 + length name) name 1 [])) (wrap (cell m 28 + length (header_bytes (cell m 22) (cell m (head_of (cell m 34) name)) (160 + length name) name 1 []))) (head_of (cell m 34) name) (wrap (cell m 28 + 2))) 16 65535) 32 (cell m 34)
unfolding begun written site_of
begun_is m name = refl

-- a definition's place: what holds of it in memory before
pub record Site (m name : List ℕ) (here head : ℕ) : Type 0 where
  pub here_is : cell m 28 ≡ here
  pub head_is : head_of (cell m 34) name ≡ head
  pub all : length m ≡ 65536
  pub executing : cell m 16 ≡ 0
  pub short : length name ≤ 31
  pub low : 256 ≤ here
  pub placed : IsPlaced head here

-- what `:` puts, and what the whole is
abbrev pub opened : (m name : List ℕ) (here head : ℕ) → List ℕ
opened m name here head = tops (put_bytes m here (header_bytes (cell m 22) (cell m head) (160 + length name) name 1 [])) (here + (7 + length name)) head (here + 2)

abbrev pub opening : (m name : List ℕ) (here head : ℕ) → List ℕ
opening m name here head = put_cell (put_cell (opened m name here head) 16 65535) 32 (cell m 34)

abbrev pub closed : (m name extra : List ℕ) (here head : ℕ) → List ℕ
closed m name extra here head = tops (put_bytes m here (header_bytes (cell m 22) (cell m head) (128 + length name) name 1 extra)) (here + (7 + length name + length extra)) head (here + 2)

length-header : (v k c : ℕ) (name extra : List ℕ) → length (header_bytes v k c name 1 extra) ≡ 7 + length name + length extra
length-header v k c name extra = length_header v k c 1 name extra

pub begun_opening : (m name : List ℕ) (here head : ℕ) → Site m name here head → here + (7 + length name) ≤ GREATEST_LIMIT → begun m name ≡ opening m name here head
begun_opening m name here head s r = grind (arith, length-header, begun_is)

laid_closed : (m name : List ℕ) (here head : ℕ) (b : Definition) → Site m name here head → here + (7 + length name + length (whole_code (runtime m) b (here + (7 + length name)))) ≤ GREATEST_LIMIT → laid_definition m (cell m 22) name b ≡ closed m name (whole_code (runtime m) b (here + (7 + length name))) here head
laid_closed m name here head b s r = grind (arith, length-header, written_is)

-- what is in them
whole_has : (m name extra : List ℕ) (here head c i : ℕ) → Site m name here head → here + (7 + length name + length extra) ≤ GREATEST_LIMIT → i < 7 + length name + length extra
    → byte (put_bytes m here (header_bytes (cell m 22) (cell m head) c name 1 extra)) (here + i) ≡ slice_index (whole_header (cell m 22) (cell m head) c name ++ extra) i
whole_has m name extra here head c i s r h = grind (arith, length-header, laid_has, header_is)

pub opening_low : (m name : List ℕ) (here head j : ℕ) → Site m name here head → here + (7 + length name) ≤ GREATEST_LIMIT → j < here → j / 2 ≢ 8 → j / 2 ≢ 14 → j / 2 ≢ 15 → j / 2 ≢ 16 → j ≢ head → j ≢ head + 1 → byte (opening m name here head) j ≡ byte m j
opening_low m name here head j s r h a b c e f g = omega (arith, head_low, byte_cell, top_byte, byte_below, length-header)

pub opening_header : (m name : List ℕ) (here head i : ℕ) → Site m name here head → here + (7 + length name) ≤ GREATEST_LIMIT → i < 7 + length name → byte (opening m name here head) (here + i) ≡ slice_index (whole_header (cell m 22) (cell m head) (160 + length name) name ++ []) i
opening_header m name here head i s r h = omega (arith, head_low, byte_cell, top_byte, whole_has)

closed_has : (m name extra : List ℕ) (here head i : ℕ) → Site m name here head → here + (7 + length name + length extra) ≤ GREATEST_LIMIT → i < 7 + length name + length extra → byte (closed m name extra here head) (here + i) ≡ slice_index (whole_header (cell m 22) (cell m head) (128 + length name) name ++ extra) i
closed_has m name extra here head i s r h = omega (arith, head_low, top_byte, whole_has)

pub length-opening : (m name : List ℕ) (here head : ℕ) → Site m name here head → length (opening m name here head) ≡ 65536
length-opening m name here head s = omega (arith, length_cell, length-tops, length_bytes)

pub opening_here : (m name : List ℕ) (here head : ℕ) → Site m name here head → here + (7 + length name) ≤ GREATEST_LIMIT → cell (opening m name here head) 28 ≡ here + (7 + length name)
opening_here m name here head s r = omega (arith, head_low, cell_beside, top_here, length_bytes)

pub opening_last : (m name : List ℕ) (here head : ℕ) → Site m name here head → here + (7 + length name) ≤ GREATEST_LIMIT → cell (opening m name here head) 30 ≡ here + 2
opening_last m name here head s r = omega (arith, cell_beside, top_last, length_bytes)

pub cell_of : (m n : List ℕ) (a : ℕ) → a + 1 < 65536 → byte m a ≡ byte n a → byte m (a + 1) ≡ byte n (a + 1) → cell m a ≡ cell n a
unfolding cell
cell_of m n a h e f = let w : wrap (a + 1) ≡ a + 1 = omega arith in rw (w, e, f) refl

apart : (k head here : ℕ) → k < 32 → IsPlaced head here → (64 + 2 * k ≢ head) × (64 + 2 * k ≢ head + 1) × (64 + 2 * k + 1 ≢ head) × (64 + 2 * k + 1 ≢ head + 1)
apart k head here h y0 = grind arith

pub opening_controls : (m name : List ℕ) (here head k : ℕ) → Site m name here head → here + (7 + length name) ≤ GREATEST_LIMIT → k < 32 → runtime (opening m name here head) k ≡ runtime m k
opening_controls m name here head k s r h = grind (arith, apart, cell_of, opening_low)

-- what `;` leaves
abbrev pub finished : (s : List ℕ) → (here n e : ℕ) → List ℕ
finished s here n e = put_cell (put_byte (laid s (cell_bytes e)) (here + 4) (128 + n)) 16 0

pub kept_cell : (at a : ℕ) (m n : List ℕ) → Kept at m n → a + 1 < at → a + 1 < 65536 → a / 4 ≢ 5 → (a + 1) / 4 ≢ 5 → a / 2 ≢ 14 → (a + 1) / 2 ≢ 14 → cell m a ≡ cell n a
kept_cell at a m n k l h b c e f = cell_of m n a h (k a (omega arith) b e) (k (a + 1) l c f)

-- the place of the whole, from that of a definition started
pub site_of_opens : (m name : List ℕ) (n : ℕ) → Opens m name n → Site m name (cell m 28) (head_of (cell m 34) name)
site_of_opens m name n o = record { here_is = refl; head_is = refl; all = o.all; executing = o.executing; short = o.short; low = o.low; placed = o.head }

-- a body that is written after `:`
pub record Read (m name : List ℕ) (here head : ℕ) (b : Definition) (s : List ℕ) : Type 0 where
  pub site : Site m name here head
  pub room : here + (7 + length name + (all_size b + 2)) ≤ GREATEST_LIMIT
  pub body : Bodied (opening m name here head) (here + (7 + length name)) b s

pub length-extra : (rt : ℕ → ℕ) (b : Definition) (at : ℕ) → length (whole_code rt b at) ≡ all_size b + 2
length-extra rt b at = length-append (all_code rt b at) (cell_bytes (rt 5)) ∙ omega (arith, length-all rt b at, length-cell (rt 5))

pub ended_is : (m name s : List ℕ) (here head : ℕ) (b : Definition) → Read m name here head b s → ended s ≡ finished s here (length name) (runtime m 5)
unfolding newest_count
ended_is m name s here head b r =
    let st = r.site in
    let k = r.body.kept in
    let pf = here + (7 + length name) in
    let o = opening m name here head in
    let f = whole_header (cell m 22) (cell m head) (160 + length name) name in
    let last : cell s 30 ≡ here + 2 = kept_cell pf 30 s o k (omega arith) (omega arith) (omega arith) (omega arith) (omega arith) (omega arith) ∙ opening_last m name here head st (omega arith) in
    let four : length (front (cell m 22) (cell m head)) ≡ 4 = length-front (cell m 22) (cell m head) in
    let count : byte s (here + 4) ≡ 160 + length name =
    k (here + 4) (omega arith) (omega arith) (omega arith) ∙ opening_header m name here head 4 st (omega arith) (omega arith)
    ∙ get_or_append_left f [] 0 4 (omega (arith, length-whole (cell m 22) (cell m head) (160 + length name) name))
    ∙ ap (λ i. slice_index f i) (sym four) ∙ count_here (front (cell m 22) (cell m head)) (name ++ cell_bytes 1) (160 + length name) in
    let c : runtime s 5 ≡ runtime m 5 = kept_cell pf 74 s o k (omega arith) (omega arith) (omega arith) (omega arith) (omega arith) (omega arith) ∙ opening_controls m name here head 5 st (omega arith) (omega arith) in
    let g = λ (e p x : ℕ). put_cell (put_byte (laid s (cell_bytes e)) p (revealed x)) 16 0 in
    ap (λ e. g e (wrap (cell s 30 + 2)) (byte s (wrap (cell s 30 + 2)))) c
    ∙ ap (λ p. g (runtime m 5) p (byte s p)) (omega arith)
    ∙ ap (λ x. g (runtime m 5) (here + 4) x) count
    ∙ ap (λ x. put_cell (put_byte (laid s (cell_bytes (runtime m 5))) (here + 4) x) 16 0) (reveal_new name st.short)

-- its bytes, except the count and STATE
pub finished_byte : (s : List ℕ) (here n e j : ℕ) → j / 2 ≢ 8 → j / 2 ≢ 14 → j ≢ here + 4 → byte (finished s here n e) j ≡ byte (put_bytes s (cell s 28) (cell_bytes e)) j
unfolding laid_at
finished_byte s here n e j a b c = omega (arith, byte_cell, byte_set)

pub length-laid : (s bs : List ℕ) → length (laid s bs) ≡ length s
unfolding laid_at
length-laid s bs = length_cell (put_bytes s (cell s 28) bs) 28 (wrap (cell s 28 + length bs)) ∙ length_bytes s (cell s 28) bs

finished_count : (s : List ℕ) (here n e : ℕ) → length s ≡ 65536 → 256 ≤ here → here + 4 < 65536 → byte (finished s here n e) (here + 4) ≡ 128 + n
finished_count s here n e l a h = omega (arith, byte_cell, byte_here, length-laid)

pub finished_state : (s : List ℕ) (here n e j : ℕ) → length s ≡ 65536 → j / 2 ≡ 8 → byte (finished s here n e) j ≡ 0
unfolding put_cell
finished_state s here n e j l h = grind (arith, length_byte, length-laid, byte_set, byte_here)

low_zero : (m : List ℕ) (j : ℕ) → cell m 16 ≡ 0 → j / 2 ≡ 8 → byte m j ≡ 0
unfolding cell
low_zero m j e h = grind arith

false_not : (b : Bool) → b ≡ false → b ≡ true → ⊥
false_not b e f = grind arith

-- below the definition
agree_low : (m name s : List ℕ) (here head j : ℕ) (b : Definition) → Read m name here head b s → j < here → j / 4 ≢ 5 → j / 2 ≢ 14 → j / 2 ≢ 16
    → byte (finished s here (length name) (runtime m 5)) j ≡ byte (closed m name (whole_code (runtime m) b (here + (7 + length name))) here head) j
agree_low m name s here head j b r h a c e = by (j / 2 == 8) refl
  where
    by : (x : Bool) → (j / 2 == 8) ≡ x → byte (finished s here (length name) (runtime m 5)) j ≡ byte (closed m name (whole_code (runtime m) b (here + (7 + length name))) here head) j
    by true q =
        let st = r.site in
        let extra = whole_code (runtime m) b (here + (7 + length name)) in
        let le = length-extra (runtime m) b (here + (7 + length name)) in
        grind (arith, finished_state, top_byte, byte_below, length-header, low_zero)
    by false q =
        let st = r.site in
        let le = length-extra (runtime m) b (here + (7 + length name)) in
        grind (arith, false_not, eq-eqb, byte_below, length-header, finished_byte, length-cell, byte_cell, top_both, length_bytes)

-- its header
agree_header : (m name s : List ℕ) (here head i : ℕ) (b : Definition) → Read m name here head b s → i < 7 + length name
    → byte (finished s here (length name) (runtime m 5)) (here + i) ≡ byte (closed m name (whole_code (runtime m) b (here + (7 + length name))) here head) (here + i)
agree_header m name s here head i b r h = by (i == 4) refl
  where
    by : (x : Bool) → (i == 4) ≡ x → byte (finished s here (length name) (runtime m 5)) (here + i) ≡ byte (closed m name (whole_code (runtime m) b (here + (7 + length name))) here head) (here + i)
    by true q =
        let le = length-extra (runtime m) b (here + (7 + length name)) in
        grind (arith, eqb-true, length-front, finished_count, closed_has, get_or_append_left, length-whole, count_here)
    by false q =
        let le = length-extra (runtime m) b (here + (7 + length name)) in
        grind (arith, length-front, finished_byte, byte_below, length-cell, opening_header, get_or_append_left, length-whole, count_other, closed_has)

-- its code
agree_code : (m name s : List ℕ) (here head i : ℕ) (b : Definition) → Read m name here head b s → i < all_size b + 2
    → byte (finished s here (length name) (runtime m 5)) (here + (7 + length name) + i) ≡ byte (closed m name (whole_code (runtime m) b (here + (7 + length name))) here head) (here + (7 + length name) + i)
agree_code m name s here head i b r h =
    let pf = here + (7 + length name) in
    let e = runtime m 5 in
    let o = opening m name here head in
    let code = all_code (runtime o) b pf in
    let lc = length-all (runtime o) b pf in
    let same : code ≡ all_code (runtime m) b pf = all_same (runtime o) (runtime m) b pf (λ k lt. opening_controls m name here head k r.site (omega arith) lt) in
    let f2 = whole_header (cell m 22) (cell m head) (128 + length name) name in
    let w = length-whole (cell m 22) (cell m head) (128 + length name) name in
    let stands : Stands (put_bytes s (cell s 28) (cell_bytes e)) pf (code ++ cell_bytes e) = lay s code (cell_bytes e) pf (cell s 28) r.body.all (omega arith) (omega (arith, length-cell e)) r.body.stands in
    let j : here + (7 + length name) + i ≡ here + (7 + length name + i) = omega arith in
    grind (arith, finished_byte, stands_has, length-append, length-cell, closed_has, get_or-append-add)

-- HERE
finished_here : (s : List ℕ) (here n e : ℕ) → length s ≡ 65536 → 256 ≤ here → here + 4 < 65536 → cell s 28 + 2 ≤ GREATEST_LIMIT → cell (finished s here n e) 28 ≡ cell s 28 + 2
unfolding laid_at
finished_here s here n e l a h r =
    let p = put_bytes s (cell s 28) (cell_bytes e) in
    let c = laid s (cell_bytes e) in
    cell_beside (put_byte c (here + 4) (128 + n)) 16 0 28 (omega arith) (omega arith) (omega arith) (omega arith) (omega arith)
    ∙ cell_of (put_byte c (here + 4) (128 + n)) c 28 (omega arith) (byte_set c (here + 4) (128 + n) 28 (omega arith)) (byte_set c (here + 4) (128 + n) 29 (omega arith))
    ∙ cell_here p 28 (wrap (cell s 28 + length (cell_bytes e))) (length_bytes s (cell s 28) (cell_bytes e) ∙ l) (omega arith) ∙ omega (arith, length-cell e)

closed_here : (m name extra : List ℕ) (here head : ℕ) → Site m name here head → here + (7 + length name + length extra) ≤ GREATEST_LIMIT → cell (closed m name extra here head) 28 ≡ here + (7 + length name + length extra)
closed_here m name extra here head s r = omega (arith, head_low, top_here, length_bytes)

agrees : (m name s : List ℕ) (here head : ℕ) (b : Definition) → Read m name here head b s → Agrees (finished s here (length name) (runtime m 5)) (closed m name (whole_code (runtime m) b (here + (7 + length name))) here head)
agrees m name s here head b r =
    let st = r.site in
    let pf = here + (7 + length name) in
    let extra = whole_code (runtime m) b pf in
    let le = length-extra (runtime m) b pf in
    let new = closed_here m name extra here head st (omega arith) in
    let old = finished_here s here (length name) (runtime m 5) r.body.all st.low (omega arith) (omega arith) in
    record {
      here = old ∙ omega arith ∙ sym new;
      same = λ j lt a c e. elim (cases_lt j here) [
        | inl x ↦ agree_low m name s here head j b r x a c e
        | inr x ↦ elim (cases_lt j pf) [
          | inl y ↦
              let q : here + (j - here) ≡ j = omega arith in
              subst (λ i. byte (finished s here (length name) (runtime m 5)) i ≡ byte (closed m name extra here head) i) q (agree_header m name s here head (j - here) b r (omega arith))
          | inr y ↦
              let q : here + (7 + length name) + (j - pf) ≡ j = omega arith in
              subst (λ i. byte (finished s here (length name) (runtime m 5)) i ≡ byte (closed m name extra here head) i) q (agree_code m name s here head (j - pf) b r (omega arith))
        ]
      ];
    }

-- a definition that was started, and whose body is written, agrees with the whole once it is ended
pub ended_agrees : (m name s : List ℕ) (b : Definition) → Opens m name (all_size b + 2) → Bodied (begun m name) (cell m 28 + (7 + length name)) b s → Agrees (ended s) (laid_definition m (cell m 22) name b)
ended_agrees m name s b o h =
    let here = cell m 28 in
    let head = head_of (cell m 34) name in
    let st = site_of_opens m name (all_size b + 2) o in
    let pf = here + (7 + length name) in
    let body : Bodied (opening m name here head) pf b s = subst (λ x. Bodied x pf b s) (begun_opening m name here head st (omega arith)) h in
    let r : Read m name here head b s = record { site = st; room = omega arith; body = body } in
    let le = length-extra (runtime m) b pf in
    subst (λ x. Agrees x (laid_definition m (cell m 22) name b)) (sym (ended_is m name s here head b r))
    (subst (λ x. Agrees (finished s here (length name) (runtime m 5)) x) (sym (laid_closed m name here head b st (omega arith))) (agrees m name s here head b r))

pub definition_is : (m d name : List ℕ) (b : Definition) → Opens m name (all_size b + 2) → Agrees (ended (lays_all (all_words b) (begun m name) d).0) (laid_definition m (cell m 22) name b)
definition_is m d name b o =
    let here = cell m 28 in
    let head = head_of (cell m 34) name in
    let st = site_of_opens m name (all_size b + 2) o in
    let pf = here + (7 + length name) in
    let laid_body : Bodied (opening m name here head) pf b (lays_all (all_words b) (opening m name here head) d).0 = body_laid (opening m name here head) d pf b (length-opening m name here head st) (opening_here m name here head st (omega arith)) (omega arith) (omega arith) in
    let q : begun m name ≡ opening m name here head = begun_opening m name here head st (omega arith) in
    ended_agrees m name (lays_all (all_words b) (begun m name) d).0 b o (subst (λ x. Bodied x pf b (lays_all (all_words b) x d).0) (sym q) laid_body)
