-- A memory with one definition more: what it agrees with, that it stays orderly, and what the machine finds in it.
use Rattle.std.proofs.Common.{◌≡◌, ◌≢◌, ℕ, ◌+◌, ◌-◌, ◌*◌, ◌<◌, ◌/◌, ◌%◌, ◌≤◌, inl, inr, ◌++◌, ◌∷◌, List, [], length, refl, sym, ap, ◌∙◌, subst, arith, true, false, suc, ◌⊎◌, Option, Some, Bool}
use Rattle.std.specs.Prelude.{slice_index, bytes_eq, ◌==◌, if◌then◌else◌, find}
use Rattle.std.proofs.lemmas.Bool.{cases_lt}
use Rattle.std.proofs.lemmas.List.{ext_get_or, get_or-append-add, get_or_append_left}
use Rattle.cells.specs.Cell.{wrap}
use Rattle.memory.specs.Bytes.{byte, bytes, cell, put_bytes, cell_bytes}
use Rattle.memory.specs.declared.limit.TheConstants.{GREATEST_LIMIT}
use Rattle.memory.proofs.Ranges.{length-bytes, byte-bytes}
use Rattle.memory.proofs.Both.{laid_has}
use Rattle.memory.proofs.Kept.{wrap_small, byte_below, length_cell, length_bytes, cell_here, cell_beside}
use Rattle.memory.proofs.Same.{cell_by}
use Rattle.dictionary.specs.Header.{is_named, name_of, name_length, count_byte, compilation_address}
use Rattle.dictionary.specs.Search.{head_of, Sought, Found, Nowhere, comes_to, or_else, walked, first_in, first_from, sought_from, sought}
use Rattle.dictionary.specs.Adding.{header_bytes}
use Rattle.dictionary.proofs.Pieces.{length_header}
use Rattle.dictionary.proofs.NewCounts.{length_new, hidden_new}
use Rattle.dictionary.proofs.Fronted.{Fronted, HeadersApart, ChainApart, headers_same, head_same, chain_more, cuts, HeaderApart, header_same, sought_fronted}
use Rattle.compiling_words.specs.Code.{runtime}
use Rattle.colon_bodies.specs.Tree.{Definition}
use Rattle.colon_bodies.specs.Code.{whole_code, all_size}
use Rattle.resident_bodies.specs.Definitions.{laid_definition, Agrees}
use Rattle.resident_bodies.proofs.Controls.{thread_same}
use Rattle.resident_bodies.proofs.Items.{written_is}
use Rattle.resident_bodies.proofs.Ending.{tops, IsPlaced, head_low, top_byte, length-tops, top_both, top_here, opened, opening, opening_low, opening_header, length-opening, whole_header, Site, length-extra}
use Rattle.dictionary.specs.Chain.{chain, is_longer}
use Rattle.dictionary.proofs.Searches.{AreSame, chain_by, less_same, length_by, HeaderSame, ChainsSame, immediate_by, address_by, sought_by}
use Rattle.metacompiler.specs.Loop.{Words, Thread}
use Rattle.metacompiler.specs.Orderly.{IsHead, HeaderClear, HeadersClear, ChainClear, CellApart, ThreadApart, Orderly}
use Rattle.metacompiler.specs.Seen.{IsSeen, Sees}

-- A whole definition in memory, and what it leaves as it was.

-- memory with a header and what is after it, not hidden
abbrev pub whole : List ℕ → (view : ℕ) → List ℕ → (here head : ℕ) → List ℕ → List ℕ
whole m view name here head extra =
    tops (put_bytes m here (header_bytes view (cell m head) (128 + length name) name 1 extra)) (here + (7 + length name + length extra)) head (here + 2)

pub length-head : (v k c : ℕ) (name extra : List ℕ) → length (header_bytes v k c name 1 extra) ≡ 7 + length name + length extra
length-head v k c name extra = length_header v k c 1 name extra

pub whole_is : (m : List ℕ) (view : ℕ) (name : List ℕ) (here head : ℕ) (b : Definition) → Site m name here head → here + (7 + length name + length (whole_code (runtime m) b (here + (7 + length name)))) ≤ GREATEST_LIMIT
    → laid_definition m view name b ≡ whole m view name here head (whole_code (runtime m) b (here + (7 + length name)))
whole_is m view name here head b s r = grind (arith, tops, length-head, written_is)

-- its place: HERE, a head, and room
pub record Fits (m name : List ℕ) (here head n : ℕ) : Type 0 where
  pub all : length m ≡ 65536
  pub short : length name ≤ 31
  pub low : 256 ≤ here
  pub high : here + (7 + length name + n) ≤ GREATEST_LIMIT
  pub placed : IsPlaced head here

pub whole_low : (m name extra : List ℕ) (view here head j : ℕ) → Fits m name here head (length extra) → j < here → j / 2 ≢ 14 → j / 2 ≢ 15 → j ≢ head → j ≢ head + 1 → byte (whole m view name here head extra) j ≡ byte m j
whole_low m name extra view here head j f l a b c e = omega (arith, head_low, top_byte, byte_below, length-head)

pub whole_has : (m name extra : List ℕ) (view here head i : ℕ) → Fits m name here head (length extra) → i < 7 + length name + length extra
    → byte (whole m view name here head extra) (here + i) ≡ slice_index (header_bytes view (cell m head) (128 + length name) name 1 extra) i
whole_has m name extra view here head i f l = omega (arith, head_low, length-head, top_byte, laid_has)

pub length-whole_memory : (m name extra : List ℕ) (view here head : ℕ) → length m ≡ 65536 → length (whole m view name here head extra) ≡ 65536
length-whole_memory m name extra view here head l = omega (arith, length-tops, length_bytes)

pub whole_here : (m name extra : List ℕ) (view here head : ℕ) → Fits m name here head (length extra) → cell (whole m view name here head extra) 28 ≡ here + (7 + length name + length extra)
whole_here m name extra view here head f = omega (arith, head_low, top_here, length_bytes)

-- the head of the chain
top_head : (p : List ℕ) (d head x : ℕ) → length p ≡ 65536 → 42 ≤ head → head + 1 < 65536 → cell (tops p d head x) head ≡ x
top_head p d head x l a h = omega (arith, cell_beside, cell_here, length_cell)

pub whole_head : (m name extra : List ℕ) (view here head : ℕ) → Fits m name here head (length extra) → cell (whole m view name here head extra) head ≡ here + 2
whole_head m name extra view here head f = omega (arith, head_low, top_head, length_bytes)

-- the bytes of a header
head_two : (v k c : ℕ) (name extra : List ℕ) → slice_index (header_bytes v k c name 1 extra) 2 ≡ k % 256
unfolding header_bytes cell_bytes
head_two v k c name extra = refl

head_three : (v k c : ℕ) (name extra : List ℕ) → slice_index (header_bytes v k c name 1 extra) 3 ≡ k / 256
unfolding header_bytes cell_bytes
head_three v k c name extra = refl

head_four : (v k c : ℕ) (name extra : List ℕ) → slice_index (header_bytes v k c name 1 extra) 4 ≡ c
unfolding header_bytes cell_bytes
head_four v k c name extra = refl

head_name : (v k c i : ℕ) (name extra : List ℕ) → i < length name → slice_index (header_bytes v k c name 1 extra) (5 + i) ≡ slice_index name i
unfolding header_bytes cell_bytes
head_name v k c i name extra h = grind (arith, get_or-append-add, get_or_append_left)

link_cell : (m : List ℕ) (a x : ℕ) → a + 1 < 65536 → byte m a ≡ x % 256 → byte m (a + 1) ≡ x / 256 → cell m a ≡ x
unfolding cell
link_cell m a x h e f = rw (wrap_small (a + 1) h) (rw (e, f) (omega arith))

pub whole_link : (m name extra : List ℕ) (view here head : ℕ) → Fits m name here head (length extra) → cell (whole m view name here head extra) (here + 2) ≡ cell m head
whole_link m name extra view here head f =
    let w = whole m view name here head extra in
    link_cell w (here + 2) (cell m head) (omega arith)
    (whole_has m name extra view here head 2 f (omega arith) ∙ head_two view (cell m head) (128 + length name) name extra)
    (ap (λ i. byte w i) (omega arith) ∙ whole_has m name extra view here head 3 f (omega arith) ∙ head_three view (cell m head) (128 + length name) name extra)

pub whole_count : (m name extra : List ℕ) (view here head : ℕ) → Fits m name here head (length extra) → byte (whole m view name here head extra) (here + 4) ≡ 128 + length name
whole_count m name extra view here head f = whole_has m name extra view here head 4 f (omega arith) ∙ head_four view (cell m head) (128 + length name) name extra

pub whole_fronted : (m name extra : List ℕ) (view here head : ℕ) → Fits m name here head (length extra) → Fronted m (whole m view name here head extra) here head (here + 2)
whole_fronted m name extra view here head f = search (arith, whole_head, whole_link, whole_low, length-whole_memory)

count_is : (m : List ℕ) (here x : ℕ) → here + 4 < 65536 → byte m (here + 4) ≡ x → count_byte m (here + 2) ≡ x
unfolding count_byte
count_is m here x h e = let w : wrap (here + 2 + 2) ≡ here + 4 = omega arith in rw w e

pub whole_length : (m name extra : List ℕ) (view here head : ℕ) → Fits m name here head (length extra) → name_length (whole m view name here head extra) (here + 2) ≡ length name
whole_length m name extra view here head f =
    let w = whole m view name here head extra in
    length_new w name (here + 2) false f.short (count_is w here (128 + length name) (omega arith) (whole_count m name extra view here head f))

-- the new header has this name
name_there : (w name : List ℕ) (here : ℕ) → length w ≡ 65536 → here + 5 + length name ≤ GREATEST_LIMIT → ((i : ℕ) → i < length name → byte w (here + (5 + i)) ≡ slice_index name i) → bytes w (here + 5) (length name) ≡ name
name_there w name here l h g =
    let len : length (bytes w (here + 5) (length name)) ≡ length name = length-bytes w (here + 5) (length name) l (omega arith) in
    ext_get_or 0 (bytes w (here + 5) (length name)) name len (λ (i : ℕ) (p : i < length (bytes w (here + 5) (length name))).
    let q : i < length name = subst (λ (z : ℕ). i < z) len p in
    (byte-bytes w (here + 5) (length name) i l (omega arith) (omega arith) q) ∙ (ap (byte w) (omega arith)) ∙ g i q)

pub whole_named : (m name extra x : List ℕ) (view here head : ℕ) → Fits m name here head (length extra) → is_named (whole m view name here head extra) x (here + 2) ≡ bytes_eq name x
unfolding is_named name_of
whole_named m name extra x view here head f =
    let w = whole m view name here head extra in
    let c = count_is w here (128 + length name) (omega arith) (whole_count m name extra view here head f) in
    let y : wrap (here + 2 + 3) ≡ here + 5 = omega arith in
    let nm = name_there w name here (length-whole_memory m name extra view here head f.all) (omega arith) (λ i q.
    whole_has m name extra view here head (5 + i) f (omega arith) ∙ head_name view (cell m head) (128 + length name) i name extra q) in
    rw (hidden_new w name (here + 2) false f.short c, y, length_new w name (here + 2) false f.short c, nm) refl

-- memory after `:`
opening_head : (m name : List ℕ) (here head : ℕ) → Site m name here head → here + (7 + length name) ≤ GREATEST_LIMIT → cell (opening m name here head) head ≡ here + 2
opening_head m name here head s r = omega (arith, head_low, cell_beside, opened, top_head, length_bytes)

first_two : (v k c : ℕ) (name : List ℕ) → slice_index (whole_header v k c name ++ []) 2 ≡ k % 256
unfolding cell_bytes
first_two v k c name = refl

first_three : (v k c : ℕ) (name : List ℕ) → slice_index (whole_header v k c name ++ []) 3 ≡ k / 256
unfolding cell_bytes
first_three v k c name = refl

first_four : (v k c : ℕ) (name : List ℕ) → slice_index (whole_header v k c name ++ []) 4 ≡ c
unfolding cell_bytes
first_four v k c name = refl

pub opening_count : (m name : List ℕ) (here head : ℕ) → Site m name here head → here + (7 + length name) ≤ GREATEST_LIMIT → byte (opening m name here head) (here + 4) ≡ 160 + length name
opening_count m name here head s r = opening_header m name here head 4 s r (omega arith) ∙ first_four (cell m 22) (cell m head) (160 + length name) name

pub opening_fronted : (m name : List ℕ) (here head : ℕ) → Site m name here head → here + (7 + length name) ≤ GREATEST_LIMIT → Fronted m (opening m name here head) here head (here + 2)
opening_fronted m name here head s r =
    let o = opening m name here head in
    record {
      head_is = opening_head m name here head s r;
      link_is = link_cell o (here + 2) (cell m head) (omega arith)
          (opening_header m name here head 2 s r (omega arith) ∙ first_two (cell m 22) (cell m head) (160 + length name) name)
          (ap (λ i. byte o i) (omega arith) ∙ opening_header m name here head 3 s r (omega arith) ∙ first_three (cell m 22) (cell m head) (160 + length name) name);
      some = grind arith;
      low = s.low;
      high = omega arith;
      same = λ i a b c f. opening_low m name here head i s r b (omega arith) (omega arith) (omega arith) (omega arith) c f;
      all = s.all;
      all_new = length-opening m name here head s;
    }

-- a header with such a count byte is hidden
pub hidden_named : (m name x : List ℕ) (here : ℕ) → length name ≤ 31 → here + 4 < 65536 → byte m (here + 4) ≡ 160 + length name → is_named m x (here + 2) ≡ false
unfolding is_named
hidden_named m name x here s h e = rw (hidden_new m name (here + 2) true s (count_is m here (160 + length name) h e)) refl

-- the same definition in two memories that agree
pub agrees_cell : (m n : List ℕ) (j : ℕ) → Agrees m n → cell n 28 ≤ GREATEST_LIMIT → 34 ≤ j → j + 1 < cell n 28 → cell m j ≡ cell n j
agrees_cell m n j g h l k = cell_by m n j (omega arith) (g.same j (omega arith) (omega arith) (omega arith) (omega arith)) (g.same (j + 1) k (omega arith) (omega arith) (omega arith))

pub agrees_on : (a b c : List ℕ) → Agrees a b → Agrees b c → Agrees a c
agrees_on a b c x y = search (arith)

pub whole_agrees : (m n name extra : List ℕ) (view here head : ℕ) → Fits m name here head (length extra) → Fits n name here head (length extra) → cell n 28 ≡ here → cell m head ≡ cell n head → Agrees m n → Agrees (whole m view name here head extra) (whole n view name here head extra)
whole_agrees m n name extra view here head f g dn k a =
    let H = header_bytes view (cell m head) (128 + length name) name 1 extra in
    let K = header_bytes view (cell n head) (128 + length name) name 1 extra in
    let e : H ≡ K = ap (λ x. header_bytes view x (128 + length name) name 1 extra) k in
    let lh = length-head view (cell m head) (128 + length name) name extra in
    let lk = length-head view (cell n head) (128 + length name) name extra in
    let end = here + (7 + length name + length extra) in
    let wn = whole_here n name extra view here head g in
    record {
      here = whole_here m name extra view here head f ∙ sym wn;
      same = λ j l a1 a2 a3. elim (cases_lt j here) [
        | inl x ↦ top_both (put_bytes m here H) (put_bytes n here K) end end head (here + 2) j (length_bytes m here H ∙ f.all) (length_bytes n here K ∙ g.all) (omega arith) a2
            (byte_below m here H j (omega arith) x ∙ a.same j (omega arith) a1 a2 a3 ∙ sym (byte_below n here K j (omega arith) x))
        | inr x ↦ (
            let i = j - here in
            subst (λ y. byte (whole m view name here head extra) y ≡ byte (whole n view name here head extra) y) (omega arith)
            (whole_has m name extra view here head i f (omega arith) ∙ ap (λ xs. slice_index xs i) e ∙ sym (whole_has n name extra view here head i g (omega arith))))
      ];
    }

pub laid_agrees : (m n name : List ℕ) (view here head : ℕ) (b : Definition) → Site m name here head → Site n name here head → here + (7 + length name + length (whole_code (runtime n) b (here + (7 + length name)))) ≤ GREATEST_LIMIT → Agrees m n
    → Agrees (laid_definition m view name b) (laid_definition n view name b)
laid_agrees m n name view here head b s t r g =
    let pf = here + (7 + length name) in
    let hl = head_low head here s.low s.placed in
    let ctl : (k : ℕ) → k < 32 → runtime m k ≡ runtime n k = λ k l. agrees_cell m n (64 + 2 * k) g (omega arith) (omega arith) (omega arith) in
    let extra = whole_code (runtime n) b pf in
    let bytes_are : whole_code (runtime m) b pf ≡ extra = thread_same (runtime m) (runtime n) b pf ctl in
    let ek : cell m head ≡ cell n head = agrees_cell m n head g (omega arith) (omega (arith, hl.0)) (omega (arith, hl.1)) in
    let fm : Fits m name here head (length extra) = record { all = s.all; short = s.short; low = s.low; high = r; placed = s.placed } in
    let left : laid_definition m view name b ≡ whole m view name here head extra =
    whole_is m view name here head b s (subst (λ xs. here + (7 + length name + length xs) ≤ GREATEST_LIMIT) (sym bytes_are) r) ∙ ap (λ xs. whole m view name here head xs) bytes_are in
    subst (λ x. Agrees x (laid_definition n view name b)) (sym left)
    (subst (λ y. Agrees (whole m view name here head extra) y) (sym (whole_is n view name here head b t r))
    (whole_agrees m n name extra view here head fm (record { all = t.all; short = t.short; low = t.low; high = r; placed = t.placed }) t.here_is ek g))

-- A definition leaves an orderly dictionary for the next one.

pub own_head : (cur ctx : ℕ) (x : List ℕ) → IsHead cur ctx (head_of cur x)
own_head cur ctx x = (x, inl refl)

pub context_head : (cur ctx : ℕ) (x : List ℕ) → IsHead cur ctx (head_of ctx x)
context_head cur ctx x = (x, inr (inl refl))

pub forth_head : (cur ctx : ℕ) (x : List ℕ) → IsHead cur ctx (head_of 42 x)
forth_head cur ctx x = (x, inr (inr refl))

apart_of : (cur ctx here head : ℕ) (n ls : List ℕ) → IsHead cur ctx head → HeadersClear cur ctx here n ls → HeadersApart here head n ls
apart_of cur ctx here head n [] i h = refl
apart_of cur ctx here head n (l ∷ ls) i h = ((h.0.low, h.0.high, h.0.apart head i), apart_of cur ctx here head n ls i h.1)

-- what searches need of a chain
pub chain_apart : {limit : ℕ} (ws : Words) (a cur ctx most here head h : ℕ) (n : List ℕ) → Orderly limit ws a cur ctx most here n → most ≤ 32767 → IsHead cur ctx head → IsHead cur ctx h → ChainApart here head n h
chain_apart {limit} ws a cur ctx most here head h n g l i k =
    let c = g.chains h k in
    let q = head_low h here g.low (g.heads h k) in
    record { low = omega arith; high = q.1; beside = c.beside head i; members = apart_of cur ctx here head n (chain n 32769 (cell n h)) i c.members; short = omega arith }

clear_more : (cur ctx here here' : ℕ) (m n ls : List ℕ) → here ≤ here' → AreSame m n ls → HeadersClear cur ctx here m ls → HeadersClear cur ctx here' n ls
clear_more cur ctx here here' m n [] h s g = refl
clear_more cur ctx here here' m n (l ∷ ls) h s g =
    let e : name_length m l ≡ name_length n l = length_by m n l s.0 in
    (record { low = g.0.low; high = omega arith; apart = λ k i. subst (λ (z : ℕ). (k + 1 < l) ⊎ (l + (5 + z) ≤ k)) e (g.0.apart k i) }, clear_more cur ctx here here' m n ls h s.1 g.1)

-- chains of the memory with one header more
clear_kept : {limit : ℕ} (ws : Words) (a cur ctx most here here' head h : ℕ) (m n : List ℕ) → Orderly limit ws a cur ctx most here m → Fronted m n here head (here + 2) → here + 2 + (5 + name_length n (here + 2)) ≤ here' → most ≤ 32767 → IsHead cur ctx head → IsHead cur ctx h → ChainClear cur ctx (suc most) here' n h
clear_kept {limit} ws a cur ctx most here here' head h m n g f up l i k = record {
  beside = c.beside;
  members = all_clear x.beside;
  short = shorter x.beside;
}
  where
    c : ChainClear cur ctx most here m h
    c = g.chains h k

    x : ChainApart here head m h
    x = chain_apart ws a cur ctx most here head h m g l i k

    same : AreSame m n (chain m 32769 (cell m h))
    same = headers_same m n here head (here + 2) (chain m 32769 (cell m h)) f x.members

    less : AreSame m n (chain m 32768 (cell m h))
    less = less_same m n 32768 (cell m h) same

    cut : (chain m 32769 (cell m h) ≡ chain m 32768 (cell m h)) × (chain m 32768 (cell m h) ≡ chain n 32768 (cell m h))
    cut = ((cuts m (cell m h) x.short).0, chain_by m n 32768 (cell m h) less)

    above : (z : ℕ) → IsHead cur ctx z → z + 1 < here + 2
    above z q = let w = (head_low z here g.low (g.heads z q)).1 in omega arith

    newest : HeaderClear cur ctx here' n (here + 2)
    newest = let lo = f.low in record { low = omega arith; high = up; apart = λ z q. inl (above z q) }

    front : h ≡ head → chain n 32769 (cell n h) ≡ (here + 2) ∷ chain n 32768 (cell m h)
    front b =
        rw (ap (λ (j : ℕ). cell n j) b ∙ f.head_is, chain_more n 32768 (here + 2) f.some, f.link_is ∙ ap (λ (j : ℕ). cell m j) (sym b)) refl

    beside : (head + 1 < h) ⊎ (h + 1 < head) → chain n 32769 (cell n h) ≡ chain m 32769 (cell m h)
    beside b =
        rw (head_same m n here head (here + 2) h f x.low x.high b, sym (chain_by m n 32769 (cell m h) same)) refl

    grow : here ≤ here'
    grow = omega arith

    all_clear : (h ≡ head) ⊎ ((head + 1 < h) ⊎ (h + 1 < head)) → HeadersClear cur ctx here' n (chain n 32769 (cell n h))
    all_clear (inr b) = rw (beside b) (clear_more cur ctx here here' m n (chain m 32769 (cell m h)) grow same c.members)
    all_clear (inl b) = rw (front b) (newest, subst (λ (xs : List ℕ). HeadersClear cur ctx here' n xs) cut.1 (clear_more cur ctx here here' m n (chain m 32768 (cell m h)) grow less (subst (λ (xs : List ℕ). HeadersClear cur ctx here m xs) cut.0 c.members)))

    shorter : (h ≡ head) ⊎ ((head + 1 < h) ⊎ (h + 1 < head)) → length (chain n 32769 (cell n h)) ≤ suc most
    shorter (inr b) = let s = c.short in rw (beside b) (omega arith)
    shorter (inl b) =
        let q : length (chain n 32768 (cell m h)) ≤ most = subst (λ (xs : List ℕ). length xs ≤ most) (cut.0 ∙ cut.1) c.short in
        rw (front b) (omega arith)

-- the thread
beside_at : (a head k : ℕ) → k ≤ 20 → (head + 1 < a) ⊎ (a + 22 ≤ head) → (head + 1 < a + k) ⊎ (a + k + 1 < head)
beside_at a head k l y0 = grind arith

beside_zero : (a head : ℕ) → (head + 1 < a) ⊎ (a + 22 ≤ head) → (head + 1 < a) ⊎ (a + 1 < head)
beside_zero a head y0 = grind arith

pub thread_fronted : (ws : Words) (m n : List ℕ) (a here head new : ℕ) → Fronted m n here head new → ThreadApart ws a here head → Thread ws m a → Thread ws n a
thread_fronted ws m n a here head new f x t =
    let same : (k : ℕ) → k ≤ 20 → cell n (a + k) ≡ cell m (a + k) = λ k l. head_same m n here head new (a + k) f (omega arith) (omega arith) (beside_at a head k l x.beside) in
    let field : (i : ℕ) → CellApart here head i → cell n i ≡ cell m i = λ i g. head_same m n here head new i f g.low g.high g.beside in
    record {
      within = t.within;
      place = t.place;
      entry = field ws.interpret x.interpret ∙ t.entry;
      c0 = (head_same m n here head new a f (omega arith) (omega arith) (beside_zero a head x.beside)) ∙ t.c0;
      c2 = same 2 (omega arith) ∙ t.c2;
      c4 = same 4 (omega arith) ∙ t.c4;
      c6 = same 6 (omega arith) ∙ t.c6;
      c8 = same 8 (omega arith) ∙ t.c8;
      c10 = same 10 (omega arith) ∙ t.c10;
      c12 = same 12 (omega arith) ∙ t.c12;
      c14 = same 14 (omega arith) ∙ t.c14;
      c16 = same 16 (omega arith) ∙ t.c16;
      c18 = same 18 (omega arith) ∙ t.c18;
      c20 = same 20 (omega arith) ∙ t.c20;
      r0 = field ws.scan x.scan ∙ t.r0;
      r2 = field ws.query_dup x.query_dup ∙ t.r2;
      r4 = field ws.zero_branch x.zero_branch ∙ t.r4;
      r8 = field ws.zero_greater x.zero_greater ∙ t.r8;
      r14 = field ws.execute x.execute ∙ t.r14;
      r16 = field ws.branch x.branch ∙ t.r16;
      r20 = field ws.exit x.exit ∙ t.r20;
    }

cell_more : (here here' g l : ℕ) → here ≤ here' → CellApart here g l → CellApart here' g l
cell_more here here' g l h x = let b = x.high in record { low = x.low; high = omega arith; beside = x.beside }

apart_more : (ws : Words) (a here here' g : ℕ) → here ≤ here' → ThreadApart ws a here g → ThreadApart ws a here' g
apart_more ws a here here' g h x = let b = x.behind in record {
  start = x.start;
  behind = omega arith;
  beside = x.beside;
  interpret = cell_more here here' g ws.interpret h x.interpret;
  scan = cell_more here here' g ws.scan h x.scan;
  query_dup = cell_more here here' g ws.query_dup h x.query_dup;
  zero_branch = cell_more here here' g ws.zero_branch h x.zero_branch;
  zero_greater = cell_more here here' g ws.zero_greater h x.zero_greater;
  execute = cell_more here here' g ws.execute h x.execute;
  branch = cell_more here here' g ws.branch h x.branch;
  exit = cell_more here here' g ws.exit h x.exit;
}

-- where a definition of a name is written
pub orderly_site : {limit : ℕ} (ws : Words) (a cur ctx most here : ℕ) (n name : List ℕ) → Orderly limit ws a cur ctx most here n → length name ≤ 31 → Site n name here (head_of cur name)
orderly_site {limit} ws a cur ctx most here n name g s = record {
  here_is = g.dp;
  head_is = ap (λ v. head_of v name) g.current;
  all = g.all;
  executing = g.executing;
  short = s;
  low = g.low;
  placed = g.heads (head_of cur name) (own_head cur ctx name);
}

low_kept : (n name extra : List ℕ) (view here head j : ℕ) → Fits n name here head (length extra) → j + 1 < 28 → cell (whole n view name here head extra) j ≡ cell n j
low_kept n name extra view here head j f l = grind (arith, head_low, cell_by, whole_low)

whole_orderly : {limit : ℕ} (ws : Words) (a cur ctx most here view : ℕ) (n name extra : List ℕ) → Orderly limit ws a cur ctx most here n → most ≤ 32767 → here + (7 + length name + length extra) ≤ limit → Fits n name here (head_of cur name) (length extra)
    → Orderly limit ws a cur ctx (suc most) (here + (7 + length name + length extra)) (whole n view name here (head_of cur name) extra)
whole_orderly {limit} ws a cur ctx most here view n name extra g l fits fit =
    let head = head_of cur name in
    let i = own_head cur ctx name in
    let w = whole n view name here head extra in
    let end = here + (7 + length name + length extra) in
    let f = whole_fronted n name extra view here head fit in
    let nl = whole_length n name extra view here head fit in
    record {
      dp = whole_here n name extra view here head fit;
      current = head_same n w here head (here + 2) 34 f (omega arith) (omega arith) (inr (omega arith)) ∙ g.current;
      executing = low_kept n name extra view here head 16 fit (omega arith) ∙ g.executing;
      ten = low_kept n name extra view here head 18 fit (omega arith) ∙ g.ten;
      low = omega arith;
      high = fits;
      top = g.top;
      all = f.all_new;
      thread = thread_fronted ws n w a here head (here + 2) f (g.apart head i) g.thread;
      apart = λ z k. apart_more ws a here end z (omega arith) (g.apart z k);
      heads = λ z k. more z (g.heads z k);
      chains = λ z k. clear_kept ws a cur ctx most here end head z n w g f (omega arith) l i k;
    }
  where
    more : (z : ℕ) → ((42 ≤ z) × (z + 1 < 52)) ⊎ ((256 ≤ z) × (z + 1 < here)) → ((42 ≤ z) × (z + 1 < 52)) ⊎ ((256 ≤ z) × (z + 1 < here + (7 + length name + length extra)))
    more z (inl q) = inl q
    more z (inr q) = let q1 = q.1 in inr (q.0, omega arith)

pub fits_orderly : {limit : ℕ} (ws : Words) (a cur ctx most here k : ℕ) (n name : List ℕ) → Orderly limit ws a cur ctx most here n → length name ≤ 31 → here + (7 + length name + k) ≤ limit → Fits n name here (head_of cur name) k
fits_orderly {limit} ws a cur ctx most here k n name g s h = record { all = g.all; short = s; low = g.low; high = (let top = g.top in omega arith); placed = g.heads (head_of cur name) (own_head cur ctx name) }

-- One definition more.
pub orderly_kept : {limit : ℕ} (ws : Words) (a cur ctx most here view : ℕ) (n name : List ℕ) (b : Definition) → Orderly limit ws a cur ctx most here n → most ≤ 32767 → length name ≤ 31 → here + (7 + length name + (all_size b + 2)) ≤ limit
    → Orderly limit ws a cur ctx (suc most) (here + (7 + length name + (all_size b + 2))) (laid_definition n view name b)
orderly_kept {limit} ws a cur ctx most here view n name b g l s h =
    let pf = here + (7 + length name) in
    let extra = whole_code (runtime n) b pf in
    let k = length-extra (runtime n) b pf in
    let fit = fits_orderly ws a cur ctx most here (length extra) n name g s (omega arith) in
    subst (λ (x : List ℕ). Orderly limit ws a cur ctx (suc most) (here + (7 + length name + (all_size b + 2))) x) (sym (whole_is n view name here (head_of cur name) b (orderly_site ws a cur ctx most here n name g s) (omega arith)))
    (subst (λ (z : ℕ). Orderly limit ws a cur ctx (suc most) (here + (7 + length name + z)) (whole n view name here (head_of cur name) extra)) k (whole_orderly ws a cur ctx most here view n name extra g l (omega arith) fit))

-- What the machine finds: in a memory that agrees with the one in which definitions are written, and where a definition is started.

-- the header that is found is apart from the head
find_step : (here head : ℕ) (m : List ℕ) (test : ℕ → Bool) (l x : ℕ) (ls : List ℕ) (b : Bool) → test l ≡ b → HeaderApart here head m l → (find test ls ≡ Some x → HeaderApart here head m x) → find test (l ∷ ls) ≡ Some x → HeaderApart here head m x
find_step here head m test l x ls b e g f q = grind arith

apart_find : (here head : ℕ) (m : List ℕ) (test : ℕ → Bool) (x : ℕ) (ls : List ℕ) → HeadersApart here head m ls → find test ls ≡ Some x → HeaderApart here head m x
apart_find here head m test x [] g q = cc
apart_find here head m test x (l ∷ ls) g q = find_step here head m test l x ls (test l) refl g.0 (λ (e : find test ls ≡ Some x). apart_find here head m test x ls g.1 e) q

found_by : (o : Option ℕ) (longer : Bool) (x : ℕ) → comes_to o longer ≡ Found x → o ≡ Some x
found_by o longer x e = grind arith

apart_walked : (here head : ℕ) (m : List ℕ) (test : ℕ → Bool) (h x : ℕ) → ChainApart here head m h → walked test m 32768 (cell m h) ≡ Found x → HeaderApart here head m x
unfolding walked
apart_walked here head m test h x c q =
    apart_find here head m test x (chain m 32768 (cell m h)) (subst (λ (ls : List ℕ). HeadersApart here head m ls) (cuts m (cell m h) c.short).0 c.members)
    (found_by (find test (chain m 32768 (cell m h))) (is_longer m 32768 (cell m h)) x q)

by_either : (here head : ℕ) (m : List ℕ) (v w : Sought) (x : ℕ) (b : Bool) → (if b then Nowhere else or_else v w) ≡ Found x → (v ≡ Found x → HeaderApart here head m x) → (w ≡ Found x → HeaderApart here head m x) → HeaderApart here head m x
by_either here head m v w x b q f g = grind arith

pub found_apart : (here head voc : ℕ) (m nm : List ℕ) (l : ℕ) → ChainApart here head m (head_of voc nm) → ChainApart here head m (head_of 42 nm) → sought_from m voc nm ≡ Found l → HeaderApart here head m l
unfolding sought_from first_from first_in
found_apart here head voc m nm l c d e =
    by_either here head m (walked (is_named m nm) m 32768 (cell m (head_of voc nm))) (walked (is_named m nm) m 32768 (cell m (head_of 42 nm))) l (length nm == 0) e
    (λ q. apart_walked here head m (is_named m nm) (head_of voc nm) l c q)
    (λ q. apart_walked here head m (is_named m nm) (head_of 42 nm) l d q)

-- the cell of a code field
code_by : (m n : List ℕ) (l : ℕ) → HeaderSame m n l → l + (5 + name_length m l) ≤ GREATEST_LIMIT → cell n (compilation_address m l) ≡ cell m (compilation_address m l)
unfolding compilation_address
code_by m n l h b = grind (arith, cell_by)

address_in : (n : List ℕ) (l here : ℕ) → here ≤ GREATEST_LIMIT → 34 ≤ l → l + (5 + name_length n l) ≤ here → (34 ≤ compilation_address n l) × (compilation_address n l + 1 < here)
unfolding compilation_address
address_in n l here h a b = (omega arith, omega arith)

pub seen_by : (here : ℕ) (n m : List ℕ) (l : ℕ) → here ≤ GREATEST_LIMIT → HeaderSame n m l → 34 ≤ l → l + (5 + name_length n l) ≤ here → IsSeen here n m l
seen_by here n m l h s a b =
    let p = address_in n l here h a b in
    record { immediate = sym (immediate_by n m l s); address = sym (address_by n m l s); code = code_by n m l s (omega arith); low = p.0; high = p.1 }

-- the machine's search, by CONTEXT
sought_is : (n m x : List ℕ) (voc : ℕ) → cell m 32 ≡ voc → sought_from m voc x ≡ sought_from n voc x → sought m x ≡ sought_from n voc x
unfolding sought
sought_is n m x voc c f = rw c f

-- where a definition is started
pub sees_fronted : {limit : ℕ} (ws : Words) (a cur ctx most here head : ℕ) (n m : List ℕ) → Orderly limit ws a cur ctx most here n → most ≤ 32767 → IsHead cur ctx head → Fronted n m here head (here + 2) → ((x : List ℕ) → is_named m x (here + 2) ≡ false) → cell m 32 ≡ cur → cell m 18 ≡ 10 → Sees limit ws a here n cur m
sees_fronted {limit} ws a cur ctx most here head n m g l i f hidden c t =
    let own : (x : List ℕ) → ChainApart here head n (head_of cur x) = λ x. chain_apart ws a cur ctx most here head (head_of cur x) n g l i (own_head cur ctx x) in
    let forth : (x : List ℕ) → ChainApart here head n (head_of 42 x) = λ x. chain_apart ws a cur ctx most here head (head_of 42 x) n g l i (forth_head cur ctx x) in
    let apart = g.apart head i in
    let hi = g.high in let top = g.top in
    record {
      sought_is = λ x. sought_is n m x cur c (sought_fronted n m here head (here + 2) cur x f (hidden x) (own x) (forth x));
      header = λ x k e.
          let h = found_apart here head cur n x k (own x) (forth x) e in
          seen_by here n m k (omega arith) (header_same n m here head (here + 2) k f h) h.0 h.1;
      thread = thread_fronted ws n m a here head (here + 2) f apart g.thread;
      ten = t;
      fits = g.high;
      top = g.top;
      start = apart.start;
      behind = apart.behind;
    }

-- if memory agrees
header_agrees : (m n : List ℕ) (here l : ℕ) → Agrees m n → cell n 28 ≡ here → here ≤ GREATEST_LIMIT → 34 ≤ l → l + (5 + name_length n l) ≤ here → HeaderSame n m l
header_agrees m n here l g e h a b = record { ends = omega arith; same = λ i y z. sym (g.same i (omega arith) (omega arith) (omega arith) (omega arith)) }

headers_agree : (cur ctx here : ℕ) (m n ls : List ℕ) → Agrees m n → cell n 28 ≡ here → here ≤ GREATEST_LIMIT → HeadersClear cur ctx here n ls → AreSame n m ls
headers_agree cur ctx here m n [] g e h x = refl
headers_agree cur ctx here m n (l ∷ ls) g e h x = (header_agrees m n here l g e h x.0.low x.0.high, headers_agree cur ctx here m n ls g e h x.1)

thread_agrees : (ws : Words) (m n : List ℕ) (a here g : ℕ) → Agrees m n → cell n 28 ≡ here → here ≤ GREATEST_LIMIT → ThreadApart ws a here g → Thread ws n a → Thread ws m a
thread_agrees ws m n a here g q e h x t =
    let same : (j : ℕ) → 34 ≤ j → j + 1 < here → cell m j ≡ cell n j = λ j y z. agrees_cell m n j q (omega arith) y (omega arith) in
    let at : (k : ℕ) → k ≤ 20 → cell m (a + k) ≡ cell n (a + k) = λ k l. same (a + k) (omega arith) (omega arith) in
    let field : (i : ℕ) → CellApart here g i → cell m i ≡ cell n i = λ i z. same i z.low z.high in
    record {
      within = t.within;
      place = t.place;
      entry = field ws.interpret x.interpret ∙ t.entry;
      c0 = same a x.start (omega arith) ∙ t.c0;
      c2 = at 2 (omega arith) ∙ t.c2;
      c4 = at 4 (omega arith) ∙ t.c4;
      c6 = at 6 (omega arith) ∙ t.c6;
      c8 = at 8 (omega arith) ∙ t.c8;
      c10 = at 10 (omega arith) ∙ t.c10;
      c12 = at 12 (omega arith) ∙ t.c12;
      c14 = at 14 (omega arith) ∙ t.c14;
      c16 = at 16 (omega arith) ∙ t.c16;
      c18 = at 18 (omega arith) ∙ t.c18;
      c20 = at 20 (omega arith) ∙ t.c20;
      r0 = field ws.scan x.scan ∙ t.r0;
      r2 = field ws.query_dup x.query_dup ∙ t.r2;
      r4 = field ws.zero_branch x.zero_branch ∙ t.r4;
      r8 = field ws.zero_greater x.zero_greater ∙ t.r8;
      r14 = field ws.execute x.execute ∙ t.r14;
      r16 = field ws.branch x.branch ∙ t.r16;
      r20 = field ws.exit x.exit ∙ t.r20;
    }

chains_agree : {limit : ℕ} (ws : Words) (a cur ctx most here voc : ℕ) (m n x : List ℕ) → Orderly limit ws a cur ctx most here n → most ≤ 32767 → Agrees m n → ((y : List ℕ) → IsHead cur ctx (head_of voc y)) → ChainsSame n m voc x
chains_agree {limit} ws a cur ctx most here voc m n x g l q i =
    let own = chain_apart ws a cur ctx most here (head_of cur []) (head_of voc x) n g l (own_head cur ctx []) (i x) in
    let forth = chain_apart ws a cur ctx most here (head_of cur []) (head_of 42 x) n g l (own_head cur ctx []) (forth_head cur ctx x) in
    record {
      head = sym (agrees_cell m n (head_of voc x) q (omega arith) own.low (omega arith));
      members = headers_agree cur ctx here m n (chain n 32769 (cell n (head_of voc x))) q g.dp (omega arith) (g.chains (head_of voc x) (i x)).members;
      forth_head = sym (agrees_cell m n (head_of 42 x) q (omega arith) forth.low (omega arith));
      forth_members = headers_agree cur ctx here m n (chain n 32769 (cell n (head_of 42 x))) q g.dp (omega arith) (g.chains (head_of 42 x) (forth_head cur ctx x)).members;
    }

pub low_cell : (m n : List ℕ) (j here : ℕ) → Agrees m n → cell n 28 ≡ here → 256 ≤ here → j / 4 ≢ 5 → (j + 1) / 4 ≢ 5 → j / 2 ≢ 14 → (j + 1) / 2 ≢ 14 → j / 2 ≢ 16 → (j + 1) / 2 ≢ 16 → j < 60 → cell m j ≡ cell n j
low_cell m n j here g e h a1 a2 b1 b2 c1 c2 l = cell_by m n j (omega arith) (g.same j (omega arith) a1 b1 c1) (g.same (j + 1) (omega arith) a2 b2 c2)

pub sees_agrees : {limit : ℕ} (ws : Words) (a cur ctx most here voc : ℕ) (m n : List ℕ) → Orderly limit ws a cur ctx most here n → most ≤ 32767 → Agrees m n → length m ≡ 65536 → cell m 32 ≡ voc → ((y : List ℕ) → IsHead cur ctx (head_of voc y)) → Sees limit ws a here n voc m
sees_agrees {limit} ws a cur ctx most here voc m n g l q lm c i =
    let apart = g.apart (head_of cur []) (own_head cur ctx []) in
    let hi = g.high in let top = g.top in
    let low_here : here ≤ GREATEST_LIMIT = omega arith in
    let k = λ (x : List ℕ). chains_agree ws a cur ctx most here voc m n x g l q i in
    record {
      sought_is = λ x. sought_is n m x voc c (sym (sought_by n m x voc g.all lm (k x)));
      header = λ x y e.
          let own = chain_apart ws a cur ctx most here (head_of cur []) (head_of voc x) n g l (own_head cur ctx []) (i x) in
          let forth = chain_apart ws a cur ctx most here (head_of cur []) (head_of 42 x) n g l (own_head cur ctx []) (forth_head cur ctx x) in
          let h = found_apart here (head_of cur []) voc n x y own forth e in
          seen_by here n m y low_here (header_agrees m n here y q g.dp low_here h.0 h.1) h.0 h.1;
      thread = thread_agrees ws m n a here (head_of cur []) q g.dp low_here apart g.thread;
      ten = low_cell m n 18 here q g.dp g.low (omega arith) (omega arith) (omega arith) (omega arith) (omega arith) (omega arith) (omega arith) ∙ g.ten;
      fits = g.high;
      top = g.top;
      start = apart.start;
      behind = apart.behind;
    }
