-- The bytes of items: their length, and what one more header or IMMEDIATE changes in them.
use Rattle.std.proofs.Common.{◌≡◌, ◌≢◌, ℕ, ◌+◌, ◌*◌, ◌<◌, ◌≤◌, inl, inr, zero, suc, List, [], ◌∷◌, ◌++◌, length, refl, ap, ◌∙◌, arith, append_assoc, length-append, ◌-◌}
use Rattle.std.specs.Prelude.{Bool, true, false}
use Rattle.memory.specs.Bytes.{cell_bytes}
use Rattle.colon_bodies.proofs.Cells.{length-cell}
use Rattle.colon_bodies.proofs.Laying.{length-all}
use Rattle.image_builder.specs.Places.{Place}
use Rattle.image_builder.specs.Names.{Name}
use Rattle.image_builder.specs.declared.entry.Kind.{Kind}
use Rattle.image_builder.specs.declared.entry.Kind.TheVariants.{Vocabulary}
use Rattle.image_builder.specs.Items.{Item, Header, Cell, Byte, Allot, Immediate, Definitions, Boot, Items, Nothing, Then, item_size, head_size, kind_size, end_of, names, mark, newest_record, head, vocabulary_bytes, parameters, zero_bytes, link_of, own, passes, items_bytes}
use Rattle.image_builder.specs.Built.{OwnRecord, IsRecord}

pub length-zeros : (n : ℕ) → length (zero_bytes n) ≡ n
length-zeros zero = refl
length-zeros (suc n) = ap suc (length-zeros n)

pub length-head : (link : ℕ) (p : Place) (imm : Bool) (c : ℕ) → length (head link p imm c) ≡ head_size p
length-head link p imm c = simp (length-append, length-cell) (omega arith)

length-record : (h : ℕ → ℕ → ℕ) (at older : ℕ) → length (vocabulary_bytes h at older) ≡ 10
length-record h at older = simp (length-append, length-cell)

pub length-field : (h : ℕ → ℕ → ℕ) (t : Items) (at : ℕ) (k : Kind) → length (parameters h t at k) ≡ kind_size k
length-field h t at k = grind (arith, length-cell, length-record)

length-own : (h : ℕ → ℕ → ℕ) (t : Items) (i : Item) (imm : Bool) → length (own h t i imm) ≡ item_size i
length-own h t i imm = grind (arith, length-append, length-head, length-field, length-all, length-cell, length-zeros)

pub length-bytes : (h : ℕ → ℕ → ℕ) (t : Items) (imm : Bool) → length (items_bytes h t imm) + 256 ≡ end_of t
length-bytes h Nothing imm = refl
length-bytes h (Then t ws i) imm = grind (arith, length-append, length-own, length-bytes h t (passes i imm))

-- where records are
pub own_record : (t : Items) (i : Item) (v : ℕ) → OwnRecord t i v → (end_of t ≤ v) × (v + 10 ≤ end_of t + item_size i)
own_record t i v e = grind arith

pub record_below : (t : Items) (v : ℕ) → IsRecord t v → (256 ≤ v) × (v + 10 ≤ end_of t)
record_below Nothing v r = absurd r
record_below (Then t ws i) v (inl e) =
    let b = own_record t i v e in
    (omega (arith, length-bytes (λ a c. 0) t false), omega arith)
record_below (Then t ws i) v (inr r) = let b = record_below t v r in (omega arith, omega arith)

-- bytes if the heads are the same
own_same : (h g : ℕ → ℕ → ℕ) (t : Items) (i : Item) (imm : Bool) → ((v : ℕ) → OwnRecord t i v → (c : ℕ) → h v c ≡ g v c) → own h t i imm ≡ own g t i imm
own_same h g t i imm e = grind arith

pub bytes_same : (h g : ℕ → ℕ → ℕ) (t : Items) (imm : Bool) → ((v : ℕ) → IsRecord t v → (c : ℕ) → h v c ≡ g v c) → items_bytes h t imm ≡ items_bytes g t imm
bytes_same h g Nothing imm e = refl
bytes_same h g (Then t ws i) imm e = grind (arith, own_same, bytes_same h g t (passes i imm) (λ v r c. e v (inr r) c))

-- one cell of the bytes is another
pub record Seam (old new : List ℕ) (place x : ℕ) : Type 0 where
  pub front : List ℕ
  pub back : List ℕ
  pub was : ℕ
  pub old_is : old ≡ front ++ (cell_bytes was ++ back)
  pub new_is : new ≡ front ++ (cell_bytes x ++ back)
  pub length_is : length front ≡ place

seam_right : (old new : List ℕ) (place x : ℕ) (l m : List ℕ) → l ≡ m → Seam old new place x → Seam (old ++ l) (new ++ m) place x
seam_right old new place x l m e s = grind (arith, append_assoc)

seam_left : (old new : List ℕ) (place x : ℕ) (l m : List ℕ) (far : ℕ) → l ≡ m → far ≡ length m + place → Seam old new place x → Seam (l ++ old) (m ++ new) far x
seam_left old new place x l m far e n s =
    record {
      front = m ++ s.front;
      back = s.back;
      was = s.was;
      old_is = grind (arith, append_assoc);
      new_is = grind (arith, append_assoc);
      length_is = length-append m s.front ∙ let q = s.length_is in omega arith;
    }

seam_here : (w x : ℕ) (l m : List ℕ) → l ≡ m → Seam (cell_bytes w ++ l) (cell_bytes x ++ m) 0 x
seam_here w x l m e = record { front = []; back = m; was = w; old_is = ap (λ z. cell_bytes w ++ z) e; new_is = refl; length_is = refl }

record_seam : (h g : ℕ → ℕ → ℕ) (v older c : ℕ) → c < 4 → ((d : ℕ) → d ≢ c → h v d ≡ g v d) → Seam (vocabulary_bytes h v older) (vocabulary_bytes g v older) (2 * c) (g v c)
record_seam h g v older (suc (suc zero)) lt e =
    let a = e 0 (omega arith) in let b = e 1 (omega arith) in let c = e 3 (omega arith) in
    seam_left _ _ 2 (g v 2) (cell_bytes (h v 0)) (cell_bytes (g v 0)) 4 (ap cell_bytes a) (omega (arith, length-cell (g v 0)))
    (seam_left _ _ 0 (g v 2) (cell_bytes (h v 1)) (cell_bytes (g v 1)) 2 (ap cell_bytes b) (omega (arith, length-cell (g v 1)))
    (seam_here (h v 2) (g v 2) _ _ (ap (λ x. cell_bytes x ++ cell_bytes older) c)))
record_seam h g v older (suc (suc (suc zero))) lt e =
    let a = e 0 (omega arith) in let b = e 1 (omega arith) in let c = e 2 (omega arith) in
    seam_left _ _ 4 (g v 3) (cell_bytes (h v 0)) (cell_bytes (g v 0)) 6 (ap cell_bytes a) (omega (arith, length-cell (g v 0)))
    (seam_left _ _ 2 (g v 3) (cell_bytes (h v 1)) (cell_bytes (g v 1)) 4 (ap cell_bytes b) (omega (arith, length-cell (g v 1)))
    (seam_left _ _ 0 (g v 3) (cell_bytes (h v 2)) (cell_bytes (g v 2)) 2 (ap cell_bytes c) (omega (arith, length-cell (g v 2)))
    (seam_here (h v 3) (g v 3) _ _ refl)))
record_seam h g v older c lt e = grind (arith, seam_here, seam_left, length-cell)

-- one head is another: one cell of the bytes is
abbrev pub AreElse : (h g : ℕ → ℕ → ℕ) (v c : ℕ) → Type 0
AreElse h g v c = (u d : ℕ) → (u ≡ v → d ≡ c → ⊥) → h u d ≡ g u d

own_seam : (h g : ℕ → ℕ → ℕ) (t : Items) (i : Item) (imm : Bool) (v c : ℕ) → OwnRecord t i v → c < 4 → AreElse h g v c → (place : ℕ) → place + end_of t ≡ v + 2 * c → Seam (own h t i imm) (own g t i imm) place (g v c)
own_seam h g t (Header p Vocabulary) imm v c r lt e place q =
    let at = end_of t + head_size p in
    let n : place ≡ length (head (link_of t p) p imm 4) + 2 * c = omega (arith, length-head (link_of t p) p imm 4) in
    let s : Seam (vocabulary_bytes h at (newest_record t)) (vocabulary_bytes g at (newest_record t)) (2 * c) (g at c) = record_seam h g at (newest_record t) c lt (λ d ne. e at d (λ a b. ne b)) in
    grind (arith, seam_left)
own_seam h g t _ imm v c r lt e place q = absurd r

pub bytes_seam : (h g : ℕ → ℕ → ℕ) (t : Items) (imm : Bool) (v c : ℕ) → IsRecord t v → c < 4 → AreElse h g v c → (place : ℕ) → place + 256 ≡ v + 2 * c → Seam (items_bytes h t imm) (items_bytes g t imm) place (g v c)
bytes_seam h g Nothing imm v c r lt e place q = absurd r
bytes_seam h g (Then t ws i) imm v c (inl r) lt e place q =
    let b = own_record t i v r in
    let n = length-bytes g t (passes i imm) in
    seam_left (own h t i imm) (own g t i imm) (place + 256 - end_of t) (g v c) (items_bytes h t (passes i imm)) (items_bytes g t (passes i imm)) place
    (bytes_same h g t (passes i imm) (λ u z d. e u d (λ k _. let w = record_below t u z in omega (arith, k, w))))
    (omega arith)
    (own_seam h g t i imm v c r lt e (place + 256 - end_of t) (omega arith))
bytes_seam h g (Then t ws i) imm v c (inr r) lt e place q = grind (arith, record_below, seam_right, own_same, own_record, bytes_seam h g t (passes i imm) v c r lt e place q)

-- the byte that IMMEDIATE changes
pub record Marked (old new : List ℕ) (place x : ℕ) : Type 0 where
  pub front : List ℕ
  pub back : List ℕ
  pub was : ℕ
  pub old_is : old ≡ front ++ (was ∷ back)
  pub new_is : new ≡ front ++ (x ∷ back)
  pub length_is : length front ≡ place

marked_right : (old new : List ℕ) (place x : ℕ) (l : List ℕ) → Marked old new place x → Marked (old ++ l) (new ++ l) place x
marked_right old new place x l s = grind (arith, append_assoc)

marked_head : (b : List ℕ) (link : ℕ) (p : Place) (at : ℕ) (rest : List ℕ) (place : ℕ) → length b + 4 ≡ place → Marked (b ++ (head link p false at ++ rest)) (b ++ (head link p true at ++ rest)) place (192 + length p.name)
marked_head b link p at rest place e =
    record {
      front = b ++ (cell_bytes p.screen ++ cell_bytes link);
      back = p.name ++ (cell_bytes at ++ rest);
      was = length p.name + 128;
      old_is = simp append_assoc;
      new_is = grind (arith, append_assoc);
      length_is = simp (length-append, length-cell) (omega arith);
    }

mark_parts : (l : List Name) (n : Name) (ns : List Name) → mark l ≡ n ∷ ns → (m : Name) × (l ≡ m ∷ ns) × (m.name ≡ n.name) × (m.link ≡ n.link)
mark_parts l n ns e = grind arith

pub bytes_marked : (h : ℕ → ℕ → ℕ) (t : Items) (n : Name) (ns : List Name) → names t ≡ n ∷ ns → (place : ℕ) → place + 254 ≡ n.link → Marked (items_bytes h t false) (items_bytes h t true) place (192 + length n.name)
bytes_marked h (Then t ws Immediate) n ns e place q =
    let m = mark_parts (names t) n ns e in
    let l = m.3 in
    grind (arith, marked_right, bytes_marked h t m.0 ns m.1 place (omega (arith, l)))
bytes_marked h (Then t ws (Cell x)) n ns e place q = marked_right _ _ place (192 + length n.name) (own h t (Cell x) true) (bytes_marked h t n ns e place q)
bytes_marked h (Then t ws (Byte x)) n ns e place q = marked_right _ _ place (192 + length n.name) (own h t (Byte x) true) (bytes_marked h t n ns e place q)
bytes_marked h (Then t ws (Allot x)) n ns e place q = marked_right _ _ place (192 + length n.name) (own h t (Allot x) true) (bytes_marked h t n ns e place q)
bytes_marked h (Then t ws (Definitions x)) n ns e place q = marked_right _ _ place (192 + length n.name) [] (bytes_marked h t n ns e place q)
bytes_marked h (Then t ws (Boot x)) n ns e place q = marked_right _ _ place (192 + length n.name) [] (bytes_marked h t n ns e place q)
bytes_marked h t n ns e place q = grind (arith, marked_head, length-bytes, mark_parts, marked_right)
