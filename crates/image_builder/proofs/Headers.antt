-- Where the headers, heads and records of an image are, and what its headers say.
use Rattle.std.proofs.Common.{◌≡◌, ℕ, zero, suc, ◌+◌, ◌*◌, ◌/◌, ◌<◌, inl, inr, List, [], ◌∷◌, ◌++◌, length, drop, refl, sym, ap, ◌∙◌, subst, arith, append_assoc, append-nil, length-append}
use Rattle.std.specs.Prelude.{sum, not, ◌&&◌, Bool, true, false, cond, Some, ◌==◌}
use Rattle.std.specs.Int.RustNames.{bit_and}
use Rattle.std.proofs.lemmas.List.Sums.{sum_by-cons}
use Rattle.std.proofs.lemmas.Bool.{eqb-true}
use Rattle.cells.specs.Cell.{wrap, difference}
use Rattle.colon_bodies.proofs.Cells.{length-cell}
use Rattle.memory.specs.Bytes.{byte, bytes, cell, cell_bytes, front_put}
use Rattle.memory.specs.Bytes as memory
use Rattle.memory.proofs.Same.{Stands}
use Rattle.dictionary.specs.Header.{view_of, count_byte, name_length, is_hidden, name_of, compilation_address}
use Rattle.dictionary.proofs.CountBits.{all_below, and_left, and_right, below}
use Rattle.image_builder.specs.Places.{Place}
use Rattle.image_builder.specs.Items.{Item, Items, Nothing, Then, item_size, end_of, controls, head, head_size, header_count as new_count, zero_bytes, link_of, own, passes, items_bytes as item_bytes, heads_of, system, low, image}
use Rattle.image_builder.specs.Headers.{Says, memory_of, sizes, title, IsTitled}
use Rattle.image_builder.proofs.Imaging.{length-bytes, length-zeros}
use Rattle.image_builder.proofs.Looping.{length-low}
use Rattle.image_builder.proofs.Standing.{stands_behind, stands_before, stands_byte, stands_cell, stands_bytes}

-- lengths
pub length-image : (t : Items) → length (image t) ≡ end_of t
length-image t =
    let a = low (system t) 0 32 in
    let b = low (λ x. controls t (x / 2)) 0 32 in
    let z = zero_bytes 128 in
    let v = item_bytes (heads_of t) t false in
    omega (arith, length-append a (b ++ (z ++ v)), length-append b (z ++ v), length-append z v, length-low (system t) 0 32, length-low (λ x. controls t (x / 2)) 0 32, length-zeros 128, length-bytes (heads_of t) t false)

-- the header of an item among the bytes of items
pub record HasHeader (bs : List ℕ) (t : Items) (p : Place) : Type 0 where
  pub before : List ℕ
  pub after : List ℕ
  pub immediate : Bool
  pub code : ℕ
  pub is : bs ≡ before ++ (head (link_of t p) p immediate code ++ after)
  pub place : length before + 256 ≡ end_of t

own_header : (h : ℕ → ℕ → ℕ) (t : Items) (i : Item) (imm : Bool) (p : Place) → title i ≡ Some p → HasHeader (item_bytes h t (passes i imm) ++ own h t i imm) t p
own_header h t i imm p e = grind (arith, length-bytes)

pub has_header : (h : ℕ → ℕ → ℕ) (t u : Items) (imm : Bool) (p : Place) → IsTitled t u p → HasHeader (item_bytes h t imm) u p
has_header h Nothing u imm p e = absurd e
has_header h (Then t ws i) u imm p (inl e) = subst (λ x. HasHeader (item_bytes h (Then t ws i) imm) x p) (sym e.0) (own_header h t i imm p e.1)
has_header h (Then t ws i) u imm p (inr e) = grind (arith, append_assoc, has_header h t u (passes i imm) p e)

in_memory : (a b z f bs g r : List ℕ) → (a ++ (b ++ (z ++ (f ++ (bs ++ g))))) ++ r ≡ (a ++ (b ++ (z ++ f))) ++ (bs ++ (g ++ r))
in_memory a b z f bs g r = simp append_assoc

in_system : (f c g a r : List ℕ) → ((f ++ (c ++ g)) ++ a) ++ r ≡ f ++ ((c ++ []) ++ (g ++ (a ++ r)))
in_system f c g a r = simp (append_assoc, append-nil)

-- bytes of the items are 256 further in memory
pub items_stand : (t : Items) (before bs after : List ℕ) (at : ℕ) → item_bytes (heads_of t) t false ≡ before ++ (bs ++ after) → length before + 256 ≡ at → Stands (memory_of t) at bs
unfolding front_put
items_stand t before bs after at e p =
    let a = low (system t) 0 32 in
    let b = low (λ x. controls t (x / 2)) 0 32 in
    let z = zero_bytes 128 in
    record {
      before = a ++ (b ++ (z ++ before));
      after = after ++ drop (length (image t)) memory.zeros;
      is = ap (λ l. (a ++ (b ++ (z ++ l))) ++ drop (length (image t)) memory.zeros) e ∙ in_memory a b z before bs after (drop (length (image t)) memory.zeros);
      place = omega (arith, length-append a (b ++ (z ++ before)), length-append b (z ++ before), length-append z before, length-low (system t) 0 32, length-low (λ x. controls t (x / 2)) 0 32, length-zeros 128, p);
    }

-- the system's cells
low_cell : (f : ℕ → ℕ) (at n i a : ℕ) → i < n → a ≡ at + 2 * i → (front : List ℕ) × (back : List ℕ) × (low f at n ≡ front ++ (cell_bytes (f a) ++ back)) × (length front ≡ 2 * i)
low_cell f at zero i a h e = absurd (omega arith)
low_cell f at (suc n) zero a h e =
    let q : at ≡ a = omega arith in
    ([], low f (at + 2) n, ap (λ x. cell_bytes (f x) ++ low f (at + 2) n) q, refl)
low_cell f at (suc n) (suc i) a h e =
    let r = low_cell f (at + 2) n i a (omega arith) (omega arith) in
    (cell_bytes (f at) ++ r.0, r.1, ap (λ l. cell_bytes (f at) ++ l) r.2 ∙ sym (append_assoc (cell_bytes (f at)) r.0 (cell_bytes (f a) ++ r.1)), (length-append (cell_bytes (f at)) r.0 ∙ let q = r.3 in omega (arith, length-cell (f at))))

pub system_cell : (t : Items) (i : ℕ) → i < 32 → cell (memory_of t) (2 * i) ≡ system t (2 * i)
unfolding front_put
system_cell t i h =
    let r = low_cell (system t) 0 32 i (2 * i) h (omega arith) in
    let b = low (λ x. controls t (x / 2)) 0 32 in
    let v = item_bytes (heads_of t) t false in
    let rest = b ++ (zero_bytes 128 ++ v) in
    let s : Stands (memory_of t) (2 * i) (cell_bytes (system t (2 * i)) ++ []) = record {
      before = r.0;
      after = r.1 ++ (rest ++ drop (length (image t)) memory.zeros);
      is = ap (λ l. (l ++ rest) ++ drop (length (image t)) memory.zeros) r.2 ∙ in_system r.0 (cell_bytes (system t (2 * i))) r.1 rest (drop (length (image t)) memory.zeros);
      place = r.3;
    } in
    stands_cell (memory_of t) (2 * i) (system t (2 * i)) [] (omega arith) s

in_controls : (l f c g a r : List ℕ) → (l ++ ((f ++ (c ++ g)) ++ a)) ++ r ≡ (l ++ f) ++ ((c ++ []) ++ (g ++ (a ++ r)))
in_controls l f c g a r = simp (append_assoc, append-nil)

pub control_cell : (t : Items) (k : ℕ) → k < 32 → cell (memory_of t) (64 + 2 * k) ≡ controls t k
unfolding front_put
control_cell t k h =
    let f = λ (a : ℕ). controls t (a / 2) in
    let l = low (system t) 0 32 in
    let r = low_cell f 0 32 k (2 * k) h (omega arith) in
    let rest = zero_bytes 128 ++ item_bytes (heads_of t) t false in
    let i : 2 * k / 2 ≡ k = omega arith in
    let s : Stands (memory_of t) (64 + 2 * k) (cell_bytes (f (2 * k)) ++ []) = record {
      before = l ++ r.0;
      after = r.1 ++ (rest ++ drop (length (image t)) memory.zeros);
      is = ap (λ x. (l ++ (x ++ rest)) ++ drop (length (image t)) memory.zeros) r.2 ∙ in_controls l r.0 (cell_bytes (f (2 * k))) r.1 rest (drop (length (image t)) memory.zeros);
      place = length-append l r.0 ∙ let q = r.3 in omega (arith, length-low (system t) 0 32);
    } in
    stands_cell (memory_of t) (64 + 2 * k) (f (2 * k)) [] (omega arith) s ∙ ap (controls t) i

-- the end
pub end_is : (t : Items) → end_of t ≡ 256 + sum (sizes t)
end_is Nothing = refl
end_is (Then t ws i) = let e = sum_by-cons (λ x. x) (item_size i) (sizes t) in omega (arith, end_is t, e)

pub length_is : (t : Items) → length (image t) ≡ 256 + sum (sizes t)
length_is t = length-image t ∙ end_is t

pub pointer_is : (t : Items) → cell (memory_of t) 28 ≡ 256 + sum (sizes t)
pointer_is t = system_cell t 14 (omega arith) ∙ end_is t

-- the bits of a count byte
abbrev pub says : ℕ → (immediate : Bool) → ℕ → Bool
says c imm n = (bit_and (n + c) 31 == n) && (not (bit_and (n + c) 32 == 32) && cond imm (bit_and (n + c) 64 == 64) (not (bit_and (n + c) 64 == 64)))

all_say : (imm : Bool) → all_below (says (cond imm 192 128) imm) 32 ≡ true
all_say true = refl
all_say false = refl

pub count_says : (imm : Bool) (n : ℕ) → n < 32 → says (cond imm 192 128) imm n ≡ true
count_says imm n h = below (says (cond imm 192 128) imm) 32 n (all_say imm) h

-- what the header of an item says
not_true : (b : Bool) → not b ≡ true → b ≡ false
not_true b e = grind arith

pub header_says : (m : List ℕ) (at link code : ℕ) (p : Place) (imm : Bool) → length m ≡ 65536 → at + head_size p < 65536 → length p.name < 32 → Stands m at (head link p imm code) → Says m (at + 2) p.screen link p.name
unfolding view_of name_length is_hidden name_of count_byte compilation_address
header_says m at link code p imm lm h short st =
    let n = length p.name in
    let c = new_count p imm in
    let tail = p.name ++ cell_bytes code in
    let s2 : Stands m (at + 2) (cell_bytes link ++ (c ∷ tail)) = stands_behind m (cell_bytes p.screen) (cell_bytes link ++ (c ∷ tail)) at (at + 2) (omega (arith, length-cell p.screen)) st in
    let s4 : Stands m (at + 4) (c ∷ tail) = stands_behind m (cell_bytes link) (c ∷ tail) (at + 2) (at + 4) (omega (arith, length-cell link)) s2 in
    let s5 : Stands m (at + 5) tail = stands_behind m (c ∷ []) tail (at + 4) (at + 5) (omega arith) s4 in
    let name : Stands m (at + 5) p.name = stands_before m p.name (cell_bytes code) (at + 5) s5 in
    let d : difference (at + 2) 2 ≡ at = omega arith in
    let w2 : wrap (at + 2 + 2) ≡ at + 4 = omega arith in
    let b : byte m (at + 4) ≡ c = stands_byte m (at + 4) c tail s4 in
    let y = count_says imm n short in
    let bits : bit_and (byte m (wrap (at + 2 + 2))) 31 ≡ n = ap (λ a. bit_and (byte m a) 31) w2 ∙ ap (λ x. bit_and x 31) b ∙ eqb-true (bit_and c 31) n (and_left _ _ y) in
    record {
      view = ap (cell m) d ∙ stands_cell m at p.screen (cell_bytes link ++ (c ∷ tail)) (omega arith) st;
      links = stands_cell m (at + 2) link (c ∷ tail) (omega arith) s2;
      shown = ap (λ a. bit_and (byte m a) 32 == 32) w2 ∙ ap (λ x. bit_and x 32 == 32) b ∙ not_true (bit_and c 32 == 32) (and_left _ _ (and_right _ _ y));
      named = grind (arith, stands_bytes);
      code_field = ap (λ k. wrap (at + 2 + (3 + k))) bits ∙ omega arith;
    }
