-- Searches that come to the same.
use Rattle.std.proofs.Common.{rules, ◌≡◌, ◌≢◌, ℕ, ◌+◌, ◌-◌, ◌*◌, ◌%◌, ◌≤◌, List, Bool, true, false, not, ◌&&◌, refl, arith, sym, ap, ◌∙◌, bytes_eq}
use Rattle.std.proofs.lemmas.Slice.Eq.{bytes_eq-Decides}
use Rattle.memory.specs.Bytes.{cell}
use Rattle.dictionary.specs.Header.{is_named, is_hidden, name_of}
use Rattle.dictionary.specs.Search.{walked}
use Rattle.dictionary.proofs.Chains.{walked_at_end, walked_here, walked_later}
use Rattle.name_index.specs.Watch.{Agree}
use Rattle.name_index.specs.Slots.{slot_in, slot_of, class_of}
use Rattle.name_index.specs.Index.{Same}
use Rattle.name_index.proofs.Alike.{Member, agree_less, link_alike, named_alike}

pub same_none : (top k : ℕ) (m : List ℕ) → Same top m k 0 0
same_none top k m other lo g name s n p h q = grind (arith, walked_at_end)

pub same_sym : (top k a b : ℕ) (m : List ℕ) → Same top m k a b → Same top m k b a
same_sym top k a b m f other lo g name s n p h q = sym (f other lo g name s p n q h)

pub same_trans : (top k a b c : ℕ) (m : List ℕ) → Same top m k a b → Same top m k b c → Same top m k a c
same_trans top k a b c m f g other lo ag name s n p h q = f other lo ag name s n b h (omega arith) ∙ g other lo ag name s b p (omega arith) q

-- top is raised
pub same_more : (top more k a b : ℕ) (m : List ℕ) → top ≤ more → Same top m k a b → Same more m k a b
same_more top more k a b m le f other lo g name s n p h q = f other lo (agree_less top more m other le g) name s n p h q

-- what holds for one memory holds for each that agrees with it
pub same_by : (top k a b : ℕ) (m other : List ℕ) → Agree top m other → Same top m k a b → Same top other k a b
same_by top k a b m other t f third lt g name s n p h q = f third lt (λ x w. g x w ∙ t x w) name s n p h q

-- one member: how many headers are looked at doesn't matter if it doesn't from its link on
steady_step : (m name : List ℕ) (l x n p : ℕ) (b : Bool) → is_named m name l ≡ b → cell m l ≡ x → x + 2 ≤ l → l ≤ 2 * n → l ≤ 2 * p
    → walked (is_named m name) m (n - 1) x ≡ walked (is_named m name) m (p - 1) x
    → walked (is_named m name) m n l ≡ walked (is_named m name) m p l
steady_step m name l x n p b e link falls h q same = grind (arith, walked_here, walked_later)

pub same_up : (top k l x : ℕ) (m : List ℕ) → Member top m l x → Same top m k x x → Same top m k l l
same_up top k l x m is f other lo g name s n p h q =
    steady_step other name l x n p (is_named other name l) refl (link_alike top l x m other is g) is.falls h q
    (f other lo g name s (n - 1) (p - 1) (omega (arith, is.falls, h)) (omega (arith, is.falls, q)))

-- a member whose name has another slot is passed
second_of_two : (a b : Bool) → (a && b) ≡ true → b ≡ true
second_of_two a b e = grind arith

same_bytes : (xs ys : List ℕ) → bytes_eq xs ys ≡ true → xs ≡ ys
same_bytes xs ys e = search (rules, bytes_eq-Decides)

named_so : (m name : List ℕ) (l : ℕ) → is_named m name l ≡ true → name_of m l ≡ name
unfolding is_named
named_so m name l e = same_bytes (name_of m l) name (second_of_two (not (is_hidden m l)) (bytes_eq (name_of m l) name) e)

false_by : (b : Bool) → (b ≡ true → false ≡ true) → b ≡ false
false_by b h = grind arith

slot_class : (name : List ℕ) → slot_of name % 4 ≡ class_of name
unfolding slot_of slot_in class_of
slot_class name = omega arith

other_slot : (m name : List ℕ) (l k class : ℕ) → slot_of name ≡ k → k % 4 ≡ class → slot_in class (name_of m l) ≢ k → is_named m name l ≡ false
unfolding slot_of
other_slot m name l k class s c other = grind (arith, false_by, named_so, slot_class)

pub same_past : (top k class l x : ℕ) (m : List ℕ) → Member top m l x → k % 4 ≡ class → slot_in class (name_of m l) ≢ k
    → Same top m k x x → Same top m k l x
same_past top k class l x m is c other_name f other lo g name s n p h q =
    let e : is_named other name l ≡ false = named_alike top l x m other name is lo g ∙ other_slot m name l k class s c other_name in
    walked_later (is_named other name) other n l (omega (arith, is.falls, h)) (omega (arith, is.falls)) e
    ∙ ap (λ (y : ℕ). walked (is_named other name) other (n - 1) y) (link_alike top l x m other is g)
    ∙ f other lo g name s (n - 1) p (omega (arith, is.falls, h)) q
