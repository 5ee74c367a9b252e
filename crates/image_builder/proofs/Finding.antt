-- Searches of names.
use Rattle.std.proofs.Common.{◌≡◌, ◌≢◌, ℕ, List, [], ◌∷◌, ◌++◌, map, reverse, Some, refl, ap, arith}
use Rattle.std.specs.Prelude.{Bool, true, false, cond, ◌&&◌, Option}
use Rattle.std.specs.List.{find}
use Rattle.std.proofs.lemmas.List.{reverse-append}
use Rattle.std.proofs.lemmas.Bool.{eqb-true, eq-eqb}
use Rattle.image_builder.specs.Names.{Name, class_of, newest_link, link_or_none, found}
use Rattle.image_builder.specs.Items.{mark}

pub reverse_more : {X Y : Type 0} (f : X → Y) (xs : List X) (x : X) → map f (reverse (xs ++ x ∷ [])) ≡ f x ∷ map f (reverse xs)
reverse_more f xs x = ap (λ l. map f l) (reverse-append xs (x ∷ []))

both_false : (a b : Bool) → (a ≡ true → b ≡ true → ⊥) → (a && b) ≡ false
both_false a b h = grind arith

-- the heads after one more name
pub head_new : (ns : List Name) (n : Name) → newest_link (n ∷ ns) n.vocabulary (class_of n.name) ≡ n.link
head_new ns n = grind (arith, eq-eqb)

skip : (b : Bool) (n : Name) (o : Option Name) → b ≡ false → link_or_none o ≡ link_or_none (cond b (Some n) o)
skip b n o e = grind arith

pub head_else : (ns : List Name) (n : Name) (u d : ℕ) → (u ≡ n.vocabulary → d ≡ class_of n.name → ⊥) → newest_link ns u d ≡ newest_link (n ∷ ns) u d
head_else ns n u d h = grind (arith, skip, both_false, eqb-true)

either : (b : Bool) (n m : Name) (o : Option Name) → n.link ≡ m.link → link_or_none (cond b (Some n) o) ≡ link_or_none (cond b (Some m) o)
either b n m o e = grind arith

pub heads_marked : (ns : List Name) (u d : ℕ) → newest_link (mark ns) u d ≡ newest_link ns u d
heads_marked ns u d = grind (arith, either)

-- what holds of every name
abbrev pub Every : (Name → Type 0) → List Name → Type 0
Every P [] = Unit {0}
Every P (n ∷ ns) = P n × Every P ns

pub every_map : (P Q : Name → Type 0) → ((n : Name) → P n → Q n) → (ns : List Name) → Every P ns → Every Q ns
every_map P Q f [] h = tt
every_map P Q f (n ∷ ns) h = (f n h.0, every_map P Q f ns h.1)

every_pick : (P : Name → Type 0) (b : Bool) (m n : Name) (o : Option Name) → P m → (o ≡ Some n → P n) → cond b (Some m) o ≡ Some n → P n
every_pick P b m n o h f e = grind arith

pub every_find : (P : Name → Type 0) (test : Name → Bool) (ns : List Name) (n : Name) → Every P ns → find test ns ≡ Some n → P n
every_find P test [] n h e = cc
every_find P test (m ∷ ms) n h e = every_pick P (test m) m n (find test ms) h.0 (every_find P test ms n h.1) e

pub every_found : (P : Name → Type 0) (voc : ℕ) (bs : List ℕ) (ns : List Name) (n : Name) → Every P ns → found voc bs ns ≡ Some n → P n
every_found P voc bs ns n h e = grind (arith, every_find)

-- no name is of a vocabulary: its heads are 0
pub no_head : (ns : List Name) (v c : ℕ) → Every (λ n. n.vocabulary ≢ v) ns → newest_link ns v c ≡ 0
no_head [] v c h = refl
no_head (n ∷ ns) v c h = grind (arith, skip, both_false, eqb-true, no_head ns v c h.1)
