-- Items of a source, and the image that they define.
use Rattle.std.specs.Prelude.{ℕ, Bool, true, false, ◌==◌, cond, if◌then◌else◌, ◌/◌, zero, suc, ◌+◌, ◌%◌, List, [], ◌∷◌, ◌++◌, length, Option, Some, None}
use Rattle.colon_bodies.specs.Tree.{Definition}
use Rattle.colon_bodies.specs.Code.{all_size, whole_code}
use Rattle.memory.specs.declared.system.TheConstants.{BASE, DP, LAST, CONTEXT, CURRENT, FORTH_VOC, VOC_LINK, FENCE}
use Rattle.dictionary.specs.declared.code_fields.TheConstants.{COLON, CONSTANT, VARIABLE, VOCABULARY}
use Rattle.memory.specs.Bytes.{cell_bytes}
use Rattle.image_builder.specs.Places.{Place}
use Rattle.image_builder.specs.Names.{Name, address, class_of, newest_link}
use Rattle.image_builder.specs.declared.entry.Kind.{Kind}
use Rattle.image_builder.specs.declared.entry.Kind.TheVariants.{Primitive, Constant, Variable, Create, Vocabulary}
use Rattle.image_builder.specs.declared.entry.Sign.{Sign}
use Rattle.image_builder.specs.declared.entry.Sign.TheVariants as s

-- Items: a header without a body, a colon definition, `,`, `C,`, ALLOT, IMMEDIATE, DEFINITIONS with its record, BOOT with its word
pub data Item : Type 0 where
  Header : (name : Place) → Kind → Item
  Colon : (name : Place) → Definition → Item
  Cell : (n : ℕ) → Item
  Byte : (n : ℕ) → Item
  Allot : (n : ℕ) → Item
  Immediate : Item
  Definitions : (record_at : ℕ) → Item
  Boot : (w : ℕ) → Item

-- Items are none, or items and one more, with its words.
pub data Items : Type 0 where
  Nothing : Items
  Then : Items → (words : List Place) → Item → Items

abbrev pub item_words : Items → List Place
item_words Nothing = []
item_words (Then t ws i) = item_words t ++ ws

-- sizes and addresses
abbrev pub kind_size : Kind → ℕ
kind_size (Constant n) = 2
kind_size Variable = 2
kind_size Vocabulary = 10
kind_size _ = 0

-- a header up to its code field
abbrev pub head_size : Place → ℕ
head_size p = 7 + length p.name

abbrev pub item_size : Item → ℕ
item_size (Header p k) = head_size p + kind_size k
item_size (Colon p b) = head_size p + (all_size b + 2)
item_size (Cell n) = 2
item_size (Byte n) = 1
item_size (Allot n) = n
item_size _ = 0

-- the address after the items
abbrev pub end_of : Items → ℕ
end_of Nothing = 256
end_of (Then t ws i) = end_of t + item_size i

-- the vocabulary that later headers go in
abbrev pub current : Items → ℕ
current Nothing = FORTH_VOC
current (Then t ws (Definitions v)) = v
current (Then t ws _) = current t

abbrev pub sign_of : Kind → Sign
sign_of (Primitive n) = s.Control n
sign_of Vocabulary = s.Record
sign_of _ = s.Plain

abbrev pub mark : List Name → List Name
mark [] = []
mark (n ∷ ns) = record n { immediate = true } ∷ ns

-- the names, newest first
abbrev pub new_name : Items → Place → Sign → Name
new_name t p sign = record { name = p.name; vocabulary = current t; link = end_of t + 2; immediate = false; sign = sign }

abbrev pub names : Items → List Name
names Nothing = []
names (Then t ws (Header p k)) = new_name t p (sign_of k) ∷ names t
names (Then t ws (Colon p b)) = new_name t p s.Plain ∷ names t
names (Then t ws Immediate) = mark (names t)
names (Then t ws _) = names t

-- the address of a vocabulary's record
abbrev pub record_of : Name → ℕ
record_of n = address n + 2

-- the compilation address of each control primitive, 0 if it has no name
abbrev pub controls : Items → ℕ → ℕ
controls Nothing k = 0
controls (Then t ws (Header p (Primitive n))) k = (if k == n then end_of t + (5 + length p.name) else controls t k)
controls (Then t ws _) k = controls t k

-- the newest record
abbrev pub newest_record : Items → ℕ
newest_record Nothing = FORTH_VOC
newest_record (Then t ws (Header p Vocabulary)) = end_of t + head_size p
newest_record (Then t ws _) = newest_record t

abbrev pub boot : Items → Option ℕ
boot Nothing = None
boot (Then t ws (Boot w)) = Some w
boot (Then t ws _) = boot t

-- The bytes of a header up to its code field; those of items. heads is the whole image's chain heads.
abbrev pub header_count : Place → Bool → ℕ
header_count p immediate = length p.name + cond immediate 192 128

abbrev pub head : (link : ℕ) → Place → Bool → ℕ → List ℕ
head link p immediate code = cell_bytes p.screen ++ (cell_bytes link ++ (header_count p immediate ∷ (p.name ++ cell_bytes code)))

abbrev pub vocabulary_bytes : (ℕ → ℕ → ℕ) → (at older : ℕ) → List ℕ
vocabulary_bytes heads at older = cell_bytes (heads at 0) ++ (cell_bytes (heads at 1) ++ (cell_bytes (heads at 2) ++ (cell_bytes (heads at 3) ++ cell_bytes older)))

abbrev pub code_of : Kind → ℕ
code_of (Primitive n) = n
code_of (Constant n) = CONSTANT
code_of Variable = VARIABLE
code_of Create = VARIABLE
code_of Vocabulary = VOCABULARY

abbrev pub parameters : (ℕ → ℕ → ℕ) → Items → (at : ℕ) → Kind → List ℕ
parameters heads t at (Primitive n) = []
parameters heads t at (Constant n) = cell_bytes n
parameters heads t at Variable = cell_bytes 0
parameters heads t at Create = []
parameters heads t at Vocabulary = vocabulary_bytes heads at (newest_record t)

abbrev pub zero_bytes : ℕ → List ℕ
zero_bytes zero = []
zero_bytes (suc n) = 0 ∷ zero_bytes n

abbrev pub link_of : Items → Place → ℕ
link_of t p = newest_link (names t) (current t) (class_of p.name)

-- what an item writes; immediate says whether an IMMEDIATE after it means its header
abbrev pub own : (ℕ → ℕ → ℕ) → Items → Item → (immediate : Bool) → List ℕ
own heads t (Header p k) imm = head (link_of t p) p imm (code_of k) ++ parameters heads t (end_of t + head_size p) k
own heads t (Colon p b) imm = head (link_of t p) p imm COLON ++ whole_code (controls t) b (end_of t + head_size p)
own heads t (Cell n) imm = cell_bytes n
own heads t (Byte n) imm = n % 256 ∷ []
own heads t (Allot n) imm = zero_bytes n
own heads t _ imm = []

abbrev pub passes : Item → Bool → Bool
passes (Header p k) imm = false
passes (Colon p b) imm = false
passes Immediate imm = true
passes _ imm = imm

abbrev pub items_bytes : (ℕ → ℕ → ℕ) → Items → (immediate : Bool) → List ℕ
items_bytes heads Nothing imm = []
items_bytes heads (Then t ws i) imm = items_bytes heads t (passes i imm) ++ own heads t i imm

abbrev pub heads_of : Items → ℕ → ℕ → ℕ
heads_of t = newest_link (names t)

abbrev pub last_link : List Name → ℕ
last_link [] = 0
last_link (n ∷ ns) = n.link

-- the cell at an even address below 256
abbrev pub system : Items → (address : ℕ) → ℕ
system t a =
    (if a == BASE then 10 else
    (if a == DP then end_of t else
    (if a == LAST then last_link (names t) else
    (if a == CONTEXT then current t else
    (if a == CURRENT then current t else
    (if a == FORTH_VOC then heads_of t FORTH_VOC 0 else
    (if a == FORTH_VOC + 2 then heads_of t FORTH_VOC 1 else
    (if a == FORTH_VOC + 4 then heads_of t FORTH_VOC 2 else
    (if a == FORTH_VOC + 6 then heads_of t FORTH_VOC 3 else
    (if a == VOC_LINK then newest_record t else
    (if a == FENCE then end_of t else
    0)))))))))))

abbrev pub low : (ℕ → ℕ) → (at : ℕ) → (n : ℕ) → List ℕ
low f at zero = []
low f at (suc n) = cell_bytes (f at) ++ low f (at + 2) n

-- the image of items
abbrev pub image : Items → List ℕ
image t = low (system t) 0 32 ++ (low (λ a. controls t (a / 2)) 0 32 ++ (zero_bytes 128 ++ items_bytes (heads_of t) t false))
