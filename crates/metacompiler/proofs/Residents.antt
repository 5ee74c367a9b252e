-- A resident memory, and what it compiles.
use Rattle.std.proofs.Common.{◌≡◌, ℕ, zero, suc, ◌+◌, ◌*◌, ◌<◌, ◌≤◌, List, [], ◌∷◌, length, refl, arith, Bool, true, false, inl, inr, ◌⊎◌, nat_lt, if◌then◌else◌, ◌≢◌, ◌-◌, sym, ap, ◌∙◌, ◌==◌, ◌%◌, subst, take, drop, length-append, length-drop, All}
use Rattle.std.specs.Prelude.{slice_index, Contains, Ok, Err, IsOk, Result, Option}
use Rattle.std.proofs.lemmas.Bool.{cases_lt}
use Rattle.std.proofs.lemmas.Grind.{get_or_default_zero}
use Rattle.std.proofs.lemmas.List.{get_or_append_left, length-replicate}
use Rattle.memory.specs.Bytes.{cell, limit_of, byte, front_put, zeros}
use Rattle.dictionary.specs.Chain.{chain}
use Rattle.memory.specs.declared.limit.TheConstants.{GREATEST_LIMIT}
use Rattle.dictionary.specs.Header.{compilation_address}
use Rattle.dictionary.specs.Search.{head_of}
use Rattle.memory.proofs.Limits.{limit_most}
use Rattle.block_buffers.specs.Disks.{Disk}
use Rattle.block_buffers.proofs.Kept.{length-start}
use Rattle.colon_bodies.specs.Code.{all_size}
use Rattle.image_loader.specs.Files.{Contents, IsImage}
use Rattle.machine_parts.specs.Whole.{Whole}
use Rattle.machine.specs.State.{loaded_state}
use Rattle.source_words.specs.declared.modes.Mode.TheVariants.{Outside}
use Rattle.source_words.specs.Words.{SourceWord, words_of_screens, source_words}
use Rattle.image_builder.specs.Sources.{source_of}
use Rattle.metacompiler.specs.Loop.{Words}
use Rattle.metacompiler.specs.Orderly.{IsHead, HeaderClear, HeadersClear, CellApart, Orderly}
use Rattle.metacompiler.specs.Resident.{fields, IsRead, IsRecord, end_of_header, Resident}
use Rattle.metacompiler.specs.Rounds.{Ended, Out, out, screens, then_screens}
use Rattle.metacompiler.specs.Sources.{ColonDefinition, laid_one, laid_all, AreDefined}
use Rattle.metacompiler.specs.Loaded.{LoadFault, NotFound, ChainTooLong, Fault, Halted, Asked, Limit, Unfinished, BadSize, OutOfMemory, Loaded, by_out, ended, restored, IsLoaded, IsLaidOr, loaded_by_machine}
use Rattle.metacompiler.specs.Compiled.{memory_of, context_behind, Agree, Enough, Compiles}
use Rattle.metacompiler.proofs.Orders.{orderly_kept}
use Rattle.metacompiler.proofs.Defining.{context_of, agrees_self, saved_as, load_law, enough_law}

-- How many headers of at least seven bytes have room, if no two overlap.

-- two places at least seven bytes apart
abbrev pub Beside : ℕ → ℕ → Type 0
Beside l k = (l + 7 ≤ k) ⊎ (k + 7 ≤ l)

abbrev pub FromAll : ℕ → List ℕ → Type 0
FromAll l [] = l ≡ l
FromAll l (k ∷ ks) = Beside l k × FromAll l ks

abbrev pub Pairwise : List ℕ → Type 0
Pairwise [] = length {A = ℕ} [] ≡ 0
Pairwise (l ∷ ls) = FromAll l ls × Pairwise ls

abbrev pub Within : ℕ → ℕ → List ℕ → Type 0
Within lo hi [] = lo ≡ lo
Within lo hi (l ∷ ls) = ((lo ≤ l) × (l + 7 ≤ hi)) × Within lo hi ls

abbrev belows : ℕ → List ℕ → List ℕ
belows l [] = []
belows l (k ∷ ks) = if nat_lt k l then k ∷ belows l ks else belows l ks

abbrev aboves : ℕ → List ℕ → List ℕ
aboves l [] = []
aboves l (k ∷ ks) = if nat_lt k l then aboves l ks else k ∷ aboves l ks

is_not : (k l : ℕ) → nat_lt k l ≡ false → l ≤ k
is_not k l h = grind arith

count_step : (k n : ℕ) (xs ys : List ℕ) (b : Bool) → length xs + length ys ≡ n → length (if b then k ∷ xs else xs) + length (if b then ys else k ∷ ys) ≡ suc n
count_step k n xs ys b h = grind arith

counted : (l : ℕ) (ks : List ℕ) → length (belows l ks) + length (aboves l ks) ≡ length ks
counted l [] = refl
counted l (k ∷ ks) = count_step k (length ks) (belows l ks) (aboves l ks) (nat_lt k l) (counted l ks)

below_step : (lo hi l k : ℕ) (ks : List ℕ) (b : Bool) → nat_lt k l ≡ b → lo ≤ k → Beside l k → Within lo l ks → Within lo l (if b then k ∷ ks else ks)
below_step lo hi l k ks b e h x w = grind arith

below_within : (lo hi l : ℕ) (ks : List ℕ) → Within lo hi ks → FromAll l ks → Within lo l (belows l ks)
below_within lo hi l [] w f = refl
below_within lo hi l (k ∷ ks) w f = below_step lo hi l k (belows l ks) (nat_lt k l) refl w.0.0 f.0 (below_within lo hi l ks w.1 f.1)

above_step : (lo hi l k : ℕ) (ks : List ℕ) (b : Bool) → nat_lt k l ≡ b → k + 7 ≤ hi → Beside l k → Within (l + 7) hi ks → Within (l + 7) hi (if b then ks else k ∷ ks)
above_step lo hi l k ks b e h x w = grind arith

above_within : (lo hi l : ℕ) (ks : List ℕ) → Within lo hi ks → FromAll l ks → Within (l + 7) hi (aboves l ks)
above_within lo hi l [] w f = refl
above_within lo hi l (k ∷ ks) w f = above_step lo hi l k (aboves l ks) (nat_lt k l) refl w.0.1 f.0 (above_within lo hi l ks w.1 f.1)

from_if : (x k : ℕ) (xs ys : List ℕ) (b : Bool) → FromAll x (k ∷ xs) → FromAll x ys → FromAll x (if b then k ∷ xs else ys)
from_if x k xs ys b f g = grind arith

from_below : (x l : ℕ) (ks : List ℕ) → FromAll x ks → FromAll x (belows l ks)
from_below x l [] f = refl
from_below x l (k ∷ ks) f = from_if x k (belows l ks) (belows l ks) (nat_lt k l) (f.0, from_below x l ks f.1) (from_below x l ks f.1)

from_if_not : (x k : ℕ) (xs ys : List ℕ) (b : Bool) → FromAll x xs → FromAll x (k ∷ ys) → FromAll x (if b then xs else k ∷ ys)
from_if_not x k xs ys b f g = grind arith

from_above : (x l : ℕ) (ks : List ℕ) → FromAll x ks → FromAll x (aboves l ks)
from_above x l [] f = refl
from_above x l (k ∷ ks) f = from_if_not x k (aboves l ks) (aboves l ks) (nat_lt k l) (from_above x l ks f.1) (f.0, from_above x l ks f.1)

pair_if : (k : ℕ) (xs ys : List ℕ) (b : Bool) → Pairwise (k ∷ xs) → Pairwise ys → Pairwise (if b then k ∷ xs else ys)
pair_if k xs ys b f g = grind arith

pair_below : (l : ℕ) (ks : List ℕ) → Pairwise ks → Pairwise (belows l ks)
pair_below l [] p = refl
pair_below l (k ∷ ks) p = pair_if k (belows l ks) (belows l ks) (nat_lt k l) (from_below k l ks p.0, pair_below l ks p.1) (pair_below l ks p.1)

pair_if_not : (k : ℕ) (xs ys : List ℕ) (b : Bool) → Pairwise xs → Pairwise (k ∷ ys) → Pairwise (if b then xs else k ∷ ys)
pair_if_not k xs ys b f g = grind arith

pair_above : (l : ℕ) (ks : List ℕ) → Pairwise ks → Pairwise (aboves l ks)
pair_above l [] p = refl
pair_above l (k ∷ ks) p = pair_if_not k (aboves l ks) (aboves l ks) (nat_lt k l) (pair_above l ks p.1) (from_above k l ks p.0, pair_above l ks p.1)

room_by : (n lo hi : ℕ) (ls : List ℕ) → length ls ≤ n → lo ≤ hi → Pairwise ls → Within lo hi ls → lo + 7 * length ls ≤ hi
room_by n lo hi [] h g p w = omega arith
room_by zero lo hi (l ∷ ls) h g p w = absurd (omega arith)
room_by (suc n) lo hi (l ∷ ls) h g p w =
    let c = counted l ls in
    let a = room_by n lo l (belows l ls) (omega arith) w.0.0 (pair_below l ls p.1) (below_within lo hi l ls w.1 p.0) in
    let b = room_by n (l + 7) hi (aboves l ls) (omega arith) w.0.1 (pair_above l ls p.1) (above_within lo hi l ls w.1 p.0) in
    omega arith

-- so in 61,184 bytes there are at most 8,740
pub few : (lo hi : ℕ) (ls : List ℕ) → lo ≤ hi → Pairwise ls → Within lo hi ls → lo + 7 * length ls ≤ hi
few lo hi ls g p w = room_by (length ls) lo hi ls (omega arith) g p w

-- A chain that ends has no member twice.

-- the k-th link from l on
abbrev pub linked : List ℕ → ℕ → ℕ → ℕ
linked m zero l = l
linked m (suc k) l = linked m k (cell m l)

linked_on : (m : List ℕ) (i t l : ℕ) → linked m (i + t) l ≡ linked m t (linked m i l)
linked_on m zero t l = let e : 0 + t ≡ t = omega arith in rw e refl
linked_on m (suc i) t l = let e : suc i + t ≡ suc (i + t) = omega arith in rw e (linked_on m i t (cell m l))

is_zero : (l : ℕ) → (l == 0) ≡ true → l ≡ 0
is_zero l h = grind arith

is_some : (l : ℕ) → (l == 0) ≡ false → l ≢ 0
is_some l h = grind arith

end_step : (m : List ℕ) (n l : ℕ) (b : Bool) → (l == 0) ≡ b → (length (chain m n (cell m l)) < n → linked m (length (chain m n (cell m l))) (cell m l) ≡ 0) → length (if b then [] else l ∷ chain m n (cell m l)) < suc n → linked m (length (if b then [] else l ∷ chain m n (cell m l))) l ≡ 0
end_step m n l b e f h = grind arith

-- after the last member comes 0
pub ends : (m : List ℕ) (n l : ℕ) → length (chain m n l) < n → linked m (length (chain m n l)) l ≡ 0
unfolding chain
ends m zero l h = absurd (omega arith)
ends m (suc n) l h = end_step m n l (l == 0) refl (ends m n (cell m l)) h

some_step : (m : List ℕ) (n l i : ℕ) (b : Bool) → (l == 0) ≡ b → ((j : ℕ) → j < length (chain m n (cell m l)) → linked m j (cell m l) ≢ 0) → i < length (if b then [] else l ∷ chain m n (cell m l)) → linked m i l ≢ 0
some_step m n l i b e f h = grind arith

-- and none before it is 0
pub some : (m : List ℕ) (n l i : ℕ) → i < length (chain m n l) → linked m i l ≢ 0
unfolding chain
some m zero l i h = absurd (omega arith)
some m (suc n) l i h = some_step m n l i (l == 0) refl (some m n (cell m l)) h

at_step : (m : List ℕ) (n l i : ℕ) (b : Bool) → ((j : ℕ) → j < length (chain m n (cell m l)) → slice_index (chain m n (cell m l)) j ≡ linked m j (cell m l)) → i < length (if b then [] else l ∷ chain m n (cell m l)) → slice_index (if b then [] else l ∷ chain m n (cell m l)) i ≡ linked m i l
at_step m n l i b f h = grind arith

pub member_at : (m : List ℕ) (n l i : ℕ) → i < length (chain m n l) → slice_index (chain m n l) i ≡ linked m i l
unfolding chain
member_at m zero l i h = absurd (omega arith)
member_at m (suc n) l i h = at_step m n l i (l == 0) (member_at m n (cell m l)) h

pub none_twice : (m : List ℕ) (n l i j : ℕ) → length (chain m n l) < n → i < j → j < length (chain m n l) → slice_index (chain m n l) i ≢ slice_index (chain m n l) j
none_twice m n l i j h x y = λ e.
    let k = length (chain m n l) in
    let a : linked m i l ≡ linked m j l = sym (member_at m n l i (omega arith)) ∙ e ∙ member_at m n l j y in
    let t = k - j in
    let p : j + t ≡ k = omega arith in
    let b : linked m (i + t) l ≡ 0 = linked_on m i t l ∙ ap (λ (z : ℕ). linked m t z) a ∙ sym (linked_on m j t l) ∙ ap (λ (z : ℕ). linked m z l) p ∙ ends m n l h in
    some m n l (i + t) (omega arith) b

-- A resident memory is an orderly dictionary.

-- a head is in its record, at an even place
record InRecord (voc g : ℕ) : Type 0 where
  at : ℕ
  is : g ≡ voc + 2 * at
  small : at < 4

class_small : (b : ℕ) → b % 4 < 4
class_small b = omega arith

head_in : (voc : ℕ) (x : List ℕ) → voc + 10 ≤ GREATEST_LIMIT → InRecord voc (head_of voc x)
unfolding head_of
head_in voc x h =
    record { at = slice_index x 0 % 4; is = omega arith; small = (class_small (slice_index x 0)) }

-- two heads of one record, and of two that are apart

turned : (g h : ℕ) → (h ≡ g) ⊎ ((g + 1 < h) ⊎ (h + 1 < g)) → (g ≡ h) ⊎ ((h + 1 < g) ⊎ (g + 1 < h))
turned g h y0 = grind arith

records : (voc voc2 g h : ℕ) → (voc ≡ voc2) ⊎ ((voc + 10 ≤ voc2) ⊎ (voc2 + 10 ≤ voc)) → InRecord voc g → InRecord voc2 h → (h ≡ g) ⊎ ((g + 1 < h) ⊎ (h + 1 < g))
records voc voc2 g h y0 x y = grind arith

-- FORTH's record and another

record_end : (m : List ℕ) (voc : ℕ) → cell m 28 ≤ GREATEST_LIMIT → IsRecord m voc → voc + 10 ≤ GREATEST_LIMIT
record_end m voc h y0 = grind arith

-- where a head is: in CURRENT's record, in CONTEXT's, or in FORTH's
data Whose (cur ctx g : ℕ) : Type 0 where
  Own : InRecord cur g → Whose cur ctx g
  First : InRecord ctx g → Whose cur ctx g
  Forth : InRecord 42 g → Whose cur ctx g

whose : (cur ctx g : ℕ) → cur + 10 ≤ GREATEST_LIMIT → ctx + 10 ≤ GREATEST_LIMIT → IsHead cur ctx g → Whose cur ctx g
whose cur ctx g h k y0 = grind (arith, head_in)

beside : {limit : ℕ} (ws : Words) (a : ℕ) (m : List ℕ) (g h : ℕ) → Resident limit ws a m → Whose (cell m 34) (cell m 32) g → Whose (cell m 34) (cell m 32) h → (h ≡ g) ⊎ ((g + 1 < h) ⊎ (h + 1 < g))
beside {limit} ws a m g h r y0 y1 = grind arith

its : {limit : ℕ} (ws : Words) (a : ℕ) (m : List ℕ) (g : ℕ) → limit ≤ GREATEST_LIMIT → Resident limit ws a m → IsHead (cell m 34) (cell m 32) g → Whose (cell m 34) (cell m 32) g
its {limit} ws a m g top r i =
    let low : cell m 28 ≤ GREATEST_LIMIT = omega arith in
    whose (cell m 34) (cell m 32) g (record_end m (cell m 34) low r.current_in) (record_end m (cell m 32) low r.context_in) i

-- headers are apart from heads
past_head : (voc g l e : ℕ) → InRecord voc g → (voc + 12 ≤ l) ⊎ (e ≤ voc) → (g + 1 < l) ⊎ (e ≤ g)
past_head voc g l e x y0 = grind arith

header_apart : {limit : ℕ} (ws : Words) (a : ℕ) (m : List ℕ) (g l : ℕ) → (r : Resident limit ws a m) → IsRead r.headers m l → Whose (cell m 34) (cell m 32) g → (g + 1 < l) ⊎ (end_of_header m l ≤ g)
header_apart {limit} ws a m g l r i (Own x) = past_head (cell m 34) g l (end_of_header m l) x (r.current_apart l i)
header_apart {limit} ws a m g l r i (First x) = past_head (cell m 32) g l (end_of_header m l) x (r.context_apart l i)
header_apart {limit} ws a m g l r i (Forth x) = let gi = x.is in let gs = x.small in let lo = (r.headers_in l i).0 in inl (omega arith)

-- members of lists
contains_at : (ls : List ℕ) (i : ℕ) → i < length ls → Contains ls (slice_index ls i)
contains_at ls i h = (i, h, get_or_default_zero ls i (slice_index ls i) h)

all_clear : (cur ctx here : ℕ) (m ls : List ℕ) → ((i : ℕ) → i < length ls → HeaderClear cur ctx here m (slice_index ls i)) → HeadersClear cur ctx here m ls
all_clear cur ctx here m [] f = refl
all_clear cur ctx here m (l ∷ ls) f = (f 0 (omega arith), all_clear cur ctx here m ls (λ i h. f (suc i) (omega arith)))

all_from : (l : ℕ) (ls : List ℕ) → ((i : ℕ) → i < length ls → Beside l (slice_index ls i)) → FromAll l ls
all_from l [] f = refl
all_from l (k ∷ ks) f = (f 0 (omega arith), all_from l ks (λ i h. f (suc i) (omega arith)))

all_pairs : (ls : List ℕ) → ((i j : ℕ) → i < j → j < length ls → Beside (slice_index ls i) (slice_index ls j)) → Pairwise ls
all_pairs [] f = refl
all_pairs (l ∷ ls) f = (all_from l ls (λ i h. f 0 (suc i) (omega arith) (omega arith)), all_pairs ls (λ i j h k. f (suc i) (suc j) (omega arith) (omega arith)))

all_within : (lo hi : ℕ) (ls : List ℕ) → ((i : ℕ) → i < length ls → (lo ≤ slice_index ls i) × (slice_index ls i + 7 ≤ hi)) → Within lo hi ls
all_within lo hi [] f = refl
all_within lo hi (l ∷ ls) f = (f 0 (omega arith), all_within lo hi ls (λ i h. f (suc i) (omega arith)))

-- a chain's headers are few
chain_read : (hs m : List ℕ) (h i : ℕ) → IsHead (cell m 34) (cell m 32) h → i < length (chain m 32769 (cell m h)) → IsRead hs m (slice_index (chain m 32769 (cell m h)) i)
chain_read hs m h i k l = inl (h, k, contains_at (chain m 32769 (cell m h)) i l)

apart_seven : (m : List ℕ) (l k : ℕ) → l ≢ k → (l ≡ k) ⊎ ((end_of_header m l + 2 ≤ k) ⊎ (end_of_header m k + 2 ≤ l)) → Beside l k
apart_seven m l k n y0 = grind arith

chain_few : {limit : ℕ} (ws : Words) (a : ℕ) (m : List ℕ) (h : ℕ) → limit ≤ GREATEST_LIMIT → Resident limit ws a m → IsHead (cell m 34) (cell m 32) h → length (chain m 32769 (cell m h)) ≤ 9033
chain_few {limit} ws a m h top r k =
    let ls = chain m 32769 (cell m h) in
    let pairs : Pairwise ls = all_pairs ls (λ i j x y.
    apart_seven m (slice_index ls i) (slice_index ls j) (none_twice m 32769 (cell m h) i j (omega arith) x y)
    (r.headers_apart (slice_index ls i) (slice_index ls j) (chain_read r.headers m h i k (omega arith)) (chain_read r.headers m h j k y))) in
    let within : Within 258 (cell m 28 + 2) ls = all_within 258 (cell m 28 + 2) ls (λ i x. let q = r.headers_in (slice_index ls i) (chain_read r.headers m h i k x) in let q1 = q.1 in (q.0, omega arith)) in
    let n = few 258 (cell m 28 + 2) ls (omega arith) pairs within in
    omega arith

-- the thread's words
field_cell : (m : List ℕ) (l w g here : ℕ) → compilation_address m l ≡ w → 258 ≤ l → end_of_header m l ≤ here → here ≤ GREATEST_LIMIT → (g + 1 < l) ⊎ (end_of_header m l ≤ g) → CellApart here g w
unfolding compilation_address
field_cell m l w g here e lo hi top y0 = grind arith

field_apart : {limit : ℕ} (ws : Words) (a : ℕ) (m : List ℕ) (g w : ℕ) → limit ≤ GREATEST_LIMIT → Resident limit ws a m → Whose (cell m 34) (cell m 32) g → Contains (fields ws) w → CellApart (cell m 28) g w
field_apart {limit} ws a m g w top r x c =
    let n = r.named w c in
    let i : IsRead r.headers m n.0 = inr n.1 in
    let q = r.headers_in n.0 i in
    field_cell m n.0 w g (cell m 28) n.2 q.0 q.1 (omega arith) (header_apart ws a m g n.0 r i x)

thread_beside : {limit : ℕ} (ws : Words) (a : ℕ) (m : List ℕ) (g : ℕ) → Resident limit ws a m → Whose (cell m 34) (cell m 32) g → (g + 1 < a) ⊎ (a + 22 ≤ g)
thread_beside {limit} ws a m g r y0 = grind arith

placed : {limit : ℕ} (ws : Words) (a : ℕ) (m : List ℕ) (g : ℕ) → Resident limit ws a m → Whose (cell m 34) (cell m 32) g → ((42 ≤ g) × (g + 1 < 52)) ⊎ ((256 ≤ g) × (g + 1 < cell m 28))
placed {limit} ws a m g r y0 = grind arith

-- A resident memory is an orderly dictionary.
pub resident_orderly : {limit : ℕ} (ws : Words) (a : ℕ) (m : List ℕ) → length m ≡ 65536 → limit ≤ GREATEST_LIMIT → Resident limit ws a m → Orderly limit ws a (cell m 34) (cell m 32) 9033 (cell m 28) m
resident_orderly {limit} ws a m l top r = record {
  dp = refl;
  current = refl;
  executing = r.executing;
  ten = r.ten;
  low = r.low;
  high = r.high;
  top = top;
  all = l;
  thread = r.thread;
  apart = λ g i. let x = its ws a m g top r i in let lo = r.thread_in.0 in record {
    start = omega arith;
    behind = r.thread_in.1;
    beside = thread_beside ws a m g r x;
    interpret = field_apart ws a m g ws.interpret top r x (0, omega arith, refl);
    scan = field_apart ws a m g ws.scan top r x (1, omega arith, refl);
    query_dup = field_apart ws a m g ws.query_dup top r x (2, omega arith, refl);
    zero_branch = field_apart ws a m g ws.zero_branch top r x (3, omega arith, refl);
    zero_greater = field_apart ws a m g ws.zero_greater top r x (4, omega arith, refl);
    execute = field_apart ws a m g ws.execute top r x (5, omega arith, refl);
    branch = field_apart ws a m g ws.branch top r x (6, omega arith, refl);
    exit = field_apart ws a m g ws.exit top r x (7, omega arith, refl);
  };
  heads = λ g i. placed ws a m g r (its ws a m g top r i);
  chains = λ h k. record {
    beside = λ g i. beside ws a m g h r (its ws a m g top r i) (its ws a m h top r k);
    members = all_clear (cell m 34) (cell m 32) (cell m 28) m (chain m 32769 (cell m h)) (λ i x.
        let y = slice_index (chain m 32769 (cell m h)) i in
        let read : IsRead r.headers m y = chain_read r.headers m h i k x in
        let q = r.headers_in y read in
        record { low = omega arith; high = q.1; apart = λ g j. header_apart ws a m g y r read (its ws a m g top r j) });
    short = chain_few ws a m h top r k;
  };
}

-- The resident compiler agrees.

-- the memory that an image is loaded to
length_zeros : length zeros ≡ 65536
unfolding zeros
length_zeros = length-replicate {A = ℕ} 65536 0

length_loaded : (bs : List ℕ) → length bs ≤ GREATEST_LIMIT → length (front_put bs zeros) ≡ 65536
unfolding front_put
length_loaded bs h = length-append bs (drop (length bs) zeros) ∙ omega (arith, length-drop (length bs) zeros, length_zeros)

byte_loaded : (bs : List ℕ) (i : ℕ) → 256 ≤ length bs → All (λ b. b < 256) bs → i < 256 → byte (front_put bs zeros) i < 256
unfolding front_put byte
byte_loaded bs i l h k = subst (λ x. x < 256) (sym (get_or_append_left bs (drop (length bs) zeros) 0 i (omega arith))) (h i 0 (omega arith))

-- definitions are few
few_all : {limit : ℕ} (ws : Words) (a cur ctx most here : ℕ) (n : List ℕ) (sw : List SourceWord) (es : List ColonDefinition) → Orderly limit ws a cur ctx most here n → 9 * most ≤ here + 81041 → AreDefined limit n sw es → most + length es ≤ 32767
few_all {limit} ws a cur ctx most here n sw [] g l src = let hi = g.high in let top = g.top in omega arith
few_all {limit} ws a cur ctx most here n sw (e ∷ es) g l src =
    let g2 = orderly_kept ws a cur ctx most here e.screen n e.title e.body g (omega arith) (omega arith) (omega arith) in
    let r = few_all ws a cur ctx (suc most) (here + (7 + length e.title + (all_size e.body + 2))) (laid_one n e) src.0 es g2 (omega arith) src.2 in
    omega arith

-- no screens
nothing_defined : {limit : ℕ} (n : List ℕ) (e : ColonDefinition) (es : List ColonDefinition) → AreDefined limit n [] (e ∷ es) → ⊥
nothing_defined {limit} n e es src = let q = src.1.is in cc

no_screens : (w b ticks : ℕ) (u : Whole) (f : Disk) → screens w 0 b ticks u f ≡ out u f ticks Ended
unfolding then_screens
no_screens w b ticks u f = refl

no_words : (from : ℕ) → source_words from [] ≡ []
unfolding words_of_screens
no_words from = refl

same_context : (m : List ℕ) (es : List ColonDefinition) → context_of (cell m 34) (cell m 32) es ≡ context_behind m es
same_context m es = grind arith

-- INTERPRET is found

answer_of : {limit : ℕ} (image : Contents) (d : Disk) (from to ticks : ℕ) (ws : Words) (a : ℕ) (n : List ℕ) (context : ℕ) → 0 < from → Resident limit ws a (memory_of image d)
    → IsLaidOr image n context (by_out image.entry (memory_of image d) (screens ws.interpret (to + 1 - from) from ticks (loaded_state image (length d.blocks)).parts d)).answer
    → IsLaidOr image n context (loaded_by_machine image d from to ticks).answer
answer_of {limit} image d from to ticks ws a n context h r y = grind arith

pub agree : Agree
agree image d from to ticks ws a es x = by (cases_lt to from)
  where
    limit : ℕ
    limit = limit_of image.buffers

    is : IsImage image
    is = x.image_is

    r : Resident (limit_of image.buffers) ws a (memory_of image d)
    r = x.resident

    top : limit_of image.buffers ≤ GREATEST_LIMIT
    top = limit_most image.buffers x.image_is.buffers

    u : Whole
    u = (loaded_state image (length d.blocks)).parts

    m : List ℕ
    m = memory_of image d

    all : length m ≡ 65536
    all = length_loaded image.bytes (let size = is.size.1 in let t = top in omega arith)

    low : (j : ℕ) → j < 256 → byte m j < 256
    low j h = byte_loaded image.bytes j is.size.0 is.bytes h

    g : Orderly limit ws a (cell m 34) (cell m 32) 9033 (cell m 28) m
    g = resident_orderly ws a m all top r

    none : (es : List ColonDefinition) → AreDefined limit m [] es → to < from → IsLaidOr image (laid_all m es) (context_behind m es) (loaded_by_machine image d from to ticks).answer
    none (e ∷ es) s h = absurd (nothing_defined m e es s)
    none [] s h =
        let o = ap (λ c. by_out image.entry m (screens ws.interpret c from ticks u d)) (omega arith) ∙ ap (λ x. by_out image.entry m x) (no_screens ws.interpret from ticks u d) in
        answer_of image d from to ticks ws a m (cell m 32) x.some r
        (subst (λ (x : Loaded). IsLaidOr image m (cell m 32) x.answer) (sym o)
        (saved_as image (cell m 32) m u m (length-start image.buffers) all (agrees_self m) refl r.executing r.low r.high top low (λ i q. refl)))

    some : (more : ℕ) → to + 1 - from ≡ suc more → from ≤ to → IsLaidOr image (laid_all m es) (context_behind m es) (loaded_by_machine image d from to ticks).answer
    some more e h =
        let src2 : AreDefined limit m (words_of_screens Outside from (take (suc more) (drop from d.blocks))) es = subst (λ c. AreDefined limit m (words_of_screens Outside from (take c (drop from d.blocks))) es) e x.source in
        let few = few_all ws a (cell m 34) (cell m 32) 9033 (cell m 28) m (source_of d from to) es g (omega arith) x.source in
        let y = load_law ws a (cell m 34) (cell m 32) 9033 (cell m 28) image d from more ticks es is.buffers g few refl r.first_keys r.keys low x.reliable x.some (omega arith) src2 in
        grind (arith, answer_of, same_context, context_of)

    by : (to < from) ⊎ (from ≤ to) → IsLaidOr image (laid_all m es) (context_behind m es) (loaded_by_machine image d from to ticks).answer
    by (inl h) = none es (subst (λ ws. AreDefined limit m ws es) (no_source h) x.source) h
      where
        no_source : to < from → source_of d from to ≡ []
        no_source h = let z : to + 1 - from ≡ 0 = omega arith in ap (λ c. source_words from (take c (drop from d.blocks))) z ∙ no_words from
    by (inr h) = some (to - from) (omega arith) h

-- with enough ticks
saved_ok : (old : Contents) (n : List ℕ) (s : Whole) (context : ℕ) → IsLaidOr old n context (ended old.entry s) → IsOk (ended old.entry s)
saved_ok old n s context x = grind arith

answered_ok : (old : Contents) (n m : List ℕ) (o : Out) (context : ℕ) (parts : Whole) (disk : Disk) (k : ℕ) → o ≡ out parts disk k Ended → IsLaidOr old m context (ended old.entry (restored n parts)) → IsOk (by_out old.entry n o).answer
answered_ok old n m o context parts disk k e x = rw e (saved_ok old m (restored n parts) context x)

is_ok_of : {limit : ℕ} (image : Contents) (d : Disk) (from to ticks : ℕ) (ws : Words) (a : ℕ) → 0 < from → Resident limit ws a (memory_of image d)
    → IsOk (by_out image.entry (memory_of image d) (screens ws.interpret (to + 1 - from) from ticks (loaded_state image (length d.blocks)).parts d)).answer
    → IsOk (loaded_by_machine image d from to ticks).answer
is_ok_of {limit} image d from to ticks ws a h r y = grind arith

pub enough : Enough
enough image d from to ws a es x = by (cases_lt to from)
  where
    limit : ℕ
    limit = limit_of image.buffers

    is : IsImage image
    is = x.image_is

    r : Resident (limit_of image.buffers) ws a (memory_of image d)
    r = x.resident

    top : limit_of image.buffers ≤ GREATEST_LIMIT
    top = limit_most image.buffers x.image_is.buffers

    u : Whole
    u = (loaded_state image (length d.blocks)).parts

    m : List ℕ
    m = memory_of image d

    all : length m ≡ 65536
    all = length_loaded image.bytes (let size = is.size.1 in let t = top in omega arith)

    low : (j : ℕ) → j < 256 → byte m j < 256
    low j h = byte_loaded image.bytes j is.size.0 is.bytes h

    g : Orderly limit ws a (cell m 34) (cell m 32) 9033 (cell m 28) m
    g = resident_orderly ws a m all top r

    by : (to < from) ⊎ (from ≤ to) → (least : ℕ) × ((ticks : ℕ) → least < ticks → IsOk (loaded_by_machine image d from to ticks).answer)
    by (inl h) = (
      0,
      λ ticks k.
          let o = ap (λ c. screens ws.interpret c from ticks u d) (omega arith) ∙ no_screens ws.interpret from ticks u d in
          is_ok_of image d from to ticks ws a x.some r
          (answered_ok image m m (screens ws.interpret (to + 1 - from) from ticks u d) (cell m 32) u d ticks o (saved_as image (cell m 32) m u m (length-start image.buffers) all (agrees_self m) refl r.executing r.low r.high top low (λ i q. refl))),
    )
    by (inr h) =
        let more = to - from in
        let e : to + 1 - from ≡ suc more = omega arith in
        let src2 : AreDefined limit m (words_of_screens Outside from (take (suc more) (drop from d.blocks))) es = subst (λ c. AreDefined limit m (words_of_screens Outside from (take c (drop from d.blocks))) es) e x.source in
        let few = few_all ws a (cell m 34) (cell m 32) 9033 (cell m 28) m (source_of d from to) es g (omega arith) x.source in
        let y = enough_law ws a (cell m 34) (cell m 32) 9033 (cell m 28) image d from more es is.buffers g few refl r.first_keys r.keys low x.reliable x.some (omega arith) src2 in (
          y.0,
          λ ticks k.
              let z = y.1 ticks k in
              is_ok_of image d from to ticks ws a x.some r
              (answered_ok image m (laid_all m es) (screens ws.interpret (to + 1 - from) from ticks u d) (context_of (cell m 34) (cell m 32) es) z.0 z.1 z.2 (ap (λ c. screens ws.interpret c from ticks u d) e ∙ z.3) z.4),
        )

-- what is answered
pub compiles_by : (image : Contents) (d : Disk) (from to ticks : ℕ) (r : Result Contents LoadFault) (disk : Option Disk) → IsLoaded d (loaded_by_machine image d from to ticks) r disk → Compiles image d from to r
compiles_by image d from to ticks (Err OutOfMemory) disk h = λ ws a es x. tt
compiles_by image d from to ticks (Ok i) disk h = λ ws a es x. subst (λ v. IsLaidOr image (laid_all (memory_of image d) es) (context_behind (memory_of image d) es) v) (sym h.0) (agree image d from to ticks ws a es x)
compiles_by image d from to ticks (Err NotFound) disk h = λ ws a es x. subst (λ v. IsLaidOr image (laid_all (memory_of image d) es) (context_behind (memory_of image d) es) v) (sym h.0) (agree image d from to ticks ws a es x)
compiles_by image d from to ticks (Err ChainTooLong) disk h = λ ws a es x. subst (λ v. IsLaidOr image (laid_all (memory_of image d) es) (context_behind (memory_of image d) es) v) (sym h.0) (agree image d from to ticks ws a es x)
compiles_by image d from to ticks (Err (Fault f)) disk h = λ ws a es x. subst (λ v. IsLaidOr image (laid_all (memory_of image d) es) (context_behind (memory_of image d) es) v) (sym h.0) (agree image d from to ticks ws a es x)
compiles_by image d from to ticks (Err Halted) disk h = λ ws a es x. subst (λ v. IsLaidOr image (laid_all (memory_of image d) es) (context_behind (memory_of image d) es) v) (sym h.0) (agree image d from to ticks ws a es x)
compiles_by image d from to ticks (Err Asked) disk h = λ ws a es x. subst (λ v. IsLaidOr image (laid_all (memory_of image d) es) (context_behind (memory_of image d) es) v) (sym h.0) (agree image d from to ticks ws a es x)
compiles_by image d from to ticks (Err Limit) disk h = λ ws a es x. subst (λ v. IsLaidOr image (laid_all (memory_of image d) es) (context_behind (memory_of image d) es) v) (sym h.0) (agree image d from to ticks ws a es x)
compiles_by image d from to ticks (Err Unfinished) disk h = λ ws a es x. subst (λ v. IsLaidOr image (laid_all (memory_of image d) es) (context_behind (memory_of image d) es) v) (sym h.0) (agree image d from to ticks ws a es x)
compiles_by image d from to ticks (Err BadSize) disk h = λ ws a es x. subst (λ v. IsLaidOr image (laid_all (memory_of image d) es) (context_behind (memory_of image d) es) v) (sym h.0) (agree image d from to ticks ws a es x)
