-- A table whose class was brought up holds.
use Rattle.std.proofs.Common.{◌≡◌, ℕ, ◌%◌, ◌<◌, ◌≤◌, ◌==◌, List, length, Bool, true, false, refl, slice_index, slice_set}
use Rattle.std.proofs.lemmas.Grind.{get_or-set_at}
use Rattle.std.proofs.lemmas.List.{get_or-set_other}
use Rattle.name_index.specs.declared.index.NameIndex.{NameIndex}
use Rattle.name_index.specs.Index.{Serves, IsAdmitted, Holds, slots_of}
use Rattle.name_index.proofs.Walks.{same_more}
use Rattle.name_index.proofs.Rounds.{same_number, other_number}

serves_more : (top more k known e : ℕ) (m : List ℕ) → top ≤ more → Serves top m k known e → Serves more m k known e
serves_more top more k known e m le is = record { older = is.older; same = same_more top more k known e m le is.same }

raised_slot : (old top class first k : ℕ) (m heads before table : List ℕ) (b : Bool) → (k % 4 == class) ≡ b → class < length heads → old ≤ top → k < 8192
    → IsAdmitted top m class first before table → Serves old m k (slice_index heads (k % 4)) (slice_index before k)
    → Serves top m k (slice_index (slice_set heads class first) (k % 4)) (slice_index table k)
raised_slot old top class first k m heads before table true e len le b is was =
    let i : k % 4 ≡ class = same_number (k % 4) class e in
    let v : slice_index (slice_set heads class first) (k % 4) ≡ first = get_or-set_at heads class (k % 4) first 0 i len in
    rw v (is.slots k b i)
raised_slot old top class first k m heads before table false e len le b is was =
    let v : slice_index (slice_set heads class first) (k % 4) ≡ slice_index heads (k % 4) =
    get_or-set_other heads class (k % 4) first 0 (other_number (k % 4) class e) in
    rw (v, is.others k b (other_number (k % 4) class e)) (serves_more old top k (slice_index heads (k % 4)) (slice_index before k) m le was)

pub holds_raised : (limit class first top : ℕ) (old new : NameIndex) (m table : List ℕ) → class < length old.heads → old.top ≤ top → (256 < top → top ≤ limit)
    → IsAdmitted top m class first (slots_of old.table) table → slots_of new.table ≡ table → new.heads ≡ slice_set old.heads class first → new.top ≡ top
    → Holds limit old m → Holds limit new m
unfolding Holds
holds_raised limit class first top old new m table len le bound is tables heads tops holds = record {
  bound = rw tops bound;
  slots = λ k b. rw (tables, heads, tops) (raised_slot old.top top class first k m old.heads (slots_of old.table) table (k % 4 == class) refl len le b is (holds.slots k b));
}
