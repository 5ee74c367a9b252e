-- Updated buffers, written one after another.
use Rattle.std.proofs.Common.{◌≡◌, ℕ, ◌+◌, ◌<◌, ◌≤◌, List, [], ◌∷◌, ◌++◌, Some, None, Result, Ok, Err, refl, sym, ap, subst, ◌∙◌, append-nil, append_assoc, map, take, length, slice_index_or, if◌then◌else◌}
use Rattle.std.specs.List.{flat_map}
use Rattle.std.proofs.lemmas.List.{take_all, take_more, map-append}
use Rattle.std.proofs.lemmas.List.Concat.{flat_map-append}
use Rattle.std.proofs.lemmas.List.Sums.{sum_by-append}
use Rattle.memory.specs.Bytes.{page}
use Rattle.machine_parts.specs.Whole.{Whole}
use Rattle.block_buffers.specs.declared.devices.DeviceFault.{DeviceFault}
use Rattle.block_buffers.specs.Calls.{failures, has_failed, write_call}
use Rattle.block_buffers.specs.Entries.{address_of, entry_at, unassigned_slot}
use Rattle.block_buffers.specs.declared.entry.Entry.{Entry}
use Rattle.block_buffers.specs.DeviceCalls.{DeviceCall, WasWritten}
use Rattle.serving.specs.Saving.{AreSaved, as_done, unsaved, write_if, writes_of}

-- the writes of some buffers were made after other calls
abbrev pub HaveSaved : (count : ℕ) → Whole → List Entry → (calls calls' : List DeviceCall) → ℕ → Type 0
HaveSaved count s es calls calls' lost = (given : List DeviceCall) × (calls' ≡ calls ++ given) × AreSaved count s es given lost

no_failures : failures [] ≡ 0
unfolding failures
no_failures = refl

more_failures : (f g : List DeviceCall) → failures (f ++ g) ≡ failures f + failures g
unfolding failures
more_failures f g = sum_by-append (λ c. if has_failed c then 1 else 0) f g

abbrev pub lost_by : {X : Type 0} → Result X DeviceFault → ℕ
lost_by (Ok _) = 0
lost_by (Err _) = 1

pub none_saved : (count : ℕ) (s : Whole) (calls : List DeviceCall) → HaveSaved count s [] calls calls 0
none_saved count s calls = ([], sym (append-nil calls), record { writes = refl; lost_is = sym no_failures })

-- a buffer whose block is not written
pub unwritten : (count : ℕ) (s : Whole) (e : Entry) (calls : List DeviceCall) → unsaved count e ≡ None → HaveSaved count s (e ∷ []) calls calls 0
unwritten count s e calls h =
    ([], sym (append-nil calls), record { writes = sym (ap (λ o. write_if (page s.memory (address_of s.buffers e.slot)) o ++ []) h); lost_is = sym no_failures })

one_failure : (u : ℕ) (bytes : List ℕ) (r : Result (Unit {0}) DeviceFault) → failures (write_call u bytes r ∷ []) ≡ lost_by r
unfolding failures
one_failure u bytes (Ok _) = refl
one_failure u bytes (Err _) = refl

call_done : (u : ℕ) (bytes : List ℕ) (r : Result (Unit {0}) DeviceFault) → map as_done (write_call u bytes r ∷ []) ≡ WasWritten u bytes ∷ []
call_done u bytes (Ok _) = refl
call_done u bytes (Err _) = refl

-- a buffer whose block is
pub was_written : (count : ℕ) (s : Whole) (e : Entry) (u : ℕ) (bytes : List ℕ) (r : Result (Unit {0}) DeviceFault) (calls calls' : List DeviceCall) → unsaved count e ≡ Some u → bytes ≡ page s.memory (address_of s.buffers e.slot)
    → calls' ≡ calls ++ write_call u bytes r ∷ [] → HaveSaved count s (e ∷ []) calls calls' (lost_by r)
was_written count s e u bytes r calls calls' h is logged = (
  write_call u bytes r ∷ [],
  logged,
  record {
    writes = call_done u bytes r ∙ ap (λ b. WasWritten u b ∷ []) is ∙ sym (ap (λ o. write_if (page s.memory (address_of s.buffers e.slot)) o ++ []) h);
    lost_is = sym (one_failure u bytes r);
  },
)

pub more_saved : (count : ℕ) (s : Whole) (es fs : List Entry) (c c' c'' : List DeviceCall) (m n : ℕ) → HaveSaved count s es c c' m → HaveSaved count s fs c' c'' n → HaveSaved count s (es ++ fs) c c'' (m + n)
more_saved count s es fs c c' c'' m n x y = (
  x.0 ++ y.0,
  y.1 ∙ ap (λ v. v ++ y.0) x.1 ∙ append_assoc c x.0 y.0,
  record {
    writes = map-append as_done x.0 y.0 ∙ ap (λ v. v ++ map as_done y.0) x.2.writes ∙ ap (λ v. flat_map (writes_of count s) es ++ v) y.2.writes ∙ sym (flat_map-append (writes_of count s) es fs);
    lost_is = ap (λ v. v + n) x.2.lost_is ∙ ap (λ v. failures x.0 + v) y.2.lost_is ∙ sym (more_failures x.0 y.0);
  },
)

pub next_saved : (count : ℕ) (s : Whole) (place : ℕ) (bs : List Entry) (e : Entry) (c c' c'' : List DeviceCall) (m n : ℕ) → place < length s.buffers → bs ≡ s.buffers → e ≡ entry_at bs place
    → HaveSaved count s (take place s.buffers) c c' m → HaveSaved count s (e ∷ []) c' c'' n → HaveSaved count s (take (place + 1) s.buffers) c c'' (m + n)
unfolding entry_at
next_saved count s place bs e c c' c'' m n some same is x y =
    let e_is : e ≡ slice_index_or s.buffers place (unassigned_slot 0) = is ∙ ap (λ v. slice_index_or v place (unassigned_slot 0)) same in
    let more : take (place + 1) s.buffers ≡ take place s.buffers ++ slice_index_or s.buffers place (unassigned_slot 0) ∷ [] = take_more s.buffers place (unassigned_slot 0) some in
    rw more (more_saved count s (take place s.buffers) (slice_index_or s.buffers place (unassigned_slot 0) ∷ []) c c' c'' m n x (subst (λ v. HaveSaved count s (v ∷ []) c' c'' n) e_is y))

pub all_saved : (count : ℕ) (s : Whole) (n : ℕ) (c c' : List DeviceCall) (m : ℕ) → length s.buffers ≤ n → HaveSaved count s (take n s.buffers) c c' m → HaveSaved count s s.buffers c c' m
all_saved count s n c c' m most x = subst (λ v. HaveSaved count s v c c' m) (take_all n s.buffers most) x
