-- The test whether buffers' records are such as buffers are.
use Rattle.std.proofs.Common.{◌≡◌, ◌≤◌, ℕ, List, length, map, true, subst}
use Rattle.std.specs.List.{list_all}
use Rattle.std.proofs.lemmas.List.{length-map}
use Rattle.block_buffers.specs.Entries.{AreBuffers}
use Rattle.block_buffers.specs.Tests.{can_stand, slots_differ}
use Rattle.block_buffers.proofs.Trying.{are_such, such_stand, such_differ}
use Rattle.forth83_c.specs.declared.record.Forth83Buffer.{Forth83Buffer}
use Rattle.forth83_c.specs.Kept.{entry_of}

pub they_are : (bs : List Forth83Buffer) → 2 ≤ length bs → length bs ≤ 16 → list_all (can_stand (length bs)) (map entry_of bs) ≡ true → slots_differ (map entry_of bs) ≡ true → AreBuffers (map entry_of bs)
they_are bs l m h d =
    let e : length (map entry_of bs) ≡ length bs = length-map bs entry_of in
    are_such (map entry_of bs) (rw e l) (rw e m) (rw e h) d

pub they_stand : (bs : List Forth83Buffer) → AreBuffers (map entry_of bs) → list_all (can_stand (length bs)) (map entry_of bs) ≡ true
they_stand bs h = subst (λ (n : ℕ). list_all (can_stand n) (map entry_of bs) ≡ true) (length-map bs entry_of) (such_stand (map entry_of bs) h)

pub they_differ : (bs : List Forth83Buffer) → AreBuffers (map entry_of bs) → slots_differ (map entry_of bs) ≡ true
they_differ bs h = such_differ (map entry_of bs) h

pub ruleset tested = (they_are, they_stand, they_differ)
