-- The list of block buffers, the most recently referenced first.
use Rattle.std.specs.Prelude.{◌≡◌, ◌≢◌, ℕ, zero, suc, ◌+◌, ◌-◌, ◌*◌, ◌<◌, ◌≤◌, List, [], ◌∷◌, ◌++◌, Some, None, ◌==◌, Bool, true, false, not, if◌then◌else◌, slice_index_or, is_some, unwrap_or, find, filter, map, take, fold, length, nat_lt, All, AllPairs, Contains, IsSome}
use Rattle.std.specs.List.{list_any}
use Rattle.memory.specs.Bytes.{IsCount, limit_of}
use Rattle.block_buffers.specs.declared.entry.Entry.{Entry}

-- a slot that has no block
abbrev pub unassigned_slot : ℕ → Entry
unassigned_slot slot = record { slot = slot; block = None; updated = false }

-- so many slots, the highest first; none has a block
unfoldable pub start : ℕ → List Entry
start zero = []
start (suc n) = unassigned_slot n ∷ start n

-- where the buffers begin in memory: the dictionary ends there at the latest
abbrev pub limit : List Entry → ℕ
limit b = limit_of (length b)

-- where the bytes of a slot's block begin
abbrev pub address_of : List Entry → ℕ → ℕ
address_of b slot = limit b + 1024 * slot

-- the entry has block u
abbrev pub is_of : ℕ → Entry → Bool
is_of u e = elim e.block [ Some v ↦ v == u | None ↦ false ]

-- a buffer has block u
unfoldable pub holds : List Entry → ℕ → Bool
holds b u = list_any (is_of u) b

-- the entry at a place, 0 being the most recently referenced
unfoldable pub entry_at : List Entry → ℕ → Entry
entry_at b place = slice_index_or b place (unassigned_slot 0)

-- the entry that is taken when a buffer is needed: the one that was not referenced for longest
abbrev pub victim : List Entry → Entry
victim b = entry_at b (length b - 1)

-- the slot of the buffer that has block u; the victim's if none has it
unfoldable pub slot_of : List Entry → ℕ → ℕ
slot_of b u = (unwrap_or (find (is_of u) b) (victim b)).slot

-- a buffer has the block, and this is its slot
abbrev pub IsSlotOf : List Entry → ℕ → ℕ → Type 0
IsSlotOf b u slot = (holds b u ≡ true) × (slot ≡ slot_of b u)

-- the entry is that of a slot
abbrev pub is_in : ℕ → Entry → Bool
is_in slot e = e.slot == slot

-- it is that of another slot
abbrev pub is_elsewhere : ℕ → Entry → Bool
is_elsewhere slot e = not (is_in slot e)

-- a reference to a slot: its entry comes first, the others stay in their order
unfoldable pub moved_front : ℕ → List Entry → List Entry
moved_front slot b = filter (is_in slot) b ++ filter (is_elsewhere slot) b

-- the buffers after references to these slots, one after the other
unfoldable pub after_references : List ℕ → List Entry → List Entry
after_references [] b = b
after_references (slot ∷ slots) b = after_references slots (moved_front slot b)

-- references alone made the new list of the old one: the same entries, in another order
abbrev pub IsReordered : List Entry → List Entry → Type 0
IsReordered old new = (slots : List ℕ) × (new ≡ after_references slots old)

-- the victim's buffer is given to block u, and is referenced; it is not updated
unfoldable pub assigned : ℕ → List Entry → List Entry
assigned u b = record { slot = (victim b).slot; block = Some u; updated = false } ∷ take (length b - 1) b

-- the entry in front is marked as updated, if it has a block
unfoldable pub front_marked : List Entry → List Entry
front_marked [] = []
front_marked (e ∷ es) = if is_some e.block then record e { updated = true } ∷ es else e ∷ es

-- the entry of a slot is no longer marked
abbrev pub cleaned_entry : ℕ → Entry → Entry
cleaned_entry slot e = if is_in slot e then record e { updated = false } else e

unfoldable pub cleaned : ℕ → List Entry → List Entry
cleaned slot b = map (cleaned_entry slot) b

-- the entry of block u is no longer marked
abbrev pub unmarked_entry : ℕ → Entry → Entry
unmarked_entry u e = if is_of u e then record e { updated = false } else e

unfoldable pub unmarked : ℕ → List Entry → List Entry
unmarked u b = map (unmarked_entry u) b

-- no buffer has a block; the order stays
abbrev pub unassigned_entry : Entry → Entry
unassigned_entry e = unassigned_slot e.slot

unfoldable pub unassigned : List Entry → List Entry
unassigned b = map unassigned_entry b

-- the block of the entry was updated since it was read or written
abbrev pub is_updated : Entry → Bool
is_updated e = e.updated

-- an entry is updated
unfoldable pub has_updated : List Entry → Bool
has_updated b = list_any is_updated b

-- the one of two entries with the lower slot
abbrev pub lower_of : Entry → Entry → Entry
lower_of d e = if nat_lt e.slot d.slot then e else d

-- the updated entry with the lowest slot; slot 16, above all, stands for none
unfoldable pub first_updated : List Entry → Entry
first_updated b = fold lower_of (unassigned_slot 16) (filter is_updated b)

-- an entry is updated, and this is the one with the lowest slot
abbrev pub IsFirstUpdated : List Entry → Entry → Type 0
IsFirstUpdated b e = (has_updated b ≡ true) × (e ≡ first_updated b)

-- what every list of buffers keeps: 2 to 16 entries, each slot below their number once, and only a buffer with a block is
-- updated
pub record AreBuffers (b : List Entry) : Type 0 where
  pub count : IsCount (length b)
  pub slots : All (λ e. e.slot < length b) b
  pub once : AllPairs (λ d e. d.slot ≢ e.slot) b
  pub updated_have : All (λ e. e.updated ≡ true → IsSome e.block) b

-- no two buffers have the same block
abbrev pub HasNoBlockTwice : List Entry → Type 0
HasNoBlockTwice b = AllPairs (λ d e. (u : ℕ) → d.block ≡ Some u → e.block ≢ Some u) b

-- one of the list, updated, and no updated one has a lower slot
pub record IsLowestUpdated (b : List Entry) (e : Entry) : Type 0 where
  pub one : Contains b e
  pub marked : e.updated ≡ true
  pub lowest : All (λ d. d.updated ≡ true → e.slot ≤ d.slot) b
