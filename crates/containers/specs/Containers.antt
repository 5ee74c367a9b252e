-- Screens in the bytes of a container.
use Rattle.std.specs.Prelude.{◌≡◌, ◌≢◌, ◌⊎◌, ℕ, zero, suc, ◌+◌, ◌-◌, ◌*◌, ◌/◌, ◌%◌, ◌<◌, ◌==◌, List, [], ◌++◌, length, take, drop, replicate, slice_index, Bool, not, ◌&&◌, nat_lt, nat_le, Option, Some, None, if◌then◌else◌}
use Rattle.std.specs.Str.{bytes_eq}
use Rattle.containers.specs.declared.cause.Cause.{Cause}
use Rattle.containers.specs.declared.cause.Cause.TheVariants.{CutShort, TooLarge, NoEnding, CutBlock, NoRoom, OutOfMemory}
use Rattle.containers.specs.Layouts.{Layout, pitch, track, place}

-- how many sectors a container has, all tracks together
unfoldable pub sectors : Layout → (container : List ℕ) → ℕ
sectors l container = (length container - l.offset) / track l * length l.order

-- how many whole screens these are
unfoldable pub screens : Layout → (container : List ℕ) → ℕ
screens l container = sectors l container * l.sector / 1024

-- how many bytes those have
unfoldable pub capacity : Layout → (container : List ℕ) → ℕ
capacity l container = 1024 * screens l container

-- whole tracks come after the offset, with at least one screen, in equal parts
unfoldable pub is_whole : Layout → (container : List ℕ) → Bool
is_whole l container =
    (nat_le l.offset (length container) && ((length container - l.offset) % track l == 0))
    && (nat_lt 0 (screens l container) && (screens l container % l.parts == 0))

-- the sector that is at this place has its ending
unfoldable pub is_ended : Layout → (container : List ℕ) → (at : ℕ) → Bool
is_ended l container at = bytes_eq (take (length l.ending) (drop (l.offset + (at * pitch l + l.sector)) container)) l.ending

-- the first of n sectors, from this place on, that doesn't have
unfoldable pub first_open : Layout → (container : List ℕ) → (at n : ℕ) → Option ℕ
first_open l container at zero = None
first_open l container at (suc n) = if is_ended l container at then first_open l container (at + 1) n else Some at

abbrev pub open_cause : Option ℕ → Option Cause
open_cause None = None
open_cause (Some at) = Some (NoEnding at)

-- why a container isn't read; a block file has at most 65,536 blocks
unfoldable pub unread : Layout → (container : List ℕ) → Option Cause
unread l container =
    if not (is_whole l container) then Some CutShort
    else if nat_lt 65536 (screens l container) then Some TooLarge
    else open_cause (first_open l container 0 (sectors l container))

-- these are the screens that lie in the container
pub record IsRead (l : Layout) (container screens : List ℕ) : Type 0 where
  pub size : length screens ≡ capacity l container
  pub bytes : (i : ℕ) → i < capacity l container → slice_index screens i ≡ slice_index container (place l i)

-- no place of the container has a byte of so many of the screens
abbrev pub IsBeside : Layout → (count : ℕ) → (at : ℕ) → Type 0
IsBeside l count at = (i : ℕ) → i < count → place l i ≢ at

-- the container with these screens in it: all that isn't theirs is as it was
pub record IsWritten (l : Layout) (screens old new : List ℕ) : Type 0 where
  pub size : length new ≡ length old
  pub bytes : (i : ℕ) → i < length screens → slice_index new (place l i) ≡ slice_index screens i
  pub kept : (at : ℕ) → IsBeside l (length screens) at → slice_index new at ≡ slice_index old at

-- why these screens aren't written into a container
abbrev pub unwritten_by : Option Cause → Layout → (screens container : List ℕ) → Option Cause
unwritten_by (Some cause) l screens container = Some cause
unwritten_by None l screens container =
    if not (length screens % 1024 == 0) then Some CutBlock
    else if nat_lt (capacity l container) (length screens) then Some NoRoom
    else None

unfoldable pub unwritten : Layout → (screens container : List ℕ) → Option Cause
unwritten l screens container = unwritten_by (unread l container) l screens container

-- this is why it isn't done, or memory ran out
abbrev pub IsWhy : Option Cause → Cause → Type 0
IsWhy why cause = (why ≡ Some cause) ⊎ (cause ≡ OutOfMemory)

-- n sectors of blanks with their endings
unfoldable pub blank_sectors : Layout → ℕ → List ℕ
blank_sectors l zero = []
blank_sectors l (suc n) = (replicate l.sector 32 ++ l.ending) ++ blank_sectors l n

-- how many tracks so many bytes of screens fill
unfoldable pub tracks_for : Layout → (bytes : ℕ) → ℕ
tracks_for l bytes = (bytes + (l.sector * length l.order - 1)) / (l.sector * length l.order)

-- a new container for so many bytes: blanks, in as many tracks as they fill
unfoldable pub new_container : Layout → (bytes : ℕ) → List ℕ
new_container l bytes = replicate l.offset 32 ++ blank_sectors l (tracks_for l bytes * length l.order)
