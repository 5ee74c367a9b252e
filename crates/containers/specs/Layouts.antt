-- How screens lie in a container.
use Rattle.std.specs.Prelude.{◌≡◌, ℕ, ◌+◌, ◌*◌, ◌/◌, ◌%◌, ◌<◌, ◌≤◌, ◌==◌, List, [], ◌∷◌, length, slice_index, Bool, true, not, ◌&&◌, nat_lt, nat_le, Option, Some, None, if◌then◌else◌}
use Rattle.std.specs.List.{list_all, list_any}
use Rattle.containers.specs.declared.cause.Cause.{Cause}
use Rattle.containers.specs.declared.cause.Cause.TheVariants.{BadSector, BadSkew}

-- sectors lie after the bytes before the first, in tracks of equally many
pub record Layout : Type 0 where
  -- how many bytes are before the first sector
  pub offset : ℕ
  -- how many bytes of screens a sector has
  pub sector : ℕ
  -- for each sector of a track, in the order in which they are read, the place on the track where it is, from 0 on
  pub order : List ℕ
  -- what comes after the bytes of each sector: the end of a line
  pub ending : List ℕ
  -- in how many equal parts the screens come: in two, if the second is the first one's shadows
  pub parts : ℕ

-- none occurs twice
unfoldable pub distinct : List ℕ → Bool
distinct [] = true
distinct (x ∷ xs) = not (list_any (λ y. y == x) xs) && distinct xs

-- each place of a track is named once; a track has at most 1,024 sectors
unfoldable pub is_order : List ℕ → Bool
is_order order =
    (nat_lt 0 (length order) && nat_le (length order) 1024) && (list_all (λ place. nat_lt place (length order)) order && distinct order)

-- a sector has at least one byte, and a screen has whole sectors
unfoldable pub divides_screen : ℕ → Bool
divides_screen sector = nat_lt 0 sector && (1024 % sector == 0)

-- why sectors of so many bytes in this order are no layout
unfoldable pub misfit : (sector : ℕ) → (order : List ℕ) → Option Cause
misfit sector order =
    if not (divides_screen sector) then Some BadSector
    else if not (is_order order) then Some BadSkew
    else None

-- a layout that can be: its numbers are small enough to be reckoned with
pub record IsLayout (l : Layout) : Type 0 where
  pub offset : l.offset < 4294967296
  pub sector : divides_screen l.sector ≡ true
  pub order : is_order l.order ≡ true
  pub ending : length l.ending ≤ 2
  pub parts : 0 < l.parts

-- how many bytes a sector takes up, and a track
unfoldable pub pitch : Layout → ℕ
pitch l = l.sector + length l.ending

unfoldable pub track : Layout → ℕ
track l = pitch l * length l.order

-- where the sector is that is read as this one, counted through all tracks
unfoldable pub physical : (order : List ℕ) → (sector : ℕ) → ℕ
physical order sector = sector / length order * length order + slice_index order (sector % length order)

-- where this byte of the screens is in the container
unfoldable pub place : Layout → (byte : ℕ) → ℕ
place l byte = l.offset + (physical l.order (byte / l.sector) * pitch l + byte % l.sector)
