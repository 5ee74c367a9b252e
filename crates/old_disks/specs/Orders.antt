-- The order of sectors on the floppy disks of a PDP-11.
use Rattle.std.specs.Prelude.{ℕ, ◌+◌, ◌*◌, ◌/◌, ◌%◌}

-- which of the 26 sectors of a track, counted from 0, is read as this one: each second one is next, first those with even places, and each track
-- begins 6 places further on than the one before
unfoldable pub sector_on_track : (track number : ℕ) → ℕ
sector_on_track track number = (track * 6 + number * 2 + number / 13) % 26
