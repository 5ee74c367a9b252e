-- The named formats.
use Rattle.std.specs.Prelude.{ℕ, ◌-◌, ◌==◌, List, [], ◌∷◌, map, Option, codes, unwrap_or, if◌then◌else◌}
use Rattle.std.specs.List.{list_any}
use Rattle.containers.specs.Layouts.{Layout}
use Rattle.containers.specs.declared.formats.Format.{Format}
use Rattle.containers.specs.declared.formats.Format.TheVariants.{Blocks, F83, Fig, Poly, Cpm8, Cpm8Data, AppleDos, LinesLf, LinesCr, LinesCrlf}

-- how they are named
abbrev pub name_of : Format → List ℕ
name_of Blocks = codes "blocks"
name_of F83 = codes "f83"
name_of Fig = codes "fig"
name_of Poly = codes "poly"
name_of Cpm8 = codes "cpm8"
name_of Cpm8Data = codes "cpm8-data"
name_of AppleDos = codes "apple-dos"
name_of LinesLf = codes "lines-lf"
name_of LinesCr = codes "lines-cr"
name_of LinesCrlf = codes "lines-crlf"

-- sectors one after the other, with an ending each
abbrev pub plain : (sector : ℕ) → (ending : List ℕ) → Layout
plain sector ending = record { offset = 0; sector = sector; order = 0 ∷ []; ending = ending; parts = 1 }

-- 26 sectors a track, of which each sixth is read next, as CP/M's table for 8-inch disks has them
abbrev pub every_sixth : List ℕ
every_sixth = 0 ∷ 6 ∷ 12 ∷ 18 ∷ 24 ∷ 4 ∷ 10 ∷ 16 ∷ 22 ∷ 2 ∷ 8 ∷ 14 ∷ 20 ∷ 1 ∷ 7 ∷ 13 ∷ 19 ∷ 25 ∷ 5 ∷ 11 ∷ 17 ∷ 23 ∷ 3 ∷ 9 ∷ 15 ∷ 21 ∷ []

-- the 16 sectors of an Apple II's track, numbered as DOS 3.3 does, in the order of the blocks of Pascal and ProDOS
abbrev pub pascal_order : List ℕ
pascal_order = 0 ∷ 14 ∷ 13 ∷ 12 ∷ 11 ∷ 10 ∷ 9 ∷ 8 ∷ 7 ∷ 6 ∷ 5 ∷ 4 ∷ 3 ∷ 2 ∷ 1 ∷ 15 ∷ []

-- F83's file has shadows after its screens; fig-FORTH's blocks are of 128 bytes, eight a screen; a volume of polyFORTH has
-- blocks of 1,024 bytes; the first two tracks of a CP/M disk are the system's
unfoldable pub layout_of : Format → Layout
layout_of Blocks = plain 1024 []
layout_of F83 = record { offset = 0; sector = 1024; order = 0 ∷ []; ending = []; parts = 2 }
layout_of Fig = plain 128 []
layout_of Poly = plain 1024 []
layout_of Cpm8 = record { offset = 0; sector = 128; order = every_sixth; ending = []; parts = 1 }
layout_of Cpm8Data = record { offset = 6656; sector = 128; order = every_sixth; ending = []; parts = 1 }
layout_of AppleDos = record { offset = 0; sector = 256; order = pascal_order; ending = []; parts = 1 }
layout_of LinesLf = plain 64 (10 ∷ [])
layout_of LinesCr = plain 64 (13 ∷ [])
layout_of LinesCrlf = plain 64 (13 ∷ 10 ∷ [])

-- an order that is counted from 1 on, as tables of sectors are, or from 0
unfoldable pub from_zero : List ℕ → List ℕ
from_zero numbers = if list_any (λ n. n == 0) numbers then numbers else map (λ n. n - 1) numbers

-- one's own order, if there is one
unfoldable pub order_by : (skew own : List ℕ) → List ℕ
order_by [] own = own
order_by (n ∷ skew) own = from_zero (n ∷ skew)

-- a layout with one's own numbers in place of some of it
unfoldable pub changed : Layout → (offset sector : Option ℕ) → (skew : List ℕ) → Layout
changed l offset sector skew =
    record l { offset = unwrap_or offset l.offset; sector = unwrap_or sector l.sector; order = order_by skew l.order }
