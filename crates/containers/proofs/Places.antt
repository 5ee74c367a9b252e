use Rattle.std.proofs.Common.{◌≡◌, ◌∙◌, ℕ, ◌+◌, ◌-◌, ◌*◌, ◌/◌, ◌%◌, ◌<◌, ◌≤◌, List, length, Bool, true, false, not, nat_lt, Option, None, Some, if◌then◌else◌, arith, refl, ap, sym}
use Rattle.std.proofs.lemmas.Bool.{and_parts, ltb-true, ltb-false, leb-true, eqb-true}
use Rattle.std.proofs.lemmas.Nat.{mul-add-lt, mul-le, same_from_place, div_below, mod_below, div-add-mod', row_fits}
use Rattle.std.proofs.Math.Nat.{mul_assoc, mul_comm}
use Rattle.containers.specs.declared.cause.Cause.TheVariants.{CutShort, TooLarge}
use Rattle.containers.specs.Layouts.{IsLayout, Layout, divides_screen, physical, pitch, place, track}
use Rattle.containers.specs.Containers.{capacity, first_open, is_ended, is_whole, open_cause, screens, sectors, unread}
use Rattle.containers.proofs.Orders.{tests_of, physical_below, physical_one, physical_small}

at-most : (n q : ℕ) → 0 < n → q * n ≡ 1024 → n ≤ 1024
at-most n q some e = grind (arith, mul-le)

-- a sector has some bytes, and no more than a screen
pub sector_bound : (n : ℕ) → divides_screen n ≡ true → (0 < n) × (n ≤ 1024)
unfolding divides_screen
sector_bound n e = grind (arith, and_parts, ltb-true, eqb-true, at-most, div-add-mod')

-- the numbers of a layout
pub record Sizes (l : Layout) : Type 0 where
  pub sector : 0 < l.sector
  pub small_sector : l.sector ≤ 1024
  pub count : 0 < length l.order
  pub small_count : length l.order ≤ 1024
  pub pitch_is : pitch l ≡ l.sector + length l.ending
  pub some_pitch : 0 < pitch l
  pub small_pitch : pitch l ≤ 1026
  pub track_is : track l ≡ pitch l * length l.order
  pub some_track : 0 < track l

pub sizes_of : (l : Layout) → IsLayout l → Sizes l
unfolding pitch track
sizes_of l h = grind (arith, sector_bound, tests_of, mul-le)

-- what whole tracks take up
span : (x p n : ℕ) → x / (p * n) * n * p ≡ x / (p * n) * (p * n)
span x p n = mul_assoc (x / (p * n)) n p ∙ ap (λ k. x / (p * n) * k) (mul_comm n p)

pub sectors_span : (l : Layout) (c : List ℕ) → IsLayout l → sectors l c * pitch l ≤ length c - l.offset
unfolding sectors track
sectors_span l c h = grind (arith, span, div-add-mod')

pub sectors_small : (l : Layout) (c : List ℕ) → IsLayout l → sectors l c ≤ length c
sectors_small l c h =
    let z : Sizes l = sizes_of l h in
    let p : 0 < pitch l = z.some_pitch in
    omega (arith, sectors_span l c h, mul-le (sectors l c) 1 (sectors l c) (pitch l) (omega arith) (omega arith))

pub sectors_fit : (l : Layout) (c : List ℕ) → IsLayout l → (length c - l.offset) / track l * length l.order ≤ length c
unfolding sectors
sectors_fit l c h = sectors_small l c h

pub bytes_fit : (l : Layout) (c : List ℕ) → IsLayout l → sectors l c * l.sector ≤ length c
bytes_fit l c h =
    let z : Sizes l = sizes_of l h in
    let p : l.sector ≤ pitch l = (let e = z.pitch_is in omega arith) in
    omega (arith, sectors_span l c h, mul-le (sectors l c) l.sector (sectors l c) (pitch l) (omega arith) p)

-- the tests of a whole container
pub record Whole (l : Layout) (c : List ℕ) : Type 0 where
  pub offset : l.offset ≤ length c
  pub rest : (length c - l.offset) % track l ≡ 0
  pub some : 0 < screens l c
  pub even : screens l c % l.parts ≡ 0

pub whole_of : (l : Layout) (c : List ℕ) → is_whole l c ≡ true → Whole l c
unfolding is_whole
whole_of l c e = grind (arith, and_parts, leb-true, eqb-true, ltb-true)

pub whole_span : (l : Layout) (c : List ℕ) → Whole l c → l.offset + sectors l c * pitch l ≡ length c
unfolding sectors track
whole_span l c w = grind (arith, span, div-add-mod')

-- a sector of a whole container is in it
pub sector_inside : (l : Layout) (c : List ℕ) (at : ℕ) → IsLayout l → is_whole l c ≡ true → at < sectors l c → l.offset + (at * pitch l + pitch l) ≤ length c
sector_inside l c at h e below =
    omega (arith, whole_span l c (whole_of l c e), row_fits at (pitch l) (sectors l c) (pitch l) below (omega arith))

pub capacity_fits : (l : Layout) (c : List ℕ) → capacity l c ≤ sectors l c * l.sector
unfolding capacity screens
capacity_fits l c = omega (arith, div-add-mod' (sectors l c * l.sector) 1024)

physical_inside : (l : Layout) (c : List ℕ) (s : ℕ) → IsLayout l → s < sectors l c → physical l.order s < sectors l c
unfolding sectors
physical_inside l c s h below = grind (arith, physical_below, mul_comm)

-- each byte of the screens is in it
pub place_below : (l : Layout) (c : List ℕ) (byte : ℕ) → IsLayout l → is_whole l c ≡ true → byte < capacity l c → place l byte < length c
unfolding place
place_below l c byte h e below =
    let z : Sizes l = sizes_of l h in
    let some : 0 < l.sector = z.sector in
    let inside : byte < sectors l c * l.sector = omega (arith, capacity_fits l c) in
    let s : byte / l.sector < sectors l c = div_below byte l.sector (sectors l c) some inside in
    let r : byte % l.sector < l.sector = mod_below byte l.sector some in
    let p : l.sector ≤ pitch l = (let k = z.pitch_is in omega arith) in
    let put = mul-add-lt (physical l.order (byte / l.sector)) (pitch l) (byte % l.sector) (sectors l c) (physical_inside l c (byte / l.sector) h s) (omega arith) in
    omega (arith, put, whole_span l c (whole_of l c e), mul_comm (pitch l) (sectors l c))

-- two bytes don't lie at one place
pub place_one : (l : Layout) (i j : ℕ) → IsLayout l → place l i ≡ place l j → i ≡ j
unfolding place
place_one l i j h same =
    let z : Sizes l = sizes_of l h in
    let some : 0 < l.sector = z.sector in
    let p : l.sector ≤ pitch l = (let k = z.pitch_is in omega arith) in
    let a : i % l.sector < l.sector = mod_below i l.sector some in
    let b : j % l.sector < l.sector = mod_below j l.sector some in
    let parts = same_from_place (physical l.order (i / l.sector)) (i % l.sector) (physical l.order (j / l.sector)) (j % l.sector) (pitch l) (omega arith) (omega arith) (omega arith) in
    let q : i / l.sector ≡ j / l.sector = physical_one l.order (i / l.sector) (j / l.sector) h.order parts.0 in
    sym (div-add-mod' i l.sector) ∙ ap (λ k. k * l.sector + i % l.sector) q ∙ ap (λ k. j / l.sector * l.sector + k) parts.1 ∙ div-add-mod' j l.sector

-- numbers that are reckoned with stay small
pub place_fits : (l : Layout) (byte : ℕ) → IsLayout l → byte < 67108864 → physical l.order (byte / l.sector) * pitch l ≤ 70000000000
place_fits l byte h below =
    let z : Sizes l = sizes_of l h in
    let some : 0 < l.sector = z.sector in
    let q : byte / l.sector ≤ byte = omega (arith, div-add-mod' byte l.sector, mul-le (byte / l.sector) 1 (byte / l.sector) l.sector (omega arith) (omega arith)) in
    let a : physical l.order (byte / l.sector) < byte / l.sector + 1024 = physical_small l.order (byte / l.sector) h.order in
    let p : pitch l ≤ 1026 = z.small_pitch in
    omega (arith, mul-le (physical l.order (byte / l.sector)) (pitch l) 67109888 1026 (omega arith) p)

-- the same length, the same capacity
pub capacity_same : (l : Layout) (c d : List ℕ) → length c ≡ length d → capacity l c ≡ capacity l d
unfolding capacity screens sectors
capacity_same l c d e = ap (λ n. 1024 * ((n - l.offset) / track l * length l.order * l.sector / 1024)) e

-- the same if numbers stand for these
pub product_fits : (l : Layout) (byte t p : ℕ) → IsLayout l → byte < 67108864 → t ≡ physical l.order (byte / l.sector) → p ≡ pitch l → t * p ≤ 70000000000
product_fits l byte t p h below a b = rw (a, b) (place_fits l byte h below)

pub sectors_count : (l : Layout) (c : List ℕ) (x t n : ℕ) → IsLayout l → x ≡ length c - l.offset → t ≡ track l → n ≡ length l.order → x / t * n ≤ length c
sectors_count l c x t n h a b d = rw (a, b, d) (sectors_fit l c h)

pub bytes_count : (l : Layout) (c : List ℕ) (s z : ℕ) → IsLayout l → s ≡ sectors l c → z ≡ l.sector → s * z ≤ length c
bytes_count l c s z h a b = rw (a, b) (bytes_fit l c h)

pub ended_inside : (l : Layout) (c : List ℕ) (at p s e : ℕ) → IsLayout l → is_whole l c ≡ true → at < sectors l c → p ≡ pitch l → s ≡ l.sector → e ≡ length l.ending →
    l.offset + (at * p + s) + e ≤ length c
ended_inside l c at p s e h w below a b d =
    let z : Sizes l = sizes_of l h in
    let k : pitch l ≡ l.sector + length l.ending = z.pitch_is in
    rw (a, b, d) (omega (arith, sector_inside l c at h w below))

-- a container that is read
pub record Readable (l : Layout) (c : List ℕ) : Type 0 where
  pub whole : is_whole l c ≡ true
  pub small : screens l c ≤ 65536
  pub ended : first_open l c 0 (sectors l c) ≡ None

readable-ended : (o : Option ℕ) → open_cause o ≡ None → o ≡ None
readable-ended o e = grind arith

readable-by : (l : Layout) (c : List ℕ) (w t : Bool) → is_whole l c ≡ w → nat_lt 65536 (screens l c) ≡ t →
    (if not w then Some CutShort else if t then Some TooLarge else open_cause (first_open l c 0 (sectors l c))) ≡ None → Readable l c
readable-by l c w t a b e = grind (arith, ltb-false, readable-ended)

pub readable : (l : Layout) (c : List ℕ) → unread l c ≡ None → Readable l c
unfolding unread
readable l c e = readable-by l c (is_whole l c) (nat_lt 65536 (screens l c)) refl refl e

pub byte_small : (l : Layout) (c : List ℕ) (byte : ℕ) → unread l c ≡ None → byte < capacity l c → byte < 67108864
unfolding capacity
byte_small l c byte e below = let r : Readable l c = readable l c e in (let k : screens l c ≤ 65536 = r.small in omega arith)

pub byte_inside : (l : Layout) (c : List ℕ) (byte place_at : ℕ) → IsLayout l → unread l c ≡ None → byte < capacity l c → place_at ≡ place l byte → place_at < length c
byte_inside l c byte place_at h e below is = let r : Readable l c = readable l c e in rw is (place_below l c byte h r.whole below)

-- the first sector that isn't ended, sought one by one
pub open_more : (l : Layout) (c : List ℕ) (at n : ℕ) → at < n → is_ended l c at ≡ true → first_open l c at (n - at) ≡ first_open l c (at + 1) (n - (at + 1))
unfolding first_open
open_more l c at n below e = grind arith

pub open_here : (l : Layout) (c : List ℕ) (at n : ℕ) → at < n → is_ended l c at ≡ false → first_open l c at (n - at) ≡ Some at
unfolding first_open
open_here l c at n below e = grind arith

pub open_none : (l : Layout) (c : List ℕ) (at n : ℕ) → n ≤ at → first_open l c at (n - at) ≡ None
unfolding first_open
open_none l c at n end = let none : n - at ≡ 0 = omega arith in ap (first_open l c at) none
