use Rattle.std.proofs.Common.{◌≡◌, ◌∙◌, ℕ, ◌<◌, ◌≤◌, List, [], ◌∷◌, length, Bool, true, ◌||◌, append-nil, arith, Ok, refl, ap, sym}
use Rattle.std.specs.Prelude.{All, eqb}
use Rattle.std.specs.List.{list_any}
use Rattle.std.proofs.lemmas.List.{length-map}
use Rattle.std.proofs.lemmas.List.Elements.{All-head, All-tail}
use Rattle.std.proofs.lemmas.Map.Steps.{length-le_from_distinct_below}
use Rattle.screen_text.specs.Bytes.{blanks, padded}
use Rattle.screen_text.specs.Screens.{Screen, IsWritable, AreWritable, text_of, numbers_of, bytes_of}
use Rattle.screen_text.specs.Reading.{IsRead, nothing, read, text_lines, whole, with_texts}
use Rattle.screen_text.proofs.Splitting.{lines-ended}
use Rattle.screen_text.proofs.Gathering.{Reads, all_lines, all-text-lines, apart-none, new-of, reads_screens, text-is}

below-by : (t : Bool) (q : ℕ) (s : Screen) (numbers : List ℕ) → eqb q s.number ≡ t → s.number < 65536 → (list_any (eqb q) numbers ≡ true → q < 65536) → (eqb q s.number || list_any (eqb q) numbers) ≡ true → q < 65536
below-by t q s numbers is low more e = grind arith

-- a number among those of screens
below : (screens : List Screen) → All IsWritable screens → (q : ℕ) → list_any (eqb q) (numbers_of screens) ≡ true → q < 65536
unfolding numbers_of
below [] each q e = absurd (cc)
below (s ∷ screens) each q e =
    let h : IsWritable s = All-head IsWritable s screens each in
    below-by (eqb q s.number) q s (numbers_of screens) refl h.number (below screens (All-tail IsWritable s screens each) q) e

pub few : (screens : List Screen) → AreWritable screens → length screens ≤ 65536
few screens h =
    let n : length (numbers_of screens) ≤ 65536 = length-le_from_distinct_below (numbers_of screens) 65536 h.distinct (below screens h.each) in
    let same : length (numbers_of screens) ≡ length screens = unfold numbers_of in length-map screens (λ s. s.number) in
    omega arith

-- the text of screens is read as these screens
pub reread : (screens : List Screen) → AreWritable screens → IsRead (read (text_of screens)) (numbers_of screens) (bytes_of screens)
unfolding read nothing whole padded
reread screens h =
    let r : Reads nothing (all_lines screens) (numbers_of screens) (bytes_of screens) =
    reads_screens screens nothing h.each (new-of [] (numbers_of screens) (apart-none (numbers_of screens)) h.distinct) (let count : length screens ≤ 65536 = few screens h in omega arith) refl (unfold blanks in refl) in
    let is : read (text_of screens) ≡ Ok r.after =
    ap (λ t. with_texts 1 nothing (text_lines t)) (text-is screens) ∙ ap (with_texts 1 nothing) (lines-ended (all_lines screens) (all-text-lines screens h.each)) ∙ ap (with_texts 1 nothing) (sym (append-nil (all_lines screens)))
    ∙ r.leads.reads 1 [] ∙ unfold with_texts in refl in
    rw is (sym r.numbers, sym (r.bytes ∙ unfold blanks in refl))
