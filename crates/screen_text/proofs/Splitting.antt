use Rattle.std.proofs.Common.{◌≡◌, ℕ, suc, ◌-◌, ◌<◌, ◌≤◌, List, [], ◌∷◌, ◌++◌, length, take, drop, map, flat_map, slice_index, Bool, true, ◌&&◌, length-append, arith, ap, sym, ◌∙◌, append_assoc, append-nil}
use Rattle.std.specs.List.{list_all}
use Rattle.std.proofs.lemmas.Bool.{cond-false}
use Rattle.std.proofs.lemmas.Grind.{common_steps}
use Rattle.bstr.specs.Text.{line_len, lines_of, without_terminator, no_cr}
use Rattle.bstr.proofs.lemmas.LineLemmas.{lines-append, lines-one, lines-nil, lines-step, line_len-bounds}
use Rattle.screen_text.specs.Bytes.{is_text}
use Rattle.screen_text.specs.Reading.{text_lines}

-- lines, each with its line feed
unfoldable pub ended : List (List ℕ) → List ℕ
ended lines = flat_map (λ l. l ++ 10 ∷ []) lines

unfoldable pub are_text : List (List ℕ) → Bool
are_text lines = list_all (λ l. list_all is_text l) lines

-- text has no line feed and no carriage return
text-low : (b : ℕ) → is_text b ≡ true → 32 ≤ b
unfolding is_text
text-low b e = grind arith

pub text-at : (l : List ℕ) (k : ℕ) → list_all is_text l ≡ true → k < length l → 32 ≤ slice_index l k
text-at (b ∷ l) (suc k) e below = text-at l k (let t : (is_text b && list_all is_text l) ≡ true = e in grind arith) (omega arith)
text-at l k e below = grind (arith, text-low)

last-of : (l : List ℕ) (b : ℕ) → slice_index (l ++ b ∷ []) (length (l ++ b ∷ []) - 1) ≡ b
last-of l b = grind (arith, common_steps)

front-of : (l : List ℕ) (b : ℕ) → take (length (l ++ b ∷ []) - 1) (l ++ b ∷ []) ≡ l
front-of l b = grind (arith, common_steps)

within-front : (l : List ℕ) (b k : ℕ) → k < length l → slice_index (l ++ b ∷ []) k ≡ slice_index l k
within-front l b k below = grind (arith, common_steps)

keeps : (l : List ℕ) → list_all is_text l ≡ true → no_cr l ≡ l
keeps l e = grind (arith, text-at, cond-false)

stripped : (l : List ℕ) → list_all is_text l ≡ true → without_terminator (l ++ 10 ∷ []) ≡ l
stripped l e = grind (arith, common_steps, last-of, front-of, keeps)

one-line : (l : List ℕ) → list_all is_text l ≡ true → lines_of (l ++ 10 ∷ []) ≡ (l ++ 10 ∷ []) ∷ []
one-line l e = grind (arith, lines-one, length-append, text-at, within-front)

pub next-line : (l rest : List ℕ) → list_all is_text l ≡ true → text_lines ((l ++ 10 ∷ []) ++ rest) ≡ l ∷ text_lines rest
unfolding text_lines
next-line l rest e = grind (arith, last-of, lines-append, one-line, stripped)

-- lines of text are read as they were written
pub lines-ended : (lines : List (List ℕ)) → are_text lines ≡ true → text_lines (ended lines) ≡ lines
unfolding ended are_text
lines-ended [] e = unfold text_lines in ap (map without_terminator) lines-nil
lines-ended (l ∷ lines) e = grind (arith, next-line, lines-ended lines (grind arith))

-- the first line of a text, and the others
pub first_line : (bs : List ℕ) → 0 < length bs → text_lines bs ≡ without_terminator (take (line_len bs) bs) ∷ text_lines (drop (line_len bs) bs)
unfolding text_lines
first_line bs pos = ap (map without_terminator) (lines-step bs pos)

-- it has a byte, and no more than there are
pub takes_some : (bs : List ℕ) → 0 < length bs → (0 < line_len bs) × (line_len bs ≤ length bs)
takes_some bs pos = line_len-bounds bs pos

-- a line more is read
pub read_on : (lines : List (List ℕ)) (rest line more all : List ℕ) → lines ++ text_lines rest ≡ text_lines all → 0 < length rest
    → line ≡ without_terminator (take (line_len rest) rest) → more ≡ drop (line_len rest) rest → (lines ++ line ∷ []) ++ text_lines more ≡ text_lines all
read_on lines rest line more all so pos is left =
    append_assoc lines (line ∷ []) (text_lines more) ∙ ap (λ l. lines ++ l) (ap (λ l. l ∷ text_lines more) is
    ∙ ap (λ r. without_terminator (take (line_len rest) rest) ∷ text_lines r) left ∙ sym (first_line rest pos)) ∙ so

-- all lines are read
pub read_all : (lines : List (List ℕ)) (rest all : List ℕ) → lines ++ text_lines rest ≡ text_lines all → length rest ≡ 0 → lines ≡ text_lines all
unfolding text_lines
read_all lines [] all so none = sym (append-nil lines) ∙ ap (λ l. lines ++ map without_terminator l) (sym lines-nil) ∙ so
read_all lines (b ∷ bs) all so none = absurd (omega arith)
