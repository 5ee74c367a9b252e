-- Which lines of a text are headings.
use Rattle.std.specs.Prelude.{ℕ, ◌+◌, List, [], ◌∷◌, ◌++◌, drop, decimal, if◌then◌else◌}
use Rattle.screen_text.specs.Bytes.{spread, trimmed}
use Rattle.screen_text.specs.Reading.{is_heading, number_of, text_lines}

-- what is listed of a heading: the number of its screen, and that of its line
unfoldable pub heading_line : (number line : ℕ) → List ℕ
heading_line number line = decimal number ++ (32 ∷ (decimal line ++ 10 ∷ []))

-- what is listed of a line of a text, as it is read
unfoldable pub listed_line : (line : ℕ) → List ℕ → List ℕ
listed_line line text =
    if is_heading (trimmed (spread 0 text)) then heading_line (number_of (drop 9 (trimmed (spread 0 text)))) line else []

-- the same of lines, of which the first has this number
unfoldable pub listed_lines : (line : ℕ) → List (List ℕ) → List ℕ
listed_lines line [] = []
listed_lines line (text ∷ texts) = listed_line line text ++ listed_lines (line + 1) texts

-- the headings of a text
unfoldable pub listed_headings : List ℕ → List ℕ
listed_headings text = listed_lines 1 (text_lines text)
