-- A block as a screen: sixteen lines of 64 bytes. Line numbers count on past 15 from line 0 again.
use Rattle.std.specs.Prelude.{◌≡◌, ℕ, ◌+◌, ◌*◌, ◌-◌, ◌%◌, List, ◌++◌, take, drop, length, replicate}

abbrev pub IsScreen : List ℕ → Type 0
IsScreen screen = length screen ≡ 1024

abbrev pub IsLine : List ℕ → Type 0
IsLine text = length text ≡ 64

unfoldable pub blank_line : List ℕ
blank_line = replicate 64 32

unfoldable pub blank_screen : List ℕ
blank_screen = replicate 1024 32

-- where line n begins
abbrev pub line_start : ℕ → ℕ
line_start n = 64 * (n % 16)

-- line n
unfoldable pub line_at : List ℕ → ℕ → List ℕ
line_at screen n = take 64 (drop (line_start n) screen)

-- line n becomes the text
unfoldable pub with_line : List ℕ → ℕ → List ℕ → List ℕ
with_line screen n text = take (line_start n) screen ++ (text ++ drop (line_start n + 64) screen)

-- the text is before line n, and the last line is lost
unfoldable pub line_inserted : List ℕ → ℕ → List ℕ → List ℕ
line_inserted screen n text =
    take (line_start n) screen ++ (text ++ take (length screen - line_start n - 64) (drop (line_start n) screen))

-- line n goes, and a blank line comes last
unfoldable pub line_deleted : List ℕ → ℕ → List ℕ
line_deleted screen n = take (line_start n) screen ++ (drop (line_start n + 64) screen ++ blank_line)
