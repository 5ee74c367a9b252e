-- Screens, and the text of them.
use Rattle.std.specs.Prelude.{All, eqb, map, ◌≡◌, ◌<◌, ℕ, zero, suc, ◌==◌, List, [], ◌∷◌, ◌++◌, length, take, drop, Bool, true, false, codes, decimal, flat_map, if◌then◌else◌}
use Rattle.std.specs.List.{list_all, IsDistinct}
use Rattle.screen_text.specs.Bytes.{is_blank, is_text, trimmed}
use Rattle.screen_text.specs.Escapes.{escaped, is_byte}

-- a screen: its number and its 1,024 bytes
pub record Screen : Type 0 where
  pub number : ℕ
  pub bytes : List ℕ

-- `% screen 12`
unfoldable pub heading : ℕ → List ℕ
heading number = codes "% screen " ++ decimal number

-- the line begins with %
unfoldable pub has_mark : List ℕ → Bool
has_mark [] = false
has_mark (b ∷ bs) = b == 37

-- how a line of a screen is written: one that begins with % has one % more
unfoldable pub marked : List ℕ → List ℕ
marked line = if has_mark line then 37 ∷ line else line

-- this many lines of 64 bytes, each without the blanks at its end, up to the last that isn't blank
unfoldable pub screen_lines : ℕ → List ℕ → List (List ℕ)
screen_lines zero bytes = []
screen_lines (suc n) bytes = if is_blank bytes then [] else trimmed (take 64 bytes) ∷ screen_lines n (drop 64 bytes)

-- one with bytes that are no text is written by escapes
unfoldable pub written : List ℕ → List ℕ
written line = if list_all is_text line then marked line else escaped line

-- a line of a screen and its end
unfoldable pub line_text : List ℕ → List ℕ
line_text line = written line ++ 10 ∷ []

-- a screen as text: its heading and its lines
unfoldable pub screen_text : (number : ℕ) → (bytes : List ℕ) → List ℕ
screen_text number bytes = heading number ++ (10 ∷ flat_map line_text (screen_lines 16 bytes))

-- screens as text
unfoldable pub text_of : List Screen → List ℕ
text_of screens = flat_map (λ s. screen_text s.number s.bytes) screens

-- the screens of these numbers, with 1,024 bytes for each
unfoldable pub screens_of : (numbers bytes : List ℕ) → List Screen
screens_of [] bytes = []
screens_of (n ∷ numbers) bytes = record { number = n; bytes = take 1024 bytes } ∷ screens_of numbers (drop 1024 bytes)

unfoldable pub numbers_of : List Screen → List ℕ
numbers_of screens = map (λ s. s.number) screens

unfoldable pub bytes_of : List Screen → List ℕ
bytes_of screens = flat_map (λ s. s.bytes) screens

-- a screen: its number is one of a block file, and its bytes are bytes
pub record IsWritable (s : Screen) : Type 0 where
  pub number : s.number < 65536
  pub size : length s.bytes ≡ 1024
  pub bytes : list_all is_byte s.bytes ≡ true

-- screens that a text can carry: no number occurs twice
pub record AreWritable (screens : List Screen) : Type 0 where
  pub each : All IsWritable screens
  pub distinct : IsDistinct eqb (numbers_of screens)
