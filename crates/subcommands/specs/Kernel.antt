-- A block file made of lines of source.
use Rattle.std.specs.Prelude.{ℕ, ◌-◌, ◌++◌, List, length, take, flat_map, replicate}
use Rattle.std.specs.Str.Lines.{lines}

-- n blanks
unfoldable pub blanks : ℕ → List ℕ
blanks n = replicate n 32

-- bytes, cut or filled with blanks to n
unfoldable pub filled : ℕ → List ℕ → List ℕ
filled n bs = take n bs ++ blanks (n - length bs)

-- a line of a screen, filled with blanks to 64 bytes
unfoldable pub line_bytes : List ℕ → List ℕ
line_bytes line = line ++ blanks (64 - length line)

-- block 0 is blank, and the lines of a text are from block 1 on
unfoldable pub blocks_of : List ℕ → List ℕ
blocks_of text = blanks 1024 ++ flat_map line_bytes (lines text)
