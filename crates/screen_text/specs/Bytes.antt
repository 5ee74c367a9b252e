-- Bytes of a text, and blanks.
use Rattle.std.specs.Prelude.{ℕ, ◌+◌, ◌-◌, ◌%◌, ◌==◌, List, [], ◌∷◌, ◌++◌, length, replicate, Bool, ◌&&◌, ◌||◌, nat_le, if◌then◌else◌}
use Rattle.std.specs.List.{list_all}

-- n blanks
unfoldable pub blanks : ℕ → List ℕ
blanks n = replicate n 32

-- filled with blanks to n bytes
unfoldable pub padded : ℕ → List ℕ → List ℕ
padded n bs = bs ++ blanks (n - length bs)

unfoldable pub is_blank : List ℕ → Bool
is_blank bs = list_all (λ b. b == 32) bs

-- without the blanks at its end
unfoldable pub trimmed : List ℕ → List ℕ
trimmed [] = []
trimmed (b ∷ bs) = if is_blank (b ∷ bs) then [] else b ∷ trimmed bs

-- a byte that a text can carry: from the blank to ~
unfoldable pub is_text : ℕ → Bool
is_text b = nat_le 32 b && nat_le b 126

-- a line's first byte that is neither a tab nor text, 0 if there is none
unfoldable pub bad_byte : List ℕ → ℕ
bad_byte [] = 0
bad_byte (b ∷ bs) = if b == 9 || is_text b then bad_byte bs else b

-- with blanks for each tab, up to the next column of eight
unfoldable pub spread : (column : ℕ) → List ℕ → List ℕ
spread column [] = []
spread column (b ∷ bs) =
    if b == 9 then blanks (8 - column % 8) ++ spread (column + (8 - column % 8)) bs else b ∷ spread (column + 1) bs
