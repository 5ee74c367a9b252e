-- Lines with bytes that are no text, and how they are written.
use Rattle.std.specs.Prelude.{ℕ, ◌+◌, ◌-◌, ◌*◌, ◌/◌, ◌%◌, ◌==◌, List, [], ◌∷◌, ◌++◌, flat_map, fold, Bool, true, false, not, ◌&&◌, nat_lt, nat_le, if◌then◌else◌}
use Rattle.screen_text.specs.Bytes.{is_text}

unfoldable pub is_byte : ℕ → Bool
is_byte b = nat_lt b 256

-- a digit of base 16, as a character
unfoldable pub digit : ℕ → ℕ
digit d = if nat_lt d 10 then 48 + d else 55 + d

-- a byte that stands for itself: text, but ~
unfoldable pub is_plain : ℕ → Bool
is_plain b = is_text b && not (b == 126)

-- another one is ~ and its two digits
unfoldable pub escaped_byte : ℕ → List ℕ
escaped_byte b = if is_plain b then b ∷ [] else 126 ∷ digit (b / 16) ∷ digit (b % 16) ∷ []

-- such a line begins with %~
unfoldable pub escaped : List ℕ → List ℕ
escaped line = 37 ∷ 126 ∷ flat_map escaped_byte line

-- the line begins with ~, after its %
unfoldable pub has_sign : List ℕ → Bool
has_sign [] = false
has_sign (b ∷ bs) = b == 126

-- what a digit of base 16 comes to, 16 for what is none
unfoldable pub value : ℕ → ℕ
value c = if nat_le 48 c && nat_le c 57 then c - 48 else if nat_le 65 c && nat_le c 70 then c - 55 else 16

-- what is read of such a line: its bytes; what is started: nothing, a ~, or with this first digit, from 2 on; whether all was good
pub record Unescaped : Type 0 where
  pub bytes : List ℕ
  pub begun : ℕ
  pub good : Bool

unfoldable pub with_character : Unescaped → ℕ → Unescaped
with_character u c =
    if u.begun == 0 then (if c == 126 then record u { begun = 1 } else record u { bytes = u.bytes ++ c ∷ [] })
    else if not (nat_lt (value c) 16) then record u { good = false }
    else if u.begun == 1 then record u { begun = 2 + value c }
    else record u { bytes = u.bytes ++ (16 * (u.begun - 2) + value c) ∷ []; begun = 0 }

unfoldable pub unescaped : List ℕ → Unescaped
unescaped text = fold with_character (record { bytes = []; begun = 0; good = true }) text

-- nothing was wrong, and nothing is started
unfoldable pub is_whole : Unescaped → Bool
is_whole u = u.good && (u.begun == 0)
