-- Bytes made text.
use Rattle.std.specs.Prelude.{ℕ, ◌%◌, List, map, Bool, ◌&&◌, nat_le, if◌then◌else◌}

-- a byte that a text of screens can carry: from the blank to ~
unfoldable pub is_text : ℕ → Bool
is_text b = nat_le 32 b && nat_le b 126

-- without its high bit, and a blank if that is no text
unfoldable pub cleaned_byte : ℕ → ℕ
cleaned_byte b = if is_text (b % 128) then b % 128 else 32

unfoldable pub cleaned : List ℕ → List ℕ
cleaned bytes = map cleaned_byte bytes
