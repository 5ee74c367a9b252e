-- Numbers that texts spell.
use Rattle.std.specs.Prelude.{ℕ, ◌-◌, ◌%◌, List, [], ◌∷◌, ◌++◌, ◌≡◌, Bool, true, false, not, ◌&&◌, ◌==◌, if◌then◌else◌, length, drop, take, slice_index, IsTrue, IsFalse}
use Rattle.number_text.specs.declared.value.Number.{Number}
use Rattle.number_text.specs.declared.value.Number.TheVariants.{Single, Double}
use Rattle.number_text.specs.Digits.{are_digits, text_value}

-- the text begins with `-`
unfoldable pub is_minus : List ℕ → Bool
is_minus text = not (length text == 0) && (slice_index text 0 == 45)

-- the text ends with `.`
unfoldable pub has_dot : List ℕ → Bool
has_dot text = not (length text == 0) && (slice_index text (length text - 1) == 46)

abbrev pub behind_minus : List ℕ → List ℕ
behind_minus text = if is_minus text then drop 1 text else text

abbrev pub before_dot : List ℕ → List ℕ
before_dot text = if has_dot text then take (length text - 1) text else text

-- what is between an optional `-` and an optional last `.`
abbrev pub digit_part : List ℕ → List ℕ
digit_part text = before_dot (behind_minus text)

-- that is one or more digits below the base
unfoldable pub is_number : ℕ → List ℕ → Bool
is_number base text = not (length (digit_part text) == 0) && are_digits base (digit_part text)

-- a number with the `.` is a double
unfoldable pub is_double : List ℕ → Bool
is_double text = has_dot (behind_minus text)

-- a double, or the double after a `-`
abbrev pub with_sign : Bool → ℕ → ℕ
with_sign minus d = if minus then (4294967296 - d) % 4294967296 else d

-- the number, modulo 2^32
unfoldable pub number_value : ℕ → List ℕ → ℕ
number_value base text = with_sign (is_minus text) (text_value base (digit_part text) % 4294967296)

-- a text of an optional `-`, digits, and an optional `.`
abbrev pub sign : Bool → List ℕ
sign true = 45 ∷ []
sign false = []

abbrev pub point : Bool → List ℕ
point true = 46 ∷ []
point false = []

abbrev pub spelled : Bool → List ℕ → Bool → List ℕ
spelled minus ds dot = sign minus ++ (ds ++ point dot)

-- the text is a number, with `.` a double, and its value is that of the digits, negated after a `-`
pub record IsSpelling (base : ℕ) (text : List ℕ) (minus : Bool) (ds : List ℕ) (dot : Bool) : Type 0 where
  pub number : is_number base text ≡ true
  pub double : is_double text ≡ dot
  pub value : number_value base text ≡ with_sign minus (text_value base ds % 4294967296)

-- what is answered for a text
abbrev pub IsNumber : ℕ → List ℕ → Number → Type 0
IsNumber base text (Single x) =
    IsTrue (is_number base text) × IsFalse (is_double text) × (x ≡ number_value base text % 65536)
IsNumber base text (Double d) = IsTrue (is_number base text) × IsTrue (is_double text) × (d ≡ number_value base text)

abbrev pub IsNoNumber : ℕ → List ℕ → Type 0
IsNoNumber base text = IsFalse (is_number base text)
