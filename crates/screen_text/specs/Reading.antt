-- What a text is read as.
use Rattle.std.specs.Prelude.{◌≡◌, ◌⊎◌, ℕ, ◌+◌, ◌-◌, ◌*◌, ◌==◌, min, List, [], ◌∷◌, ◌++◌, length, drop, map, fold, Bool, true, false, not, ◌&&◌, ◌||◌, nat_lt, if◌then◌else◌, Result, Ok, Err}
use Rattle.std.specs.List.{list_all, list_any}
use Rattle.std.specs.Str.{bytes_eq}
use Rattle.bstr.specs.Text.{lines_of, without_terminator}
use Rattle.screen_text.specs.declared.cause.Cause.{Cause}
use Rattle.screen_text.specs.declared.cause.Cause.TheVariants.{BadByte, BadEscape, LongLine, FullScreen, BadHeading, LateHeading, NamedTwice, NoScreen, OutOfMemory}
use Rattle.screen_text.specs.declared.cause.TextFault.{TextFault}
use Rattle.screen_text.specs.Bytes.{padded, trimmed, is_text, bad_byte, spread}
use Rattle.screen_text.specs.Escapes.{Unescaped, has_sign, is_whole, unescaped}
use Rattle.screen_text.specs.Screens.{heading, has_mark}

-- what is read up to a line: whether headings are before the lines, the numbers of the screens, and the lines of these,
-- each filled to 64 bytes; each screen but the last is filled to 1,024
pub record State : Type 0 where
  pub headed : Bool
  pub numbers : List ℕ
  pub bytes : List ℕ

-- with the last screen filled
unfoldable pub whole : State → List ℕ
whole s = padded (1024 * length s.numbers) s.bytes

-- what digits come to; above 65,535 it isn't counted any more
unfoldable pub number_of : List ℕ → ℕ
number_of digits = fold (λ n digit. min 65536 (10 * n + (digit - 48))) 0 digits

-- the line is just the heading of the screen that it names
unfoldable pub is_heading : List ℕ → Bool
is_heading line = nat_lt (number_of (drop 9 line)) 65536 && bytes_eq line (heading (number_of (drop 9 line)))

-- a heading begins a screen: all have one, or none has, and no screen has two
unfoldable pub with_screen : State → (number : ℕ) → Result State Cause
with_screen s number =
    if not (s.headed || length s.numbers == 0) then Err LateHeading
    else if list_any (λ n. n == number) s.numbers then Err NamedTwice
    else if not (nat_lt (length s.numbers) 65536) then Err NoScreen
    else Ok (record { headed = true; numbers = s.numbers ++ number ∷ []; bytes = whole s })

-- a line goes into the last screen; if that has sixteen, or there is none, it begins the next, if there are no headings
unfoldable pub with_line : State → List ℕ → Result State Cause
with_line s line =
    if nat_lt 64 (length line) then Err LongLine
    else if nat_lt (length s.bytes) (1024 * length s.numbers) then Ok (record s { bytes = s.bytes ++ padded 64 line })
    else if s.headed then Err FullScreen
    else if nat_lt (length s.numbers) 65535 then Ok (record s { numbers = s.numbers ++ (length s.numbers + 1) ∷ []; bytes = s.bytes ++ padded 64 line })
    else Err NoScreen

-- a line with escapes, if these are good
unfoldable pub with_escapes : State → Unescaped → Result State Cause
with_escapes s u = if is_whole u then with_line s u.bytes else Err BadEscape

-- a line that begins with one % is a heading, or has escapes after %~; of two, one is left out
unfoldable pub with_plain : State → List ℕ → Result State Cause
with_plain s line =
    if not (has_mark line) then with_line s line
    else if has_mark (drop 1 line) then with_line s (drop 1 line)
    else if has_sign (drop 1 line) then with_escapes s (unescaped (drop 2 line))
    else if is_heading line then with_screen s (number_of (drop 9 line))
    else Err BadHeading

-- a line of a text: tabs are blanks, and blanks at its end are nothing
unfoldable pub with_text : State → List ℕ → Result State Cause
with_text s line = if list_all (λ b. b == 9 || is_text b) line then with_plain s (trimmed (spread 0 line)) else Err (BadByte (bad_byte line))

-- before the first line
unfoldable pub nothing : State
nothing = record { headed = false; numbers = []; bytes = [] }

-- what a line leaves, then what those after it leave
abbrev pub then_read : (line : ℕ) → Result State Cause → (State → Result State TextFault) → Result State TextFault
then_read line (Err cause) next = Err (record { line = line; cause = cause })
then_read line (Ok s) next = next s

-- one line after another, of which the first has this number; the first that is refused decides
unfoldable pub with_texts : (line : ℕ) → State → List (List ℕ) → Result State TextFault
with_texts line s [] = Ok s
with_texts line s (text ∷ texts) = then_read line (with_text s text) (λ t. with_texts (line + 1) t texts)

-- the lines of a text, without their line feeds and the carriage returns before these
unfoldable pub text_lines : List ℕ → List (List ℕ)
text_lines text = map without_terminator (lines_of text)

-- what a text is read as: its lines, from line 1 on
unfoldable pub read : List ℕ → Result State TextFault
read text = with_texts 1 nothing (text_lines text)

-- these numbers and bytes were read, 1,024 bytes for each number
abbrev pub IsRead : Result State TextFault → (numbers bytes : List ℕ) → Type 0
IsRead (Ok s) numbers bytes = (numbers ≡ s.numbers) × (bytes ≡ whole s)
IsRead (Err fault) numbers bytes = ⊥

-- this is why it isn't done, or memory ran out
abbrev pub Refuses : {A : Type 0} → Result A Cause → Cause → Type 0
Refuses r cause = (r ≡ Err cause) ⊎ (cause ≡ OutOfMemory)

abbrev pub RefusesText : {A : Type 0} → Result A TextFault → TextFault → Type 0
RefusesText r fault = (r ≡ Err fault) ⊎ (fault.cause ≡ OutOfMemory)
