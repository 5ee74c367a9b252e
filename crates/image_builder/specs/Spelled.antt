-- What a word may be, by its bytes and its text.
use Rattle.std.specs.Prelude.{ℕ, ◌%◌, List, [], Option, Some, None, if◌then◌else◌, codes}
use Rattle.std.specs.Str.{bytes_eq}
use Rattle.number_text.specs.Numbers.{is_number, is_double, number_value}
use Rattle.source_words.specs.Modes.{begins_comment}
use Rattle.source_words.specs.Words.{SourceWord}
use Rattle.colon_bodies.specs.Tokens.{Token, TICK, FORCE, COMPILE, IF, ELSE, THEN, BEGIN, UNTIL, AGAIN, WHILE, REPEAT, DO, LOOP, TEXT, DOES, SEMI}
use Rattle.image_builder.specs.declared.spot.Sort.{Sort}
use Rattle.image_builder.specs.declared.spot.Sort.TheVariants as s
use Rattle.colon_bodies.specs.Meaning.{Sense, Plain, Keyword, Figure, Wide, Remark}
use Rattle.image_builder.specs.Places.{Place}
use Rattle.std.specs.Prelude.{true, false, map}

-- outside bodies: the words that make headers, the other words of items, and numbers of base 10
unfoldable pub making_sort : List ℕ → Option Sort
making_sort w =
    if bytes_eq w (codes "PRIM") then Some s.Prim
    else if bytes_eq w (codes "CONSTANT") then Some s.Constant
    else if bytes_eq w (codes "VARIABLE") then Some s.Variable
    else if bytes_eq w (codes "CREATE") then Some s.Create
    else if bytes_eq w (codes "VOCABULARY") then Some s.Vocabulary
    else if bytes_eq w (codes ":") then Some s.Colon
    else None

unfoldable pub laying_sort : List ℕ → Option Sort
laying_sort w =
    if bytes_eq w (codes ",") then Some s.Comma
    else if bytes_eq w (codes "C,") then Some s.CharComma
    else if bytes_eq w (codes "ALLOT") then Some s.Allot
    else if bytes_eq w (codes "IMMEDIATE") then Some s.Immediate
    else if bytes_eq w (codes "DEFINITIONS") then Some s.Definitions
    else if bytes_eq w (codes "BOOT") then Some s.Boot
    else None

unfoldable pub number_sort : List ℕ → Sort
number_sort w =
    if is_number 10 w then (if is_double w then s.Double else s.Number (number_value 10 w % 65536)) else s.Other

abbrev pub either_sort : Option Sort → Sort → Sort
either_sort (Some a) b = a
either_sort None b = b

unfoldable pub sort_of : List ℕ → Sort
sort_of w = either_sort (making_sort w) (either_sort (laying_sort w) (number_sort w))

-- in bodies: the keywords in the order of the table
unfoldable pub naming : List ℕ → Option Token
naming w =
    if bytes_eq w (codes "[']") then Some TICK
    else if bytes_eq w (codes "[COMPILE]") then Some FORCE
    else if bytes_eq w (codes "COMPILE") then Some COMPILE
    else None

unfoldable pub choosing : List ℕ → Option Token
choosing w =
    if bytes_eq w (codes "IF") then Some IF
    else if bytes_eq w (codes "ELSE") then Some ELSE
    else if bytes_eq w (codes "THEN") then Some THEN
    else None

unfoldable pub repeating : List ℕ → Option Token
repeating w =
    if bytes_eq w (codes "BEGIN") then Some BEGIN
    else if bytes_eq w (codes "UNTIL") then Some UNTIL
    else if bytes_eq w (codes "AGAIN") then Some AGAIN
    else if bytes_eq w (codes "WHILE") then Some WHILE
    else if bytes_eq w (codes "REPEAT") then Some REPEAT
    else None

unfoldable pub counting : List ℕ → Option Token
counting w =
    if bytes_eq w (codes "DO") then Some DO
    else if bytes_eq w (codes "LOOP") then Some (LOOP false)
    else if bytes_eq w (codes "+LOOP") then Some (LOOP true)
    else None

unfoldable pub saying : List ℕ → (text : List ℕ) → Option Token
saying w text =
    if bytes_eq w (codes ".\"") then Some (TEXT false text)
    else if bytes_eq w (codes "ABORT\"") then Some (TEXT true text)
    else None

unfoldable pub ending : List ℕ → Option Token
ending w =
    if bytes_eq w (codes "DOES>") then Some DOES
    else if bytes_eq w (codes ";") then Some SEMI
    else None

abbrev pub either_token : Option Token → Option Token → Option Token
either_token (Some a) b = Some a
either_token None b = b

unfoldable pub keyword : List ℕ → (text : List ℕ) → Option Token
keyword w text =
    either_token (naming w) (either_token (choosing w) (either_token (repeating w) (either_token (counting w) (either_token (saying w text) (ending w)))))

-- the number that a word is
unfoldable pub figure_of : List ℕ → Sense
figure_of w =
    if is_number 10 w then (if is_double w then Wide (number_value 10 w) else Figure (number_value 10 w % 65536)) else Plain

abbrev pub keyword_or : Option Token → Sense → Sense
keyword_or (Some k) s = Keyword k
keyword_or None s = s

abbrev pub text_of : Option (List ℕ) → List ℕ
text_of (Some text) = text
text_of None = []

-- keyword, else number; ( is neither, and is only where a name is due
unfoldable pub sense_of_word : List ℕ → (text : List ℕ) → Sense
sense_of_word w text = if begins_comment w then Remark else keyword_or (keyword w text) (figure_of w)

-- a word of the screens, with what it may be
unfoldable pub placed : SourceWord → Place
placed w = record { screen = w.screen; offset = w.offset; name = w.name; sort = sort_of w.name; inner = sense_of_word w.name (text_of w.text) }

abbrev pub all_placed : List SourceWord → List Place
all_placed ws = map placed ws
