-- A definition as text.
use Rattle.std.specs.Prelude.{ℕ, Bool, true, false, ◌||◌, List, [], ◌∷◌, ◌++◌, Some, map, codes, is_some}
use Rattle.source_words.specs.Spaced.{Spelling, bare, spaced}
use Rattle.colon_bodies.specs.Tokens.{Token, NAME, NUMBER, TICK, FORCE, COMPILE, IF, ELSE, THEN, BEGIN, UNTIL, AGAIN, WHILE, REPEAT, DO, LOOP, TEXT, DOES, SEMI}
use Rattle.colon_bodies.specs.Tree.{Definition, all_words}
use Rattle.colon_bodies.specs.Plain.{respelled}
use Rattle.dictionary.specs.Header.{is_immediate}
use Rattle.dictionary.specs.Search.{Sought, Found, Nowhere, TooLong, sought_hiding}
use Rattle.source_words.specs.Modes.{begins_comment}
use Rattle.image_builder.specs.Spelled.{keyword}
use Rattle.see.specs.Naming.{name_at, number_text}

-- a word that a body reads as a keyword, or as the beginning of a comment
unfoldable pub is_keyword : List ℕ → Bool
is_keyword w = begins_comment w || is_some (keyword w [])

-- a search came to an immediate header
abbrev pub gives_immediate : List ℕ → Sought → Bool
gives_immediate m (Found k) = is_immediate m k
gives_immediate m Nowhere = false
gives_immediate m TooLong = false

-- a word that comes after [COMPILE]: the header that its name means is immediate, or the name is spelled as a keyword
unfoldable pub is_forced : List ℕ → (hidden : ℕ) → ℕ → Bool
is_forced m hidden w = gives_immediate m (sought_hiding m (name_at m w) hidden) || is_keyword (name_at m w)

-- how keywords are spelled; no plain definition has a double
abbrev pub keyword_text : Token → List ℕ
keyword_text TICK = codes "[']"
keyword_text FORCE = codes "[COMPILE]"
keyword_text COMPILE = codes "COMPILE"
keyword_text IF = codes "IF"
keyword_text ELSE = codes "ELSE"
keyword_text THEN = codes "THEN"
keyword_text BEGIN = codes "BEGIN"
keyword_text UNTIL = codes "UNTIL"
keyword_text AGAIN = codes "AGAIN"
keyword_text WHILE = codes "WHILE"
keyword_text REPEAT = codes "REPEAT"
keyword_text DO = codes "DO"
keyword_text (LOOP false) = codes "LOOP"
keyword_text (LOOP true) = codes "+LOOP"
keyword_text (TEXT false bs) = codes ".\""
keyword_text (TEXT true bs) = codes "ABORT\""
keyword_text DOES = codes "DOES>"
keyword_text SEMI = codes ";"
keyword_text _ = []

-- a word as it is printed
abbrev pub printed : List ℕ → Token → Spelling
printed m (NAME w) = bare (name_at m w)
printed m (NUMBER n) = bare (number_text n)
printed m (TEXT k bs) = record { name = keyword_text (TEXT k bs); text = Some bs }
printed m w = bare (keyword_text w)

-- a name as it is printed, after [COMPILE] if it is forced
abbrev pub called : (forced : Bool) → List ℕ → List Spelling
called false name = bare name ∷ []
called true name = bare (codes "[COMPILE]") ∷ bare name ∷ []

-- words as they are printed, with [COMPILE] if it is needed
abbrev pub all_printed : List ℕ → (hidden : ℕ) → List Token → List Spelling
all_printed m hidden ws = map (printed m) (respelled (is_forced m hidden) ws)

-- a definition's words, and ;
abbrev pub its_words : Definition → List Token
its_words d = all_words d ++ SEMI ∷ []

-- words after `: NAME`, with single blanks between
abbrev pub printed_text : List ℕ → (hidden : ℕ) → (name : List ℕ) → List Token → List ℕ
printed_text m hidden name ws = spaced (bare (codes ":") ∷ bare name ∷ all_printed m hidden ws)

-- the text of a definition whose header is at l: `: NAME`, the body and `;`
unfoldable pub text : List ℕ → (l : ℕ) → (name : List ℕ) → Definition → List ℕ
text m l name d = printed_text m l name (its_words d)
