-- Names and texts that rows take out of the stream, and what a search of a name comes to.
use Rattle.std.specs.Prelude.{◌≡◌, ℕ, ◌+◌, List, not, ◌==◌, ◌&&◌, nat_le, Result, Ok, Err}
use Rattle.cells.specs.Cell.{wrap}
use Rattle.dictionary.specs.declared.fault.ForgetFault.{ForgetFault}
use Rattle.dictionary.specs.declared.fault.ForgetFault.TheVariants.{NameLength, NotFound, ChainTooLong}
use Rattle.dictionary.specs.Header.{compilation_address}
use Rattle.dictionary.specs.Search.{Sought, Found, Nowhere, TooLong, sought}
use Rattle.input_source.specs.declared.words.Stream.{Stream}
use Rattle.input_source.specs.declared.words.Word.{Word}
use Rattle.input_source.specs.Words.{word_in, parsed_in, bytes_in}
use Rattle.memory.specs.Bytes.{byte, bytes}
use Rattle.machine_parts.specs.Whole.{Whole}
use Rattle.machine_parts.specs.declared.parts.Outcome.{Outcome}
use Rattle.machine_parts.specs.Row.{After, fault, needs, has_room}
use Rattle.machine_parts.specs.declared.faults.TheConstants.{DICTIONARY_FULL, CHAIN_TOO_LONG, NOT_FOUND, BAD_LENGTH}
use Rattle.primitives.specs.Streams.{reads}

-- the next word with delimiter 32, and its bytes
abbrev pub name_word : List ℕ → Stream → Word
name_word m stream = word_in m stream 32

abbrev pub name_in : List ℕ → Stream → List ℕ
name_in m stream = bytes_in m stream (name_word m stream)

-- a row that takes a name out of the stream: goes on with its word and its bytes
abbrev pub reads_name : Whole → (Whole → Word → List ℕ → After) → After
reads_name s after = reads s (λ t stream. after t (name_word t.memory stream) (name_in t.memory stream))

-- a row that parses to c: goes on with what is before it, as a word and its bytes
abbrev pub parses : Whole → ℕ → (Whole → Word → List ℕ → After) → After
parses s c after = reads s (λ t stream. let w = parsed_in t.memory stream c in after t w (bytes_in t.memory stream w))

-- the counted string at a
unfoldable pub counted_string : List ℕ → ℕ → List ℕ
counted_string m a = bytes m (wrap (a + 1)) (byte m a)

-- goes on with what a search came to: nowhere, or a header's link field; a chain that is too long is fault 11
unfoldable pub searches : Whole → Sought → After → (ℕ → After) → After
searches s (Found l) nowhere found = found l
searches s Nowhere nowhere found = nowhere
searches s TooLong nowhere found = fault s CHAIN_TOO_LONG

-- goes on with the compilation address of the word that a name means; the name has one byte at least (15), and is found
-- (11, 13)
abbrev pub finds_word : Whole → Word → List ℕ → (ℕ → After) → After
finds_word t w name after =
    needs t BAD_LENGTH (not (w.len == 0))
    (searches t (sought t.memory name) (fault t NOT_FOUND) (λ l. after (compilation_address t.memory l)))

-- a row that takes a word out of the stream: goes on with it and with its compilation address
abbrev pub reads_word : Whole → (Whole → Word → ℕ → After) → After
reads_word s after = reads_name s (λ t word name. finds_word t word name (after t word))

-- what the code's read_word answers: what the row goes on with, or what stops it
abbrev pub IsWordRead : Whole → Whole → Result (Word × ℕ) Outcome → Type 0
IsWordRead old new (Ok found) = (after : Whole → Word → ℕ → After) → reads_word old after ≡ after new found.0 found.1
IsWordRead old new (Err o) = (after : Whole → Word → ℕ → After) → reads_word old after ≡ (new, o)

-- goes on with where the header begins that can be forgotten; else its name is empty (15), it doesn't exist or is fenced
-- (13), or a chain is too long (11)
unfoldable pub forgets : Whole → Result ℕ ForgetFault → (ℕ → After) → After
forgets s (Ok begins) after = after begins
forgets s (Err NameLength) after = fault s BAD_LENGTH
forgets s (Err NotFound) after = fault s NOT_FOUND
forgets s (Err ChainTooLong) after = fault s CHAIN_TOO_LONG

-- goes on if a new header's name has 1 to 31 bytes (15), and the header fits with n bytes after it (8)
abbrev pub admits_header : Whole → Word → ℕ → After → After
admits_header t w n after =
    needs t BAD_LENGTH (nat_le 1 w.len && nat_le w.len 31)
    (needs t DICTIONARY_FULL (has_room t (7 + w.len + n)) after)
