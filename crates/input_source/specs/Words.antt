-- Words of a list of bytes. Places are counted from its beginning, and c is the delimiter.
use Rattle.std.specs.Prelude.{◌≡◌, ◌≢◌, ℕ, ◌+◌, ◌-◌, ◌<◌, ◌≤◌, List, ◌==◌, not, nat_lt, if◌then◌else◌, length, take, drop, min, slice_index}
use Rattle.std.specs.List.{prefix_len}
use Rattle.cells.specs.Cell.{wrap}
use Rattle.memory.specs.Bytes.{bytes}
use Rattle.input_source.specs.declared.words.Stream.{Stream}
use Rattle.input_source.specs.declared.words.Word.{Word}

-- the place of the first byte at p or after it that isn't c, else the end
unfoldable pub word_start : List ℕ → ℕ → ℕ → ℕ
word_start s p c = p + prefix_len (λ x. x == c) (drop p s)

-- the place of the first c at p or after it, else the end
unfoldable pub next_delimiter : List ℕ → ℕ → ℕ → ℕ
next_delimiter s p c = p + prefix_len (λ x. not (x == c)) (drop p s)

-- the place after a delimiter that is at e, else the end
abbrev pub behind : List ℕ → ℕ → ℕ
behind s e = if nat_lt e (length s) then e + 1 else length s

-- what is from p to the first c
abbrev pub parsed : List ℕ → ℕ → ℕ → Word
parsed s p c = record { at = p; len = next_delimiter s p c - p; next = behind s (next_delimiter s p c) }

-- the next word: bytes c are skipped, and what is from there to the first c is taken
abbrev pub word_at : List ℕ → ℕ → ℕ → Word
word_at s p c = parsed s (word_start s p c) c

-- the bytes of a word are no c, and a c or the end is after them; the place after is past that c, else the end
pub record IsTaken (s : List ℕ) (c : ℕ) (w : Word) : Type 0 where
  pub within : w.at + w.len ≤ length s
  pub others : (k : ℕ) → w.at ≤ k → k < w.at + w.len → slice_index s k ≢ c
  pub stopped : w.at + w.len < length s → (slice_index s (w.at + w.len) ≡ c) × (w.next ≡ w.at + w.len + 1)
  pub ended : w.at + w.len ≡ length s → w.next ≡ length s

-- the first maximal run of bytes other than c, at p or after it: before it all are c, and it is empty at the end alone
pub record IsNextWord (s : List ℕ) (p c : ℕ) (w : Word) : Type 0 where
  pub taken : IsTaken s c w
  pub behind_p : p ≤ w.at
  pub skipped : (k : ℕ) → p ≤ k → k < w.at → slice_index s k ≡ c
  pub some : w.at < length s → 0 < w.len

-- the bytes of a word
abbrev pub bytes_of : List ℕ → Word → List ℕ
bytes_of s w = take w.len (drop w.at s)

-- the bytes of a stream, and its place, which past the size counts as the size
abbrev pub text : List ℕ → Stream → List ℕ
text m stream = bytes m stream.at stream.size

abbrev pub place_of : Stream → ℕ
place_of stream = min stream.place stream.size

-- the next word of a stream, and what is from its place to the first c
unfoldable pub word_in : List ℕ → Stream → ℕ → Word
word_in m stream c = word_at (text m stream) (place_of stream) c

unfoldable pub parsed_in : List ℕ → Stream → ℕ → Word
parsed_in m stream c = parsed (text m stream) (place_of stream) c

-- the bytes of a word of a stream, where they are in memory
unfoldable pub bytes_in : List ℕ → Stream → Word → List ℕ
bytes_in m stream w = bytes m (wrap (stream.at + w.at)) w.len
