-- WORD: words that are copied to HERE.
use Rattle.std.specs.Prelude.{◌≡◌, ℕ, ◌<◌, ◌≤◌, List, [], ◌∷◌, ◌++◌, length, Result, Ok, Err}
use Rattle.memory.specs.Bytes.{cell, put_cell, put_bytes}
use Rattle.memory.specs.declared.system.TheConstants.{TO_IN, DP}
use Rattle.input_source.specs.declared.words.Stream.{Stream}
use Rattle.input_source.specs.declared.words.Word.{Word}
use Rattle.input_source.specs.declared.placing.TooLong.{TooLong}
use Rattle.input_source.specs.Words.{bytes_in}

-- the count, the bytes, and a blank
unfoldable pub counted : List ℕ → List ℕ
counted bs = length bs ∷ bs ++ 32 ∷ []

-- >IN is written first, then what is at HERE; both, and the word's bytes, are those of the memory before
unfoldable pub with_word : List ℕ → Stream → Word → List ℕ
with_word m stream w = put_bytes (put_cell m TO_IN w.next) (cell m DP) (counted (bytes_in m stream w))

abbrev pub IsPlaced : List ℕ → List ℕ → Stream → Word → Result ℕ TooLong → Type 0
IsPlaced old new stream w (Ok here) = (w.len ≤ 255) × (here ≡ cell old DP) × (new ≡ with_word old stream w)
IsPlaced old new stream w (Err _) = (255 < w.len) × (new ≡ old)
