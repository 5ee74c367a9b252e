-- What the words of a body make of memory and the data stack when the resident compiler reads them.
use Rattle.std.specs.Prelude.{◌≡◌, ℕ, true, false, ◌+◌, ◌≤◌, ◌/◌, ◌%◌, List, [], ◌∷◌, ◌++◌, length, Option, Some, None}
use Rattle.cells.specs.Cell.{wrap}
use Rattle.memory.specs.declared.controls.Control.TheVariants as ctl
use Rattle.memory.specs.Controls.{number_of}
use Rattle.memory.specs.Bytes.{cell, put_cell, cell_bytes}
use Rattle.memory.specs.declared.system.TheConstants.{DP, TO_IN}
use Rattle.block_buffers.specs.Entries.{limit}
use Rattle.dictionary.specs.Laying.{laid_at}
use Rattle.input_source.specs.declared.words.Word.{Word}
use Rattle.machine_parts.specs.Whole.{Whole}
use Rattle.stacks.specs.Cells.{◌▸◌}
use Rattle.compiling_words.specs.Code.{runtime, control_code, literal_code, text_code}
use Rattle.compiling_words.specs.Laying.{laid, resolved}
use Rattle.colon_bodies.specs.Tokens.{Token, NAME, NUMBER, DOUBLE, TEXT, TICK, COMPILE, IF, ELSE, THEN, BEGIN, UNTIL, AGAIN, WHILE, REPEAT, DO, LOOP, DOES, text_control, loop_control}

-- the place n bytes after HERE
abbrev pub ahead : List ℕ → ℕ → ℕ
ahead m n = wrap (cell m DP + n)

-- bytes are written, and the cell at a, which was left open, is the new HERE
abbrev pub laid_and_resolved : List ℕ → List ℕ → (a : ℕ) → List ℕ
laid_and_resolved m bs a = put_cell (laid m bs) a (ahead m (length bs))

-- memory and the data stack after a word; `;` is apart
abbrev pub lays : Token → (m d : List ℕ) → List ℕ × List ℕ
lays (NAME w) m d = (laid m (cell_bytes w), d)
lays (NUMBER n) m d = (laid m (literal_code m n), d)
lays (DOUBLE n) m d = (laid m (literal_code m (n % 65536) ++ literal_code m (n / 65536)), d)
lays (TEXT k bs) m d = (laid m (text_code (runtime m (text_control k)) bs), d)
lays TICK m d = (laid m (cell_bytes (runtime m (number_of ctl.Literal))), d)
lays COMPILE m d = (laid m (cell_bytes (runtime m (number_of ctl.Compile))), d)
lays DOES m d = (laid m (cell_bytes (runtime m (number_of ctl.Does))), d)
lays IF m d = (laid m (control_code m (number_of ctl.ZeroBranch) 0), d ▸ ahead m 2)
lays ELSE m (a ∷ d) = (laid_and_resolved m (control_code m (number_of ctl.Branch) 0) a, d ▸ ahead m 2)
lays THEN m (a ∷ d) = (resolved m a, d)
lays BEGIN m d = (m, d ▸ cell m DP)
lays UNTIL m (a ∷ d) = (laid m (control_code m (number_of ctl.ZeroBranch) a), d)
lays AGAIN m (a ∷ d) = (laid m (control_code m (number_of ctl.Branch) a), d)
lays WHILE m d = (laid m (control_code m (number_of ctl.ZeroBranch) 0), d ▸ ahead m 2)
lays REPEAT m (b ∷ a ∷ d) = (laid_and_resolved m (control_code m (number_of ctl.Branch) a) b, d)
lays DO m d = (laid m (control_code m (number_of ctl.Do) 0), d ▸ ahead m 2 ▸ ahead m 4)
lays (LOOP k) m (b ∷ a ∷ d) = (laid_and_resolved m (control_code m (loop_control k) b) a, d)
lays _ m d = (m, d)

-- the parts after a word: memory and the data stack as it leaves them
abbrev pub behind_word : Token → Whole → Whole
behind_word word s = record s { memory = (lays word s.memory s.values).0; values = (lays word s.memory s.values).1 }

-- so many bytes fit between HERE and the block buffers
abbrev pub FitsHere : Whole → ℕ → Type 0
FitsHere s n = cell s.memory DP + n ≤ limit s.buffers

-- if >IN is moved first, the word writes these bytes at HERE
abbrev pub LaysBehind : (m d : List ℕ) → (to_in : ℕ) → Token → List ℕ → Type 0
LaysBehind m d to_in word bs =
    (lays word (put_cell m TO_IN to_in) d).0 ≡ laid_at (cell m DP) (put_cell m TO_IN to_in) bs

-- the parts if >IN is moved after a word of the stream, and bytes are written
abbrev pub laid_past : Whole → Word → List ℕ → Whole
laid_past s word bs = record s { memory = laid (put_cell s.memory TO_IN word.next) bs }

-- the parts with -1 on the data stack
abbrev pub with_true : Whole → Whole
with_true s = record s { values = s.values ▸ 65535 }

-- the row of the keyword, if it has one that needs no name and no text
abbrev pub row_of : Token → Option ℕ
row_of DOES = Some 178
row_of IF = Some 179
row_of ELSE = Some 180
row_of THEN = Some 181
row_of BEGIN = Some 182
row_of UNTIL = Some 183
row_of WHILE = Some 184
row_of REPEAT = Some 185
row_of AGAIN = Some 186
row_of DO = Some 187
row_of (LOOP false) = Some 188
row_of (LOOP true) = Some 189
row_of _ = None

-- after words, one after another
abbrev pub lays_all : List Token → (m d : List ℕ) → List ℕ × List ℕ
lays_all [] m d = (m, d)
lays_all (w ∷ ws) m d = lays_all ws (lays w m d).0 (lays w m d).1
