use Rattle.std.specs.Prelude.{ℕ, ◌+◌, List, [], ◌∷◌, length, nat_le, true, false}
use Rattle.compiling_words.specs.Code.{runtime, literal_code, text_code, text_number}
use Rattle.compiling_words.specs.declared.text.TextWord.{TextWord}
use Rattle.compiling_words.specs.declared.text.TextWord.TheVariants.{Show, Abort}
use Rattle.dictionary.specs.Laying.{laid_at}
use Rattle.dictionary.specs.declared.code_fields.TheConstants.{COLON, CONSTANT, VARIABLE}
use Rattle.input_source.specs.declared.words.Word.{Word}
use Rattle.memory.specs.Bytes.{cell, put_cell, cell_bytes, PutCell}
use Rattle.memory.specs.declared.system.TheConstants.{STATE, TO_IN, DP, CONTEXT, CURRENT}
use Rattle.machine_parts.specs.Whole.{Whole}
use Rattle.machine_parts.specs.Row.{After, done, takes1, needs, has_room}
use Rattle.machine_parts.specs.declared.faults.TheConstants.{DICTIONARY_FULL, BAD_LENGTH}
use Rattle.primitives.specs.DictionaryRows.{creates}
use Rattle.primitives.specs.Names.{reads_name, parses, reads_word}

-- 168 : ( -- ): as CREATE with code field 1, hidden; then STATE := -1, CONTEXT := CURRENT
abbrev pub colon : Whole → After
colon s = reads_name s (λ t w name. creates t w name true COLON []
    (PutCell STATE 65535 ∷ PutCell CONTEXT (cell t.memory CURRENT) ∷ []) t.values)

-- the bytes are written, and >IN is after the word
unfoldable pub lays_past : Whole → Word → List ℕ → After
lays_past t w bs = needs t DICTIONARY_FULL (has_room t (length bs))
    (done (record t { memory = laid_at (cell t.memory DP) (put_cell t.memory TO_IN w.next) bs }))

-- 176 ['] ( -- ): writes the next word's compilation address as a literal
abbrev pub bracket_tick : Whole → After
bracket_tick s = reads_word s (λ t word w. lays_past t word (literal_code t.memory w))

-- 177 [COMPILE] ( -- ): writes the next word's compilation address
abbrev pub bracket_compile : Whole → After
bracket_compile s = reads_word s (λ t word w. lays_past t word (cell_bytes w))

-- writes what shows a text, and the text up to the next quote
abbrev pub quotes : TextWord → Whole → After
quotes word s = parses s 34 (λ t w text.
    needs t BAD_LENGTH (nat_le w.len 255)
    (needs t DICTIONARY_FULL (has_room t (3 + w.len))
    (done (record t {
      memory = laid_at (cell t.memory DP) (put_cell t.memory TO_IN w.next)
          (text_code (runtime t.memory (text_number word)) text);
    }))))

-- 190 ." ( -- )
abbrev pub dot_quote : Whole → After
dot_quote s = quotes Show s

-- 191 ABORT" ( -- )
abbrev pub abort_quote : Whole → After
abort_quote s = quotes Abort s

-- 192 CONSTANT ( x -- )
abbrev pub constant : Whole → After
constant s = takes1 s (λ x rest. reads_name s (λ t w name. creates t w name false CONSTANT (cell_bytes x) [] rest))

-- 193 VARIABLE ( -- )
abbrev pub variable : Whole → After
variable s = reads_name s (λ t w name. creates t w name false VARIABLE (cell_bytes 0) [] t.values)
