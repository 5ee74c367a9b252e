use Rattle.std.specs.Prelude.{ℕ, ◌%◌, ◌/◌, List, ◌++◌, length, Bool, ◌||◌, ◌==◌, if◌then◌else◌}
use Rattle.compiling_words.specs.Code.{literal_code}
use Rattle.dictionary.specs.Header.{compilation_address, is_immediate}
use Rattle.dictionary.specs.Laying.{laid_at}
use Rattle.dictionary.specs.Search.{sought}
use Rattle.input_source.specs.declared.words.Word.{Word}
use Rattle.memory.specs.Bytes.{cell, put_cell, cell_bytes}
use Rattle.memory.specs.declared.system.TheConstants.{STATE, BASE, TO_IN, DP}
use Rattle.number_text.specs.Base.{has_base}
use Rattle.number_text.specs.Numbers.{is_number, is_double, number_value}
use Rattle.machine_parts.specs.Whole.{Whole}
use Rattle.machine_parts.specs.Row.{After, done, needs, room, ◌▸▸◌, has_room}
use Rattle.machine_parts.specs.declared.faults.TheConstants.{DICTIONARY_FULL, BAD_BASE, NOT_FOUND}
use Rattle.primitives.specs.DictionaryRows.{leaves_past}
use Rattle.primitives.specs.Names.{reads_name, searches}
use Rattle.stacks.specs.Cells.{◌▸◌}

-- the bytes are written, -1 is pushed, and >IN is after the word
unfoldable pub compiles_past : Whole → Word → List ℕ → After
compiles_past t w bs = let d = t.values ▸ 65535 in
    needs t DICTIONARY_FULL (has_room t (length bs)) (room t d (done (record t {
      values = d;
      memory = laid_at (cell t.memory DP) (put_cell t.memory TO_IN w.next) bs;
    })))

-- words are executed
abbrev pub executes : Whole → Bool
executes t = cell t.memory STATE == 0

-- a header has the name: its word is left below 1 if it is immediate or words are executed; else it is compiled
abbrev pub found_word : Whole → Word → ℕ → After
found_word t word l = let w = compilation_address t.memory l in
    if is_immediate t.memory l || executes t then leaves_past t word (t.values ▸ w ▸ 1)
    else compiles_past t word (cell_bytes w)

-- a single number, or a double, is left below -1 if words are executed; else it is compiled
abbrev pub single_word : Whole → Word → ℕ → After
single_word t word x =
    if executes t then leaves_past t word (t.values ▸ x ▸ 65535) else compiles_past t word (literal_code t.memory x)

abbrev pub double_word : Whole → Word → ℕ → After
double_word t word n =
    if executes t then leaves_past t word (t.values ▸▸ n ▸ 65535)
    else compiles_past t word (literal_code t.memory (n % 65536) ++ literal_code t.memory (n / 65536))

-- no header has the name: it is a number in BASE (12, 13)
abbrev pub number_word : Whole → Word → List ℕ → After
number_word t word name =
    let n = number_value (cell t.memory BASE) name in
    needs t BAD_BASE (has_base t.memory)
    (needs t NOT_FOUND (is_number (cell t.memory BASE) name)
    (if is_double name then double_word t word n else single_word t word (n % 65536)))

-- 149 (INTERPRET) ( -- 0, w 1, -1, n -1, d -1 ): 0 if the stream has no word more
abbrev pub interpret : Whole → After
interpret s = reads_name s (λ t word name.
    if word.len == 0 then leaves_past t word (t.values ▸ 0)
    else searches t (sought t.memory name) (number_word t word name) (found_word t word))
