use Rattle.std.specs.Prelude.{◌≡◌, ℕ, ◌+◌, List, [], ◌∷◌, ◌++◌, length, Bool, false, if◌then◌else◌, Result, Ok, Err}
use Rattle.cells.specs.Cell.{wrap}
use Rattle.dictionary.specs.Adding.{site_of, header_writes, new_count, record_bytes}
use Rattle.dictionary.specs.Forgetting.{target, cuts}
use Rattle.dictionary.specs.Header.{compilation_address, is_immediate}
use Rattle.dictionary.specs.Newest.{with_immediate}
use Rattle.dictionary.specs.Search.{sought}
use Rattle.dictionary.specs.declared.code_fields.TheConstants.{VARIABLE, VOCABULARY}
use Rattle.input_source.specs.declared.words.Stream.{Stream}
use Rattle.input_source.specs.declared.words.Word.{Word}
use Rattle.memory.specs.Bytes.{cell, put_cell, Write, PutCell, written}
use Rattle.memory.specs.declared.system.TheConstants.{TO_IN, DP, CONTEXT, CURRENT, VOC_LINK}
use Rattle.number_text.specs.Picture.{pad}
use Rattle.machine_parts.specs.Whole.{Whole}
use Rattle.machine_parts.specs.declared.parts.Outcome.{Outcome}
use Rattle.machine_parts.specs.Row.{After, done, takes1, leaves, room}
use Rattle.primitives.specs.Names.{counted_string, name_word, name_in, reads_name, searches, reads_word, forgets, admits_header}
use Rattle.stacks.specs.Cells.{◌▸◌}

-- 147 FIND ( a -- a 0, w -1, w 1 ): the counted string at a; 1 if it is immediate
abbrev pub find : Whole → After
find s = takes1 s (λ a rest. searches s (sought s.memory (counted_string s.memory a))
    (leaves s (rest ▸ a ▸ 0))
    (λ l. leaves s (rest ▸ compilation_address s.memory l ▸ (if is_immediate s.memory l then 1 else 65535))))

-- the data stack becomes d, and >IN is after the word
unfoldable pub leaves_past : Whole → Word → List ℕ → After
leaves_past t w d = room t d (done (record t { values = d; memory = put_cell t.memory TO_IN w.next }))

-- 148 ' ( -- w ): the next word's compilation address
abbrev pub tick : Whole → After
tick s = reads_word s (λ t word w. leaves_past t word (t.values ▸ w))

-- as CREATE: a header of the name with this code field, hidden or not, and the bytes that are written with it; more is
-- written after it, and d is the data stack then
unfoldable pub creates : Whole → Word → List ℕ → Bool → ℕ → List ℕ → List Write → List ℕ → After
creates t w name hidden code extra more d = admits_header t w (length extra) (done (record t {
  values = d;
  memory = written t.memory
      (PutCell TO_IN w.next ∷ (header_writes (site_of t.memory name) name (new_count hidden name) code extra ++ more));
}))

-- where the parameter field of a new header of the name is
abbrev pub new_body : List ℕ → List ℕ → ℕ
new_body m name = wrap ((site_of m name).here + (7 + length name))

-- what the code's make_header answers: where the parameter field is of a header of the next word's name, after which a row
-- may write more and leave another data stack; or what stops the row
abbrev pub IsHeaderMade : Whole → Whole → Stream → Bool → ℕ → List ℕ → Result ℕ Outcome → Type 0
IsHeaderMade old new stream hidden code extra (Ok body) =
    (body ≡ new_body old.memory (name_in old.memory stream)) × (new.values ≡ old.values)
    × ((more : List Write) (d : List ℕ)
    → creates old (name_word old.memory stream) (name_in old.memory stream) hidden code extra more d
    ≡ done (record new { values = d; memory = written new.memory more }))
IsHeaderMade old new stream hidden code extra (Err o) =
    (more : List Write) (d : List ℕ)
    → creates old (name_word old.memory stream) (name_in old.memory stream) hidden code extra more d ≡ (new, o)

-- 150 CREATE ( -- )
abbrev pub create : Whole → After
create s = reads_name s (λ t w name. creates t w name false VARIABLE [] [] t.values)

-- 151 IMMEDIATE ( -- )
abbrev pub immediate : Whole → After
immediate s = done (record s { memory = with_immediate s.memory })

-- 152 FORGET ( -- ): all is read from the memory before, >IN is written first
abbrev pub forget : Whole → After
forget s = reads_name s (λ t w name. forgets t (target t.memory name) (λ begins.
    done (record t { memory = written t.memory (PutCell TO_IN w.next ∷ cuts t.memory begins) })))

-- 153 >BODY ( w -- w+2 )
abbrev pub to_body : Whole → After
to_body s = takes1 s (λ w rest. leaves s (rest ▸ wrap (w + 2)))

-- 154 HERE ( -- a )
abbrev pub here : Whole → After
here s = leaves s (s.values ▸ cell s.memory DP)

-- 155 PAD ( -- a )
abbrev pub pad_row : Whole → After
pad_row s = leaves s (s.values ▸ pad s.memory)

-- 156 VOCABULARY ( -- ): as CREATE with its own code field and a record written with it: four empty chains and VOC-LINK; last
-- VOC-LINK := it
abbrev pub vocabulary : Whole → After
vocabulary s = reads_name s (λ t w name. creates t w name false VOCABULARY (record_bytes (cell t.memory VOC_LINK))
    (PutCell VOC_LINK (new_body t.memory name) ∷ []) t.values)

-- 157 DEFINITIONS ( -- ): CURRENT := CONTEXT
abbrev pub definitions : Whole → After
definitions s = done (record s { memory = put_cell s.memory CURRENT (cell s.memory CONTEXT) })
