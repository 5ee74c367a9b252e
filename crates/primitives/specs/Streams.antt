-- Rows that need the input stream.
use Rattle.std.specs.Prelude.{◌≡◌, ℕ, ◌+◌, ◌%◌, ◌≤◌, List, ◌==◌, ◌||◌, nat_le, Bool, if◌then◌else◌, IsTrue, IsFalse, Result, Ok, Err}
use Rattle.block_buffers.specs.declared.entry.Entry.{Entry}
use Rattle.block_buffers.specs.Entries.{moved_front, slot_of}
use Rattle.cells.specs.Cell.{wrap}
use Rattle.input_source.specs.declared.words.Stream.{Stream}
use Rattle.input_source.specs.declared.words.Word.{Word}
use Rattle.input_source.specs.Streams.{stream_of}
use Rattle.input_source.specs.Words.{word_in, parsed_in}
use Rattle.input_source.specs.Placing.{with_word}
use Rattle.memory.specs.Bytes.{cell, put_cell}
use Rattle.memory.specs.declared.system.TheConstants.{BLK, TO_IN, DP}
use Rattle.machine_parts.specs.Whole.{Whole}
use Rattle.machine_parts.specs.declared.parts.Outcome.{Outcome}
use Rattle.machine_parts.specs.declared.parts.Outcome.TheVariants.{Show}
use Rattle.machine_parts.specs.Row.{After, done, takes1, needs}
use Rattle.machine_parts.specs.declared.faults.TheConstants.{BAD_LENGTH}
use Rattle.stacks.specs.Cells.{◌▸◌}
use Rattle.primitives.specs.Blocks.{has_block, without_block}

-- the stream exists: BLK is 0, or its block is in a buffer
unfoldable pub has_stream : Whole → Bool
has_stream s = (cell s.memory BLK == 0) || has_block s (cell s.memory BLK)

-- the stream's block is referenced
unfoldable pub stream_buffers : Whole → List Entry
stream_buffers s =
    if cell s.memory BLK == 0 then s.buffers else moved_front (slot_of s.buffers (cell s.memory BLK)) s.buffers

abbrev pub with_stream : Whole → Whole
with_stream s = record s { buffers = stream_buffers s }

-- a row that needs the stream: goes on with its block referenced; else the row stops as for that block
abbrev pub reads : Whole → (Whole → Stream → After) → After
reads s after =
    if has_stream s then after (with_stream s) (stream_of s.memory s.buffers)
    else (s, without_block s (cell s.memory BLK))

-- what the code's open answers
abbrev pub IsOpened : Whole → Whole → Result Stream Outcome → Type 0
IsOpened old new (Ok stream) =
    IsTrue (has_stream old) × (new ≡ with_stream old)
    × (stream ≡ stream_of old.memory old.buffers) × (stream.place ≤ stream.size)
IsOpened old new (Err o) = IsFalse (has_stream old) × (new ≡ old) × (o ≡ without_block old (cell old.memory BLK))

-- >IN is the place after a word
abbrev pub past : List ℕ → Word → List ℕ
past m w = put_cell m TO_IN w.next

-- 144 WORD ( c -- a ): the next word, at HERE with its count before it and a blank after it
abbrev pub word : Whole → After
word s = takes1 s (λ c rest. reads s (λ t stream. let w = word_in t.memory stream (c % 256) in
    needs t BAD_LENGTH (nat_le w.len 255)
    (done (record t { values = rest ▸ cell t.memory DP; memory = with_word t.memory stream w }))))

-- 145 ( ( -- ): parses to )
abbrev pub paren : Whole → After
paren s = reads s (λ t stream. done (record t { memory = past t.memory (parsed_in t.memory stream 41) }))

-- 146 .( ( -- ): parses to ) and shows what is before it, as memory has it once >IN is written
abbrev pub dot_paren : Whole → After
dot_paren s = reads s (λ t stream. let w = parsed_in t.memory stream 41 in
    (record t { memory = past t.memory w }, Show (record { at = wrap (stream.at + w.at); len = w.len })))
