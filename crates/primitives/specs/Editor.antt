-- The line editor. The screen is block SCR.
use Rattle.std.specs.Prelude.{ℕ, ◌+◌, ◌-◌, List, min}
use Rattle.cells.specs.Cell.{wrap}
use Rattle.block_buffers.specs.Entries.{address_of, front_marked}
use Rattle.block_buffers.specs.Screens.{blank_line, blank_screen, line_start, with_line, line_inserted, line_deleted}
use Rattle.input_source.specs.declared.words.Stream.{Stream}
use Rattle.memory.specs.Bytes.{bytes, cell, front_put, page, put_cell, with_page}
use Rattle.memory.specs.declared.system.TheConstants.{TO_IN, SCR}
use Rattle.machine_parts.specs.Whole.{Whole}
use Rattle.machine_parts.specs.Row.{After, done, takes1, leaves}
use Rattle.primitives.specs.Blocks.{fetches}
use Rattle.primitives.specs.declared.editor.Edit.{Edit}
use Rattle.primitives.specs.declared.editor.Edit.TheVariants.{Put, Insert}
use Rattle.primitives.specs.Streams.{reads}
use Rattle.stacks.specs.Cells.{◌▸◌}

-- the bytes of the stream from its place on, cut at 64, and filled with blanks to a line
unfoldable pub line_text : List ℕ → Stream → List ℕ
line_text m stream =
    front_put (bytes m (wrap (stream.at + stream.place)) (min (stream.size - stream.place) 64)) blank_line

-- the bytes of the screen in a slot
abbrev pub screen_in : Whole → ℕ → List ℕ
screen_in t slot = page t.memory (address_of t.buffers slot)

-- memory with these bytes as the screen in a slot
abbrev pub with_screen : List ℕ → Whole → ℕ → List ℕ → List ℕ
with_screen m t slot screen = with_page m (address_of t.buffers slot) screen

-- 200 LINE ( n -- a 64 )
abbrev pub line : Whole → After
line s = takes1 s (λ n rest. fetches s (cell s.memory SCR) (λ t slot.
    leaves t (rest ▸ address_of t.buffers slot + line_start n ▸ 64)))

-- what a line's text makes of a screen: it becomes line n, or it comes before that, and the last line is lost
abbrev pub edited : Edit → List ℕ → ℕ → List ℕ → List ℕ
edited Put = with_line
edited Insert = line_inserted

-- a line's text is taken from the stream, whose end >IN becomes, and makes another page of the screen
abbrev pub edits : Edit → Whole → After
edits edit s = takes1 s (λ n rest. reads s (λ r stream. fetches r (cell r.memory SCR) (λ t slot. done (record t {
  values = rest;
  buffers = front_marked t.buffers;
  memory = with_screen (put_cell t.memory TO_IN stream.size) t slot
      (edited edit (screen_in t slot) n (line_text t.memory stream));
}))))

-- 201 PUT ( n -- ): line n := the text
abbrev pub put : Whole → After
put s = edits Put s

-- 202 INSERT ( n -- ): the text comes before line n, and the last line is lost
abbrev pub insert : Whole → After
insert s = edits Insert s

-- 203 DELETE ( n -- ): line n goes, and a blank line comes last
abbrev pub delete : Whole → After
delete s = takes1 s (λ n rest. fetches s (cell s.memory SCR) (λ t slot. done (record t {
  values = rest;
  buffers = front_marked t.buffers;
  memory = with_screen t.memory t slot (line_deleted (screen_in t slot) n);
})))

-- 204 WIPE ( -- ): blanks
abbrev pub wipe : Whole → After
wipe s = fetches s (cell s.memory SCR) (λ t slot. done (record t {
  buffers = front_marked t.buffers;
  memory = with_screen t.memory t slot blank_screen;
}))
