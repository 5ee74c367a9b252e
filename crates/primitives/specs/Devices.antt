use Rattle.std.specs.Prelude.{◌%◌, ◌==◌, nat_lt, if◌then◌else◌}
use Rattle.machine_parts.specs.Whole.{Whole}
use Rattle.machine_parts.specs.declared.parts.Outcome.TheVariants.{Byte, Show, Ask}
use Rattle.machine_parts.specs.declared.parts.Request.TheVariants.{Key, Line}
use Rattle.machine_parts.specs.Row.{After, done, takes1, takes2, room, needs}
use Rattle.machine_parts.specs.declared.faults.TheConstants.{NO_BLOCK}
use Rattle.block_buffers.specs.Entries.{address_of, holds, slot_of, victim, assigned, front_marked, has_updated, first_updated, unassigned}
use Rattle.memory.specs.Bytes.{put_cell}
use Rattle.memory.specs.declared.system.TheConstants.{SPAN}
use Rattle.stacks.specs.Cells.{◌▸◌}
use Rattle.primitives.specs.Blocks.{write_of, fetches, referenced}

-- 112 BLOCK ( u -- a ): a is where block u is, which is fetched and referenced
abbrev pub block : Whole → After
block s = takes1 s (λ u rest. fetches s u (λ t slot. done (record t { values = rest ▸ address_of t.buffers slot })))

-- goes on if the victim isn't updated; else its write is asked
unfoldable pub saves_victim : Whole → After → After
saves_victim s after = if (victim s.buffers).updated then (s, write_of (victim s.buffers)) else after

-- 113 BUFFER ( u -- a ): as BLOCK, but that no bytes are read
abbrev pub buffer : Whole → After
buffer s = takes1 s (λ u rest. needs s NO_BLOCK (nat_lt u s.block_count) (
    if holds s.buffers u then done (record (referenced s u) {
      values = rest ▸ address_of s.buffers (slot_of s.buffers u);
    })
    else saves_victim s (done (record s {
      values = rest ▸ address_of s.buffers (victim s.buffers).slot;
      buffers = assigned u s.buffers;
    }))))

-- 114 UPDATE ( -- )
abbrev pub update : Whole → After
update s = done (record s { buffers = front_marked s.buffers })

-- goes on if no buffer is updated; else the write of the updated one with the lowest slot is asked
unfoldable pub saves : Whole → After → After
saves s after = if has_updated s.buffers then (s, write_of (first_updated s.buffers)) else after

-- 115 SAVE-BUFFERS ( -- )
abbrev pub save_buffers : Whole → After
save_buffers s = saves s (done s)

-- 116 FLUSH ( -- )
abbrev pub flush : Whole → After
flush s = saves s (done (record s { buffers = unassigned s.buffers }))

-- 117 EMPTY-BUFFERS ( -- )
abbrev pub empty_buffers : Whole → After
empty_buffers s = done (record s { buffers = unassigned s.buffers })

-- 118 KEY ( -- c ): if c will have room, its byte is asked
abbrev pub key : Whole → After
key s = room s (s.values ▸ 0) (s, Ask Key)

-- 119 EXPECT ( a u -- ): a line is asked; if u is 0 none is, and SPAN := 0
abbrev pub expect : Whole → After
expect s = takes2 s (λ a u rest.
    if u == 0 then done (record s { values = rest; memory = put_cell s.memory SPAN 0 })
    else (s, Ask (Line u)))

-- 120 EMIT ( c -- ): shows the byte
abbrev pub emit : Whole → After
emit s = takes1 s (λ c rest. (record s { values = rest }, Byte (c % 256)))

-- 121 TYPE ( a u -- ): shows u bytes from a on
abbrev pub type_out : Whole → After
type_out s = takes2 s (λ a u rest. (record s { values = rest }, Show (record { at = a; len = u })))
