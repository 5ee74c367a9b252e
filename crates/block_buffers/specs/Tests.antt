-- Tests of entries, for private functions.
use Rattle.std.specs.Prelude.{ℕ, List, [], ◌∷◌, Bool, true, not, nat_lt, is_some, ◌&&◌, ◌||◌}
use Rattle.std.specs.List.{list_any}
use Rattle.block_buffers.specs.declared.entry.Entry.{Entry}
use Rattle.block_buffers.specs.Entries.{is_in}

-- the entry's slot is below a number, and it is updated only if it has a block
abbrev pub can_stand : ℕ → Entry → Bool
can_stand n e = nat_lt e.slot n && (not e.updated || is_some e.block)

-- no slot occurs twice
unfoldable pub slots_differ : List Entry → Bool
slots_differ [] = true
slots_differ (e ∷ es) = not (list_any (is_in e.slot) es) && slots_differ es
