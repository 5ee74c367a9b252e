use Rattle.std.proofs.Common.{◌≡◌, map, take}
use Rattle.forth83_c.specs.Kept.{entry_of}
use Rattle.forth83_c.proofs.kept.entries_of.Given as goal

abbrev pub invariant-loop-buffer : goal.invariant-loop-buffer
invariant-loop-buffer l = l.entries.items ≡ map entry_of (take l.buffer-index l.buffers)
