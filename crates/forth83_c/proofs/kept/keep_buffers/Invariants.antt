use Rattle.std.proofs.Common.{◌≡◌, map, take, length, true}
use Rattle.std.specs.List.{list_all}
use Rattle.forth83_c.specs.Kept.{entry_of, has_marks}
use Rattle.forth83_c.proofs.kept.keep_buffers.Given as goal

-- those so far are kept
abbrev pub invariant-loop-place : goal.invariant-loop-place
invariant-loop-place l = record {
  all : length l.kept ≡ 16;
  entries : map entry_of (take l.place l.kept) ≡ take l.place l.entries.items;
  marks : list_all has_marks (take l.place l.kept) ≡ true;
}
