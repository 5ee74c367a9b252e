use Rattle.std.proofs.Common.{◌≡◌, ◌*◌, drop}
use Rattle.screen_text.specs.Screens.{screens_of}
use Rattle.screen_text.specs.Blocks.{with_screens}
use Rattle.screen_text.proofs.blocks.put_screens.Given as goal

-- the screens up to here are written
abbrev pub invariant-loop-index : goal.invariant-loop-index
invariant-loop-index l =
    with_screens l.written.items (screens_of (drop l.index l.screens.numbers.items) (drop (1024 * l.index) l.screens.bytes.items)) ≡ with_screens l.fn.file.items (screens_of l.screens.numbers.items l.screens.bytes.items)
