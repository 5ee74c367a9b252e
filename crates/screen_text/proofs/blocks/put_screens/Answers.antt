use Rattle.std.proofs.Common.{arith}
use Rattle.screen_text.proofs.Placing.{page_of, placed_all, placed_more}
use Rattle.screen_text.proofs.blocks.put_screens.Goals as goal

pub loop-index-preserved : goal.loop-index-preserved
loop-index-preserved c =
    placed_more c.loop-index.written.items c.put_screen.new.file.items _ c.args.screens.now.numbers.items c.args.screens.now.bytes.items c.loop-index.index 0 (omega arith) c.loop-index.invariant
    (page_of c.put_screen.new.file.items c.loop-index.written.items c.args.screens.now.numbers.items c.args.screens.now.bytes.items c.loop-index.index 0 c.deref.result.now c.deref-number-items.result.now
    c.deref-number-items.ensures.value c.deref.ensures.value c.in_ok-put_screen.ensures)

pub returns : goal.returns
returns c = placed_all _ _ c.args.screens.now.numbers.items c.args.screens.now.bytes.items c.loop-index.index (omega arith) c.loop-index.invariant
