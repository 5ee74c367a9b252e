use Rattle.std.proofs.Common.{sym, map}
use Rattle.see.specs.Parts.{token_in}
use Rattle.memory.specs.Mirrored.{stored}
use Rattle.see.proofs.Printed.{written_printed}
use Rattle.see.proofs.seeing.show.Goals as goal

pub returns-clause-printed : goal.returns-clause-printed
returns-clause-printed c =
    rw (sym c.deref.ensures.value, sym c.deref-2.ensures.value)
    (written_printed (stored c.args.memory.now) c.args.l c.args.name.now (map (token_in c.deref-2.result.now) c.deref.result.now) c.begin.new.out.items _ _ (let z = c.if-not-is_word.false in let e = c.is_word.ensures in cc) c.begin.ensures.begun c.show_words.ensures.written)
