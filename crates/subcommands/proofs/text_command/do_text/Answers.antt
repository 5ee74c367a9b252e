use Rattle.std.proofs.Common.{subst}
use Rattle.subcommands.specs.Lines.{Prints}
use Rattle.subcommands.proofs.Printing.{text_printed, text_refused}
use Rattle.subcommands.proofs.text_command.do_text.Goals as goal

pub returns-in-Ok-clause-printed : goal.returns-in-Ok-clause-printed
returns-in-Ok-clause-printed g c = λ fine d e did.
    text_printed _ c.in-Ok.text.items _ _ _ (c.in-Ok.ensures.text d e did) (subst (λ t. Prints t 0 c.print.result.status (g.W.Output.sent c.args.writer.now) (g.W.Output.sent c.print.new.writer)) c.as_slice.ensures.value (c.print.ensures.printed fine))

pub returns-in-Err-clause-printed : goal.returns-in-Err-clause-printed
returns-in-Err-clause-printed g c = λ fine d e did.
    text_refused _ c.in-Err.why _ _ _ (c.in-Err.ensures.refused d e did) (c.refuse_page.ensures.printed fine) (c.refuse_page.ensures.wanting fine)
