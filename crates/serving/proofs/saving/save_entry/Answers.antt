use Rattle.std.proofs.Common.{rules, Ok, Err}
use Rattle.serving.proofs.Storing.{unwritten, was_written}
use Rattle.serving.proofs.saving.save_entry.Goals as goal

pub returns-in_default-clause-saved : goal.returns-in_default-clause-saved
returns-in_default-clause-saved g c = unwritten _ _ c.args.entry _ (search rules)

pub returns-in-Ok-clause-saved : goal.returns-in-Ok-clause-saved
returns-in-Ok-clause-saved g c = was_written _ c.args.machine.now.parts c.args.entry c.in-Some.block c.page.result.now (Ok tt) _ _ (search rules) (search rules) (search rules)

pub returns-in-Err-clause-saved : goal.returns-in-Err-clause-saved
returns-in-Err-clause-saved g c = was_written _ c.args.machine.now.parts c.args.entry c.in-Some.block c.page.result.now (Err c.in-Err.field-0) _ _ (search rules) (search rules) (search rules)
