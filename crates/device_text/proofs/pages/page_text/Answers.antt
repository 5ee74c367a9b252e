use Rattle.std.proofs.Common.{◌∙◌, Ok, ap, inl, sym}
use Rattle.block_buffers.proofs.Likeness.{told_like}
use Rattle.device_text.proofs.Progress.{read_fails, read_gives, read_leaves}
use Rattle.device_text.proofs.pages.page_text.Goals as goal

pub returns-in-Ok-screen_text-clause-text : goal.returns-in-Ok-screen_text-clause-text
returns-in-Ok-screen_text-clause-text g c = λ d e did. read_gives d e _ c.args.screen c.read.new.page _ _ _ c.in-Ok.ensures.logged did ∙ ap Ok (sym c.in-Ok-screen_text.ensures)

pub returns-in-Ok-screen_text-clause-left : goal.returns-in-Ok-screen_text-clause-left
returns-in-Ok-screen_text-clause-left g c = λ d e did. read_leaves d e _ c.args.screen c.read.new.page c.read.result _ _ c.read.ensures.logged did

pub returns-in-Ok-screen_text-clause-like : goal.returns-in-Ok-screen_text-clause-like
returns-in-Ok-screen_text-clause-like g c = λ d e. told_like d _ _ _ _ c.args.screen c.read.new.page c.read.result _ _ c.count.ensures.value c.count.ensures.told e c.read.ensures.logged c.read.ensures.told

pub returns-in-Err-screen_text-clause-left : goal.returns-in-Err-screen_text-clause-left
returns-in-Err-screen_text-clause-left g c = λ d e did. read_leaves d e _ c.args.screen c.read.new.page c.read.result _ _ c.read.ensures.logged did

pub returns-in-Err-screen_text-clause-like : goal.returns-in-Err-screen_text-clause-like
returns-in-Err-screen_text-clause-like g c = λ d e. told_like d _ _ _ _ c.args.screen c.read.new.page c.read.result _ _ c.count.ensures.value c.count.ensures.told e c.read.ensures.logged c.read.ensures.told

pub returns-in-Err-clause-refused : goal.returns-in-Err-clause-refused
returns-in-Err-clause-refused g c = λ d e did. inl (read_fails d e _ c.args.screen c.read.new.page _ _ _ c.in-Err.ensures.logged did)

pub returns-in-Err-clause-left : goal.returns-in-Err-clause-left
returns-in-Err-clause-left g c = λ d e did. read_leaves d e _ c.args.screen c.read.new.page c.read.result _ _ c.read.ensures.logged did

pub returns-in-Err-clause-like : goal.returns-in-Err-clause-like
returns-in-Err-clause-like g c = λ d e. told_like d _ _ _ _ c.args.screen c.read.new.page c.read.result _ _ c.count.ensures.value c.count.ensures.told e c.read.ensures.logged c.read.ensures.told
