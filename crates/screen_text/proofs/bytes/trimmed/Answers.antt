use Rattle.std.proofs.Common.{◌≡◌, ◌∙◌, take, sym, ap, arith}
use Rattle.screen_text.specs.Bytes.{trimmed}
use Rattle.screen_text.proofs.Blanks.{trimmed_none}
use Rattle.screen_text.proofs.bytes.trimmed.Goals as goal

pub returns : goal.returns
returns c =
    let none : c.loop-end.end ≡ 0 = omega arith in
    sym (trimmed_none c.args.line.now) ∙ ap (λ k. trimmed (take k c.args.line.now)) (sym none) ∙ c.loop-end.invariant.same
