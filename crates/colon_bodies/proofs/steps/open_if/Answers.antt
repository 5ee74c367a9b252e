use Rattle.std.proofs.Common.{◌∙◌}
use Rattle.colon_bodies.proofs.Laying.{opened_if}
use Rattle.colon_bodies.proofs.steps.open_if.Goals as goal

pub returns-clause-steps : goal.returns-clause-steps
returns-clause-steps c = λ rt at o t r d.
    opened_if rt at o t _ _ _ _ _ c.args.control _ r c.in_ok-lay_cell.ensures.bytes (c.len.ensures ∙ c.lay_cell.new.image.ok.0) c.in_ok-lay_cell-2.ensures.bytes c.in_ok-push.ensures.items d
