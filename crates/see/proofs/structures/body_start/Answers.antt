use Rattle.std.proofs.Common.{ap, ◌∙◌}
use Rattle.see.specs.Seen.{begins_at}
use Rattle.see.proofs.Growing.{begins_top}
use Rattle.see.proofs.structures.body_start.Goals as goal

pub returns : goal.returns
returns c = λ f e. c.start_in.ensures ∙ ap (begins_at c.args.at) (c.top.ensures c.args.at f e) ∙ begins_top c.args.at f
