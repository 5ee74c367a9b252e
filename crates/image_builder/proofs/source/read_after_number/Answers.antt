use Rattle.image_builder.specs.Places.{place}
use Rattle.image_builder.specs.Stages.{Counted}
use Rattle.image_builder.proofs.Taking.{taken_at}
use Rattle.image_builder.proofs.source.read_after_number.Goals as goal

pub returns-in-None : goal.returns-in-None
returns-in-None c = λ t ws after h e.
    let o = c.in-None.ensures t h.built in
    rw c.at.ensures (taken_at c.args.b.now.limit t ws (Counted c.args.n) (place c.args.w) after _ c.lay_counted.new.b (c.lay_counted.ensures t ws after h o.0 o.1))
