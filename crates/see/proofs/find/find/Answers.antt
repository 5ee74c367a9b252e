use Rattle.see.proofs.find.find.Goals as goal

pub returns-then-not-sketch-clause-found : goal.returns-then-not-sketch-clause-found
returns-then-not-sketch-clause-found c = λ t e.
    absurd (let y = c.sketch.ensures.found t e in let o = y.0 in let z = c.if-not-sketch.true in cc)
