use Rattle.std.proofs.Common.{◌∙◌, ap, ◌++◌, ◌==◌, [], List, ℕ, if◌then◌else◌}
use Rattle.forth83_c.proofs.Aside.{resumed_kept}
use Rattle.forth83_c.proofs.calling.resume.Goals as goal

pub returns-clause-resumed : goal.returns-clause-resumed
returns-clause-resumed c = λ _.
    resumed_kept c.args.kept.now _ c.in-Some.top (c.is_record.ensures.0 c.if-not-is_record.false) c.if-kept-eq0.false
    (c.in-Some.ensures.put
    ∙ ap (λ (xs : List ℕ). (if c.args.kept.now.aside.asks == 2 then c.args.kept.now.aside.line else []) ++ xs) c.behind_line-below.ensures.off)
    c.in-Some.ensures.place
