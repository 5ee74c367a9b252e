use Rattle.std.proofs.Common.{arith}
use Rattle.see.proofs.Growing.{branch_forward, branch_over, branch_back, start_back}
use Rattle.see.proofs.structures.take_branch.Goals as goal

pub returns-then-here-to-clause-taken : goal.returns-then-here-to-clause-taken
returns-then-here-to-clause-taken c = λ bytes within f g b d s e. c.take_else.ensures.taken bytes c.args.at _ f g b d s (branch_forward f b c.args.here c.args.to _ c.if-here-to.true e)

pub returns-then-to-body_start-clause-taken : goal.returns-then-to-body_start-clause-taken
returns-then-to-body_start-clause-taken c = λ bytes within f g b d s e.
    let i = c.body_start.ensures f s.frames_are in
    let j = start_back c.args.at f b c.args.here _ _ _ s in
    let lt = c.if-to-body_start.true in
    c.take_repeat.ensures.taken bytes c.args.here f g b d s within c.requires.reach (omega (arith, i, lt)) (branch_over f b c.args.here c.args.to _ (omega arith) (omega (arith, i, j, lt)) e)

pub returns-clause-taken : goal.returns-clause-taken
returns-clause-taken c = λ bytes within f g b d s e.
    let i = c.body_start.ensures f s.frames_are in
    let j = start_back c.args.at f b c.args.here _ _ _ s in
    c.take_again.ensures.taken bytes _ within f g b d s (branch_back f b c.args.here c.args.to _ (omega arith) (omega (arith, i, j, c.if-to-body_start.false)) e)
