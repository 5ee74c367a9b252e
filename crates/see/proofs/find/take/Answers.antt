use Rattle.see.proofs.find.take.Goals as goal

pub returns-in-Call-clause-taken : goal.returns-in-Call-clause-taken
returns-in-Call-clause-taken c = rw c.in-Call.is (λ bytes within lies f g b d s e. c.take_call.ensures.taken bytes c.args.at c.args.here _ _ f g b d s e)

pub returns-in-Number-clause-taken : goal.returns-in-Number-clause-taken
returns-in-Number-clause-taken c = rw c.in-Number.is (λ bytes within lies f g b d s e. c.take_number.ensures.taken bytes c.args.at c.args.here _ _ f g b d s e)

pub returns-in-Pair-clause-taken : goal.returns-in-Pair-clause-taken
returns-in-Pair-clause-taken c = rw c.in-Pair.is (λ bytes within lies f g b d s e. c.take_pair.ensures.taken bytes c.args.at c.args.here _ _ f g b d s e)

pub returns-in-Text-clause-taken : goal.returns-in-Text-clause-taken
returns-in-Text-clause-taken c = rw c.in-Text.is (λ bytes within lies f g b d s e. c.take_text.ensures.taken bytes _ c.args.at c.args.here _ _ lies f g b d s e)

pub returns-in-Query-clause-taken : goal.returns-in-Query-clause-taken
returns-in-Query-clause-taken c = rw c.in-Query.is (λ bytes within lies f g b d s e. c.take_query.ensures.taken bytes within f g b d s e)

pub returns-in-Branch-clause-taken : goal.returns-in-Branch-clause-taken
returns-in-Branch-clause-taken c = rw c.in-Branch.is (λ bytes within lies f g b d s e. c.take_branch.ensures.taken bytes within f g b d s e)

pub returns-in-Do-clause-taken : goal.returns-in-Do-clause-taken
returns-in-Do-clause-taken c = rw c.in-Do.is (λ bytes within lies f g b d s e. c.take_do.ensures.taken bytes c.args.at c.in-Do.field-0 _ f g b d s e)

pub returns-in-Loop-clause-taken : goal.returns-in-Loop-clause-taken
returns-in-Loop-clause-taken c = rw c.in-Loop.is (λ bytes within lies f g b d s e. c.take_loop.ensures.taken bytes c.args.at c.args.here c.in-Loop.field-1 _ f g b d s e)

pub returns-in-Does-clause-taken : goal.returns-in-Does-clause-taken
returns-in-Does-clause-taken c = rw c.in-Does.is (λ bytes within lies f g b d s e. c.take_does.ensures.taken bytes c.args.at _ f g b d s e)
