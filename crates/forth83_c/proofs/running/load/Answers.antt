use Rattle.forth83_c.proofs.running.load.Goals as goal

pub returns-in-Err-Truncated-clause-accepted : goal.returns-in-Err-Truncated-clause-accepted
returns-in-Err-Truncated-clause-accepted c = λ contents file.
    let other = c.in-Err-Truncated.ensures.accepted contents file in
    let this = c.in-Err-Truncated.field-0-is in
    absurd (cc)

pub returns-in-Err-TrailingBytes-clause-accepted : goal.returns-in-Err-TrailingBytes-clause-accepted
returns-in-Err-TrailingBytes-clause-accepted c = λ contents file.
    let other = c.in-Err-TrailingBytes.ensures.accepted contents file in
    let this = c.in-Err-TrailingBytes.field-0-is in
    absurd (cc)

pub returns-in-Err-BadBuffers-clause-accepted : goal.returns-in-Err-BadBuffers-clause-accepted
returns-in-Err-BadBuffers-clause-accepted c = λ contents file.
    let other = c.in-Err-BadBuffers.ensures.accepted contents file in
    let this = c.in-Err-BadBuffers.field-0-is in
    absurd (cc)

pub returns-in-Err-BadSize-clause-accepted : goal.returns-in-Err-BadSize-clause-accepted
returns-in-Err-BadSize-clause-accepted c = λ contents file.
    let other = c.in-Err-BadSize.ensures.accepted contents file in
    let this = c.in-Err-BadSize.field-0-is in
    absurd (cc)
