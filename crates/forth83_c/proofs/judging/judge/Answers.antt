use Rattle.std.proofs.Common.{◌≡◌, ap, ◌∙◌, inl, inr}
use Rattle.forth83_c.proofs.judging.judge.Goals as goal
use Rattle.forth83_c.specs.Judged.{fault_code}
use Rattle.image_loader.specs.declared.fault.ImageFault.TheVariants as fault

pub returns-in-Err-clause-truncated : goal.returns-in-Err-clause-truncated
returns-in-Err-clause-truncated c = λ cut.
    let refused = c.in-Err.ensures.truncated.1 cut in
    let is : c.in-Err.fault ≡ fault.Truncated = cc in
    c.code_of_fault.ensures ∙ ap fault_code is

pub returns-in-Err-clause-known : goal.returns-in-Err-clause-known
returns-in-Err-clause-known c = λ contents file. inr (inl (c.code_of_fault.ensures ∙ ap fault_code (c.in-Err.ensures.accepted contents file)))
