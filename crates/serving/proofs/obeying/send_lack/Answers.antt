use Rattle.inner_interpreter.proofs.Running.{on_ok_then}
use Rattle.serving.proofs.Stretch.{on_err_then}
use Rattle.serving.proofs.Inspected.{lacks_in_place}
use Rattle.serving.proofs.obeying.send_lack.Goals as goal

pub returns-clause-ok : goal.returns-clause-ok
returns-clause-ok g c = λ count calls. on_ok_then c.refuse.result _ _ (λ sent. lacks_in_place _ _ _ _ _ _ _ sent) c.refuse.ensures.ok

pub returns-clause-err : goal.returns-clause-err
returns-clause-err g c = λ count calls. on_err_then c.refuse.result _ _ (λ sent. lacks_in_place _ _ _ _ _ _ _ sent) c.refuse.ensures.err
