use Rattle.inner_interpreter.proofs.Running.{on_ok_then}
use Rattle.serving.proofs.Stretch.{on_err_then}
use Rattle.serving.proofs.Inspected.{shown_in_place}
use Rattle.serving.proofs.obeying.send_shown.Goals as goal

pub returns-clause-ok : goal.returns-clause-ok
returns-clause-ok g c = λ count calls. on_ok_then c.send_seen.result _ _ (λ sent. shown_in_place _ _ _ _ _ _ _ _ c.requires sent) c.send_seen.ensures.ok

pub returns-clause-err : goal.returns-clause-err
returns-clause-err g c = λ count calls. on_err_then c.send_seen.result _ _ (λ sent. shown_in_place _ _ _ _ _ _ _ _ c.requires sent) c.send_seen.ensures.err
