use Rattle.inner_interpreter.proofs.Running.{on_ok_then}
use Rattle.serving.proofs.Stretch.{on_err_then}
use Rattle.serving.proofs.Inspected.{see_obeyed}
use Rattle.serving.proofs.obeying.obey_see.Goals as goal

pub returns-clause-ok : goal.returns-clause-ok
returns-clause-ok g c = λ count calls. on_ok_then c.send_seen.result _ _ (λ sent. see_obeyed _ _ _ _ _ c.show-seen.result _ _ _ (rw c.memory.ensures at c.show-seen.ensures.seen) c.show-seen.ensures.roomy (rw c.text.ensures at sent)) c.send_seen.ensures.ok

pub returns-clause-err : goal.returns-clause-err
returns-clause-err g c = λ count calls. on_err_then c.send_seen.result _ _ (λ sent. see_obeyed _ _ _ _ _ c.show-seen.result _ _ _ (rw c.memory.ensures at c.show-seen.ensures.seen) c.show-seen.ensures.roomy (rw c.text.ensures at sent)) c.send_seen.ensures.err
