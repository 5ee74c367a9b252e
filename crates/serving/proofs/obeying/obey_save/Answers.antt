use Rattle.inner_interpreter.proofs.Running.{on_ok_then}
use Rattle.serving.proofs.Stretch.{on_err_then}
use Rattle.serving.proofs.Inspected.{saved_obeyed}
use Rattle.serving.proofs.obeying.obey_save.Goals as goal

pub returns-clause-ok : goal.returns-clause-ok
returns-clause-ok g c = on_ok_then c.send_cells.result _ _ (λ sent. saved_obeyed _ _ _ c.save-lost.result c.args.machine.now _ _ _ _ c.save-lost.ensures.saved sent) c.send_cells.ensures.ok

pub returns-clause-err : goal.returns-clause-err
returns-clause-err g c = on_err_then c.send_cells.result _ _ (λ sent. saved_obeyed _ _ _ c.save-lost.result c.args.machine.now _ _ _ _ c.save-lost.ensures.saved sent) c.send_cells.ensures.err
