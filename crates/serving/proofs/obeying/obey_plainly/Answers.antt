use Rattle.std.proofs.Common.{refl}
use Rattle.inner_interpreter.proofs.Running.{on_ok_then}
use Rattle.serving.proofs.Stretch.{on_err_then}
use Rattle.serving.proofs.Inspected.{looks_obeyed}
use Rattle.serving.proofs.obeying.obey_plainly.Goals as goal

pub returns-in-Answer-clause-ok : goal.returns-in-Answer-clause-ok
returns-in-Answer-clause-ok g c = λ _. on_ok_then c.obey_answer.result _ _ (λ sent. looks_obeyed _ _ _ _ _ _ _ _ _ _ c.in-Answer.is refl sent) c.obey_answer.ensures.ok

pub returns-in-Answer-clause-err : goal.returns-in-Answer-clause-err
returns-in-Answer-clause-err g c = λ _. on_err_then c.obey_answer.result _ _ (λ sent. looks_obeyed _ _ _ _ _ _ _ _ _ _ c.in-Answer.is refl sent) c.obey_answer.ensures.err

pub returns-in-Enter-clause-ok : goal.returns-in-Enter-clause-ok
returns-in-Enter-clause-ok g c = λ _. on_ok_then c.obey_entry.result _ _ (λ sent. looks_obeyed _ _ _ _ _ _ _ _ _ _ c.in-Enter.is refl sent) c.obey_entry.ensures.ok

pub returns-in-Enter-clause-err : goal.returns-in-Enter-clause-err
returns-in-Enter-clause-err g c = λ _. on_err_then c.obey_entry.result _ _ (λ sent. looks_obeyed _ _ _ _ _ _ _ _ _ _ c.in-Enter.is refl sent) c.obey_entry.ensures.err

pub returns-in-SetCell-clause-ok : goal.returns-in-SetCell-clause-ok
returns-in-SetCell-clause-ok g c = λ _. on_ok_then c.obey_cell.result _ _ (λ sent. looks_obeyed _ _ _ _ _ _ _ _ _ _ c.in-SetCell.is refl sent) c.obey_cell.ensures.ok

pub returns-in-SetCell-clause-err : goal.returns-in-SetCell-clause-err
returns-in-SetCell-clause-err g c = λ _. on_err_then c.obey_cell.result _ _ (λ sent. looks_obeyed _ _ _ _ _ _ _ _ _ _ c.in-SetCell.is refl sent) c.obey_cell.ensures.err

pub returns-in-Look-clause-ok : goal.returns-in-Look-clause-ok
returns-in-Look-clause-ok g c = λ _. on_ok_then c.obey_look.result _ _ (λ sent. looks_obeyed _ _ _ _ _ _ _ _ _ _ c.in-Look.is refl sent) c.obey_look.ensures.ok

pub returns-in-Look-clause-err : goal.returns-in-Look-clause-err
returns-in-Look-clause-err g c = λ _. on_err_then c.obey_look.result _ _ (λ sent. looks_obeyed _ _ _ _ _ _ _ _ _ _ c.in-Look.is refl sent) c.obey_look.ensures.err

pub returns-in-Memory-clause-ok : goal.returns-in-Memory-clause-ok
returns-in-Memory-clause-ok g c = λ _. on_ok_then c.obey_memory.result _ _ (λ sent. looks_obeyed _ _ _ _ _ _ _ _ _ _ c.in-Memory.is refl sent) c.obey_memory.ensures.ok

pub returns-in-Memory-clause-err : goal.returns-in-Memory-clause-err
returns-in-Memory-clause-err g c = λ _. on_err_then c.obey_memory.result _ _ (λ sent. looks_obeyed _ _ _ _ _ _ _ _ _ _ c.in-Memory.is refl sent) c.obey_memory.ensures.err

pub returns-in-Find-clause-ok : goal.returns-in-Find-clause-ok
returns-in-Find-clause-ok g c = λ _. on_ok_then c.obey_find.result _ _ (λ sent. looks_obeyed _ _ _ _ _ _ _ _ _ _ c.in-Find.is refl sent) c.obey_find.ensures.ok

pub returns-in-Find-clause-err : goal.returns-in-Find-clause-err
returns-in-Find-clause-err g c = λ _. on_err_then c.obey_find.result _ _ (λ sent. looks_obeyed _ _ _ _ _ _ _ _ _ _ c.in-Find.is refl sent) c.obey_find.ensures.err

pub returns-in-View-clause-ok : goal.returns-in-View-clause-ok
returns-in-View-clause-ok g c = λ _. on_ok_then c.obey_view.result _ _ (λ sent. looks_obeyed _ _ _ _ _ _ _ _ _ _ c.in-View.is refl sent) c.obey_view.ensures.ok

pub returns-in-View-clause-err : goal.returns-in-View-clause-err
returns-in-View-clause-err g c = λ _. on_err_then c.obey_view.result _ _ (λ sent. looks_obeyed _ _ _ _ _ _ _ _ _ _ c.in-View.is refl sent) c.obey_view.ensures.err

pub returns-in-Image-clause-ok : goal.returns-in-Image-clause-ok
returns-in-Image-clause-ok g c = λ _. on_ok_then c.obey_image.result _ _ (λ sent. looks_obeyed _ _ _ _ _ _ _ _ _ _ c.in-Image.is refl sent) c.obey_image.ensures.ok

pub returns-in-Image-clause-err : goal.returns-in-Image-clause-err
returns-in-Image-clause-err g c = λ _. on_err_then c.obey_image.result _ _ (λ sent. looks_obeyed _ _ _ _ _ _ _ _ _ _ c.in-Image.is refl sent) c.obey_image.ensures.err

pub returns-in-Version-clause-ok : goal.returns-in-Version-clause-ok
returns-in-Version-clause-ok g c = λ _. on_ok_then c.obey_version.result _ _ (λ sent. looks_obeyed _ _ _ _ _ _ _ _ _ _ c.in-Version.is refl sent) c.obey_version.ensures.ok

pub returns-in-Version-clause-err : goal.returns-in-Version-clause-err
returns-in-Version-clause-err g c = λ _. on_err_then c.obey_version.result _ _ (λ sent. looks_obeyed _ _ _ _ _ _ _ _ _ _ c.in-Version.is refl sent) c.obey_version.ensures.err

pub returns-in-Unknown-clause-ok : goal.returns-in-Unknown-clause-ok
returns-in-Unknown-clause-ok g c = λ _. on_ok_then c.obey_unknown.result _ _ (λ sent. looks_obeyed _ _ _ _ _ _ _ _ _ _ c.in-Unknown.is refl sent) c.obey_unknown.ensures.ok

pub returns-in-Unknown-clause-err : goal.returns-in-Unknown-clause-err
returns-in-Unknown-clause-err g c = λ _. on_err_then c.obey_unknown.result _ _ (λ sent. looks_obeyed _ _ _ _ _ _ _ _ _ _ c.in-Unknown.is refl sent) c.obey_unknown.ensures.err

pub returns-in-SetBytes-clause-ok : goal.returns-in-SetBytes-clause-ok
returns-in-SetBytes-clause-ok g c = λ _. on_ok_then c.obey_bytes.result _ _ (λ sent. looks_obeyed _ _ _ _ _ _ _ _ _ _ c.in-SetBytes.is refl sent) c.obey_bytes.ensures.ok

pub returns-in-SetBytes-clause-err : goal.returns-in-SetBytes-clause-err
returns-in-SetBytes-clause-err g c = λ _. on_err_then c.obey_bytes.result _ _ (λ sent. looks_obeyed _ _ _ _ _ _ _ _ _ _ c.in-SetBytes.is refl sent) c.obey_bytes.ensures.err

pub returns-in-Registers-clause-ok : goal.returns-in-Registers-clause-ok
returns-in-Registers-clause-ok g c = λ _. on_ok_then c.obey_registers.result _ _ (λ sent. looks_obeyed _ _ _ _ _ _ _ _ _ _ c.in-Registers.is refl sent) c.obey_registers.ensures.ok

pub returns-in-Registers-clause-err : goal.returns-in-Registers-clause-err
returns-in-Registers-clause-err g c = λ _. on_err_then c.obey_registers.result _ _ (λ sent. looks_obeyed _ _ _ _ _ _ _ _ _ _ c.in-Registers.is refl sent) c.obey_registers.ensures.err
