use Rattle.std.proofs.Common.{refl}
use Rattle.inner_interpreter.proofs.Running.{on_ok_then}
use Rattle.serving.proofs.Stretch.{on_err_then}
use Rattle.serving.proofs.Inspected.{looks_obeyed}
use Rattle.serving.proofs.obeying.obey.Goals as goal

pub returns-in-Listed-clause-ok : goal.returns-in-Listed-clause-ok
returns-in-Listed-clause-ok g c = on_ok_then c.obey_listing.result _ _ (λ sent. looks_obeyed _ _ _ _ _ _ _ _ _ _ c.in-Listed.is refl sent) c.obey_listing.ensures.ok

pub returns-in-Listed-clause-err : goal.returns-in-Listed-clause-err
returns-in-Listed-clause-err g c = on_err_then c.obey_listing.result _ _ (λ sent. looks_obeyed _ _ _ _ _ _ _ _ _ _ c.in-Listed.is refl sent) c.obey_listing.ensures.err

pub returns-in-Extent-clause-ok : goal.returns-in-Extent-clause-ok
returns-in-Extent-clause-ok g c = on_ok_then c.obey_extent.result _ _ (λ sent. looks_obeyed _ _ _ _ _ _ _ _ _ _ c.in-Extent.is refl sent) c.obey_extent.ensures.ok

pub returns-in-Extent-clause-err : goal.returns-in-Extent-clause-err
returns-in-Extent-clause-err g c = on_err_then c.obey_extent.result _ _ (λ sent. looks_obeyed _ _ _ _ _ _ _ _ _ _ c.in-Extent.is refl sent) c.obey_extent.ensures.err
