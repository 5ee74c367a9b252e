use Rattle.inner_interpreter.proofs.Running.{on_ok_then}
use Rattle.serving.proofs.Stretch.{on_err_then}
use Rattle.serving.proofs.Inspected.{sent_as, part_as}
use Rattle.serving.proofs.Joining.{file_is}
use Rattle.serving.proofs.looking.send_file.Goals as goal

pub returns-clause-ok : goal.returns-clause-ok
returns-clause-ok g c = on_ok_then c.send_pair.result _ _ (λ sent. sent_as _ _ _ _ (file_is c.args.image.now c.file_header.result c.bytes.result.now c.file_header.ensures c.bytes.ensures.bytes) sent) c.send_pair.ensures.ok

pub returns-clause-err : goal.returns-clause-err
returns-clause-err g c = on_err_then c.send_pair.result _ _ (λ part. part_as _ _ _ _ (file_is c.args.image.now c.file_header.result c.bytes.result.now c.file_header.ensures c.bytes.ensures.bytes) part) c.send_pair.ensures.err
