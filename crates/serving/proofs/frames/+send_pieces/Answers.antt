use Rattle.std.proofs.Common.{arith}
use Rattle.inner_interpreter.proofs.Running.{on_ok_then}
use Rattle.serving.proofs.Stretch.{on_err_then}
use Rattle.serving.proofs.Joining.{next_pieces, next_cut, first_cut}
use Rattle.serving.specs.Frames.{joined}
use Rattle.serving.proofs.frames.+send_pieces.Goals as goal

pub returns-in-Ok-clause-ok : goal.returns-in-Ok-clause-ok
returns-in-Ok-clause-ok g t c = on_ok_then c.send_pieces.result _ _ (λ sent. next_pieces c.args.full c.args.kind c.args.skip (joined c.args.bytes) _ _ _ (omega (arith, c.if-full-eq0.false)) c.in-Ok.ensures.ok sent) c.send_pieces.ensures.ok

pub returns-in-Ok-clause-err : goal.returns-in-Ok-clause-err
returns-in-Ok-clause-err g t c = on_err_then c.send_pieces.result _ _ (λ part. next_cut c.args.full c.args.kind c.args.skip (joined c.args.bytes) _ _ _ (omega (arith, c.if-full-eq0.false)) c.in-Ok.ensures.ok part) c.send_pieces.ensures.err

pub returns-in-Err-clause-err : goal.returns-in-Err-clause-err
returns-in-Err-clause-err g t c = first_cut c.args.full c.args.kind c.args.skip (joined c.args.bytes) _ _ (omega (arith, c.if-full-eq0.false)) c.in-Err.ensures.err
