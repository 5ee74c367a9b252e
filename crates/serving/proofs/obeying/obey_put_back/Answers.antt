use Rattle.std.proofs.Common.{refl, true, false}
use Rattle.inner_interpreter.proofs.Running.{on_ok_then}
use Rattle.serving.proofs.Stretch.{on_err_then}
use Rattle.serving.proofs.Inspected.{put_obeyed, put_refused}
use Rattle.serving.proofs.Roomy.{end_room, refusal_room}
use Rattle.serving.proofs.obeying.obey_put_back.Goals as goal

pub returns-then-put_back-clause-ok : goal.returns-then-put_back-clause-ok
returns-then-put_back-clause-ok g c = λ count calls. on_ok_then c.end.result _ _ (λ sent. put_obeyed true count c.args.machine.now c.put_back.new.machine c.args.body.now calls _ _ (c.if-put_back.ensures.yes refl) sent) c.end.ensures.ok

pub returns-then-put_back-clause-err : goal.returns-then-put_back-clause-err
returns-then-put_back-clause-err g c = λ count calls. on_err_then c.end.result _ _ (λ sent. put_obeyed false count c.args.machine.now c.put_back.new.machine c.args.body.now calls _ _ (c.if-put_back.ensures.yes refl) sent) c.end.ensures.err

pub returns-clause-ok : goal.returns-clause-ok
returns-clause-ok g c = λ count calls. on_ok_then c.refuse.result _ _ (λ sent. put_refused true count c.args.machine.now c.put_back.new.machine c.args.body.now calls _ _ (c.if-put_back.ensures.stays refl) (c.if-put_back.ensures.no refl) sent) c.refuse.ensures.ok

pub returns-clause-err : goal.returns-clause-err
returns-clause-err g c = λ count calls. on_err_then c.refuse.result _ _ (λ sent. put_refused false count c.args.machine.now c.put_back.new.machine c.args.body.now calls _ _ (c.if-put_back.ensures.stays refl) (c.if-put_back.ensures.no refl) sent) c.refuse.ensures.err

pub returns-then-put_back-clause-room : goal.returns-then-put_back-clause-room
returns-then-put_back-clause-room g c = end_room c.end.result _ _ _ _ c.end.ensures.ok

pub returns-clause-room : goal.returns-clause-room
returns-clause-room g c = refusal_room c.refuse.result _ _ _ c.refuse.ensures.ok
