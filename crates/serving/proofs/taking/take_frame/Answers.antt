use Rattle.std.proofs.Common.{rules, ◌≡◌, true, false}
use Rattle.serving.specs.Taking.{AreTaken}
use Rattle.serving.proofs.Framing.{frame_taken, body_ended, body_failed}
use Rattle.serving.proofs.taking.take_frame.Goals as goal

pub returns-in-Ok-true-take_bytes-clause-taken : goal.returns-in-Ok-true-take_bytes-clause-taken
returns-in-Ok-true-take_bytes-clause-taken g c =
    let same : c.deref.result.now ≡ c.take_bytes.new.bytes.items = search rules in
    let one : AreTaken 3 c.take_bytes.new.bytes.items true (g.R.Input.reads c.args.reader.now) (g.R.Input.reads c.take_bytes.new.reader) = rw c.in-Ok-true.field-0-test at c.in-Ok-true.ensures.taken in
    let two : AreTaken c.head_of-kind.result.1 c.take_bytes-2.new.bytes.items true (g.R.Input.reads c.take_bytes.new.reader) (g.R.Input.reads c.take_bytes-2.new.reader) = rw c.in-Ok-true-take_bytes.field-0-test at c.in-Ok-true-take_bytes.ensures.taken in
    frame_taken _ _ _ _ _ _ _ one (rw same at c.head_of-kind.ensures.kind) (rw same at c.head_of-kind.ensures.size) (rw same at c.head_of-kind.ensures.low) c.head_of-kind.ensures.few two

pub returns-in-Ok-false-take_bytes-clause-taken : goal.returns-in-Ok-false-take_bytes-clause-taken
returns-in-Ok-false-take_bytes-clause-taken g c =
    let same : c.deref.result.now ≡ c.take_bytes.new.bytes.items = search rules in
    let one : AreTaken 3 c.take_bytes.new.bytes.items true (g.R.Input.reads c.args.reader.now) (g.R.Input.reads c.take_bytes.new.reader) = rw c.in-Ok-true.field-0-test at c.in-Ok-true.ensures.taken in
    let two : AreTaken c.head_of-kind.result.1 c.take_bytes-2.new.bytes.items false (g.R.Input.reads c.take_bytes.new.reader) (g.R.Input.reads c.take_bytes-2.new.reader) = rw c.in-Ok-false-take_bytes.field-0-test at c.in-Ok-false-take_bytes.ensures.taken in
    body_ended _ _ _ _ _ _ one (rw same at c.head_of-kind.ensures.size) two

pub returns-in-Err-take_bytes-clause-taken : goal.returns-in-Err-take_bytes-clause-taken
returns-in-Err-take_bytes-clause-taken g c =
    let same : c.deref.result.now ≡ c.take_bytes.new.bytes.items = search rules in
    let one : AreTaken 3 c.take_bytes.new.bytes.items true (g.R.Input.reads c.args.reader.now) (g.R.Input.reads c.take_bytes.new.reader) = rw c.in-Ok-true.field-0-test at c.in-Ok-true.ensures.taken in
    body_failed _ _ _ _ _ _ one (rw same at c.head_of-kind.ensures.size) c.in-Err-take_bytes.ensures.failed
