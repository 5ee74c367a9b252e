use Rattle.std.proofs.Common.{◌≡◌, ◌++◌, ◌∷◌, [], arith, refl, true, false, ◌∙◌, rules}
use Rattle.machine.specs.Answer.{is_return}
use Rattle.inner_interpreter.proofs.Lining.{at_end, took, line_ends, returned_here, more_here, is_taken, typed_more, read_more, begun, kept_unread, if_err}
use Rattle.inner_interpreter.proofs.Givens.{longer, given_more}
use Rattle.inner_interpreter.proofs.lines.take_line.Goals as goal

pub returns-in_default-clause-told : goal.returns-in_default-clause-told
returns-in_default-clause-told g c = λ typed e.
    let before = c.loop.invariant.told typed e in
    let ended = at_end _ _ _ before.0 c.in_default.is before.1 c.in_ok-byte.ensures.bytes in
    is_taken _ typed c.loop.line.items _ _ _ _ (line_ends _ c.loop.line.items before.0 typed _ ended.0 before.2) refl ended.1

pub returns-then-is_return-clause-told : goal.returns-then-is_return-clause-told
returns-then-is_return-clause-told g c = λ typed e.
    let before = c.loop.invariant.told typed e in
    let step = took _ _ _ before.0 c.in-Some.byte c.in-Some.is before.1 c.in_ok-byte.ensures.bytes in
    let returns : is_return c.in-Some.byte ≡ true = search rules in
    is_taken _ typed c.loop.line.items _ _ step.0 _ (returned_here c.args.n c.loop.counter c.loop.line.items before.0 step.0 c.in-Some.byte _ c.loop-test.true returns step.1 before.2) refl step.2

pub loop-preserved : goal.loop-preserved
loop-preserved g c =
    let typed_byte : is_return c.in-Some.byte ≡ false = search rules in
    let pushed : c.push.new.self.items ≡ c.loop.line.items ++ c.in-Some.byte ∷ [] = search rules in
    record {
      told = λ typed e.
          let before = c.loop.invariant.told typed e in
          let step = took _ _ _ before.0 c.in-Some.byte c.in-Some.is before.1 c.in_ok-byte.ensures.bytes in
          (step.0, step.2, rw pushed (more_here c.args.n c.loop.counter c.loop.line.items before.0 step.0 c.in-Some.byte _ c.loop-test.true typed_byte step.1 before.2));
      read = λ typed e.
          let before = c.loop.invariant.read typed e in
          let step = took _ _ _ before.0 c.in-Some.byte c.in-Some.is before.1 c.in_ok-byte.ensures.bytes in
          (step.0, step.2, rw pushed (before.2 ∙ read_more c.loop.line.items before.0 step.0 c.in-Some.byte step.1));
      typed = rw pushed (typed_more c.loop.line.items c.in-Some.byte c.loop.invariant.typed typed_byte);
      count = omega (arith, c.push.ensures.len);
      full = longer _ _ _ _ pushed c.loop.invariant.full;
      given = given_more _ _ _ _ _ _ _ c.in-Some.is pushed c.loop.invariant.given c.in_ok-byte.ensures.logged;
      room = search rules;
      mark = c.in_ok-byte.ensures.mark ∙ c.loop.invariant.mark;
    }

pub returns-in_err-byte-clause-begun : goal.returns-in_err-byte-clause-begun
returns-in_err-byte-clause-begun g c = λ typed e.
    let before = c.loop.invariant.read typed e in
    if_err _ _ (begun c.args.n typed c.loop.line.items before.0 _ before.2 c.loop.invariant.typed (omega (arith, c.loop.invariant.count, c.loop-test.true)) (kept_unread _ _ _ before.1 c.in_err-byte.ensures.bytes))
