use Rattle.std.proofs.Common.{arith, ◌+◌}
use Rattle.std.proofs.lemmas.Result.{err_from_is_err_and}
use Rattle.image_builder.proofs.Screens.{held_own, held_as, none_underway, screens_more_read, screens_stop, all_screens, never_began}
use Rattle.block_buffers.proofs.Likeness.{like_none, like_so_far}
use Rattle.block_buffers.proofs.ReadPages.{as_many, none_read, one_read}
use Rattle.image_builder.proofs.reading.read_screens.Goals as goal

pub loop-screen-init : goal.loop-screen-init
loop-screen-init g c = search (arith, none_read, like_none, none_underway)

pub loop-screen-preserved : goal.loop-screen-preserved
loop-screen-preserved g c =
    record {
      held = held_as c.loop-screen.compilation c.read_screen.new.compilation c.loop-screen.invariant.held c.in_ok-mode.ensures.held;
      within = λ h. omega arith;
      above = omega (arith, c.loop-screen.invariant.above);
      counted = grind arith;
      read = one_read c.args.from c.loop-screen.screen _ _ _ _ _ c.loop-screen.invariant.above c.loop-screen.invariant.counted c.loop-screen.invariant.read c.in_ok-mode.ensures.asked;
      like = λ d e. like_so_far d _ _ _ _ _ _ _ c.loop-screen.invariant.counted (c.loop-screen.invariant.like d e) c.read_screen.ensures.like;
      taken = λ d e did. screens_more_read d e c.args.from c.loop-screen.screen _ _ _ _ _ _ _ _ _ _ c.loop-screen.invariant.counted c.loop-screen.invariant.read c.in_ok-mode.ensures.asked c.loop-screen.invariant.taken c.in_ok-mode.ensures.taken did;
    }

pub returns-in_err-mode-clause-taken : goal.returns-in_err-mode-clause-taken
returns-in_err-mode-clause-taken g c = λ d e did.
    let q = err_from_is_err_and c.from_residual.result c.from_residual.ensures.1 in
    rw (q.1, q.2) (screens_stop d e c.args.from c.loop-screen.screen c.args.to _ _ _ _ _ _ _ _ _ _ (omega arith) c.loop-screen.invariant.counted c.loop-screen.invariant.read c.in_err-mode.ensures.asked c.loop-screen.invariant.taken c.in_err-mode.ensures.taken did)

pub returns-in_err-mode-clause-like : goal.returns-in_err-mode-clause-like
returns-in_err-mode-clause-like g c = λ d e. like_so_far d _ _ _ _ _ _ _ c.loop-screen.invariant.counted (c.loop-screen.invariant.like d e) c.read_screen.ensures.like

pub returns-clause-taken : goal.returns-clause-taken
returns-clause-taken g c = λ d e did.
    let h = c.loop-screen.invariant.taken d e did in
    all_screens d c.args.from c.loop-screen.screen c.args.to _ _ _ h (never_began c.args.from c.loop-screen.screen c.args.to h.above (omega arith) c.loop-screen.invariant.within) (λ k. omega arith)

pub returns-clause-read : goal.returns-clause-read
returns-clause-read g c = as_many c.args.from _ _ _ _ _ (never_began c.args.from c.loop-screen.screen c.args.to c.loop-screen.invariant.above (omega arith) c.loop-screen.invariant.within) c.loop-screen.invariant.read

pub returns-in_ok-mode-clause-taken : goal.returns-in_ok-mode-clause-taken
returns-in_ok-mode-clause-taken g c = λ d e did.
    all_screens d c.args.from (c.loop-screen.screen + 1) c.args.to _ _ _
    (screens_more_read d e c.args.from c.loop-screen.screen _ _ _ _ _ _ _ _ _ _ c.loop-screen.invariant.counted c.loop-screen.invariant.read c.in_ok-mode.ensures.asked c.loop-screen.invariant.taken c.in_ok-mode.ensures.taken did)
    (omega arith)
    (λ k. omega arith)

pub returns-in_ok-mode-clause-like : goal.returns-in_ok-mode-clause-like
returns-in_ok-mode-clause-like g c = λ d e. like_so_far d _ _ _ _ _ _ _ c.loop-screen.invariant.counted (c.loop-screen.invariant.like d e) c.read_screen.ensures.like

pub returns-in_ok-mode-clause-read : goal.returns-in_ok-mode-clause-read
returns-in_ok-mode-clause-read g c = as_many c.args.from _ _ _ _ _ (omega arith)
    (one_read c.args.from c.loop-screen.screen _ _ _ _ _ c.loop-screen.invariant.above c.loop-screen.invariant.counted c.loop-screen.invariant.read c.in_ok-mode.ensures.asked)

pub read_screen-requires : goal.read_screen-requires
read_screen-requires g c = held_own c.loop-screen.compilation c.loop-screen.invariant.held

pub returns-in_ok-mode-clause-held : goal.returns-in_ok-mode-clause-held
returns-in_ok-mode-clause-held g c = held_as c.loop-screen.compilation c.read_screen.new.compilation c.loop-screen.invariant.held c.in_ok-mode.ensures.held
