use Rattle.std.proofs.Common.{rules, arith, ◌≡◌, ◌+◌, ◌-◌, suc, subst, sym, None, Some}
use Rattle.metacompiler.specs.Rounds.{rounds, Limit}
use Rattle.metacompiler.specs.Moved.{stage}
use Rattle.metacompiler.specs.Making.{IsSoFar, IsRound, IsLed, StopsAt}
use Rattle.metacompiler.proofs.Making.{more_so_far, stops_so_far, all_so_far}
use Rattle.metacompiler.proofs.Moving.{led_on, none_left}
use Rattle.metacompiler.proofs.rounds.make_rounds.Goals as goal

pub loop-left-init : goal.loop-left-init
loop-left-init g c = search (arith, rules)

pub returns-in-Some : goal.returns-in-Some
returns-in-Some g c = record {
  told = λ d q runs. let e : c.loop-left.left ≡ suc (c.loop-left.left - 1) = omega (arith, c.loop-left-test.true) in
      let h = subst (λ n. IsSoFar (rounds c.args.left.now c.args.machine.now.parts d) c.loop-left.machine (g.D.Device.disk c.loop-left.device) n) e (c.loop-left.invariant.told d q runs) in
      stops_so_far _ c.loop-left.machine c.make_round.new.machine _ _ (c.loop-left.left - 1) c.in-Some.stop h c.in-Some.ensures.told;
  moved = λ runs. let e : c.loop-left.left ≡ c.loop-left.left - 1 + 1 = omega (arith, c.loop-left-test.true) in
      let h = subst (λ n. IsLed (stage c.args.machine.now (g.D.Device.calls c.args.device.now) c.args.left.now) (stage c.loop-left.machine (g.D.Device.calls c.loop-left.device) n) None) e (c.loop-left.invariant.moved runs) in
      led_on _ _ _ (Some c.in-Some.stop) h c.in-Some.ensures.moved;
}

pub loop-left-preserved : goal.loop-left-preserved
loop-left-preserved g c = record {
  told = λ d q runs. let e : c.loop-left.left ≡ suc (c.loop-left.left - 1) = omega (arith, c.loop-left-test.true) in
      let y : c.make_round.result ≡ None = search rules in
      let h = subst (λ n. IsSoFar (rounds c.args.left.now c.args.machine.now.parts d) c.loop-left.machine (g.D.Device.disk c.loop-left.device) n) e (c.loop-left.invariant.told d q runs) in
      more_so_far _ c.loop-left.machine c.make_round.new.machine _ _ (c.loop-left.left - 1) h (λ f r goes. subst (λ v. IsRound (c.loop-left.left - 1) c.loop-left.machine.parts f c.make_round.new.machine (g.D.Device.disk c.make_round.new.device) v) y (c.make_round.ensures.told f r goes));
  moved = λ runs. let e : c.loop-left.left ≡ c.loop-left.left - 1 + 1 = omega (arith, c.loop-left-test.true) in
      let y : c.make_round.result ≡ None = search rules in
      let h = subst (λ n. IsLed (stage c.args.machine.now (g.D.Device.calls c.args.device.now) c.args.left.now) (stage c.loop-left.machine (g.D.Device.calls c.loop-left.device) n) None) e (c.loop-left.invariant.moved runs) in
      led_on _ _ _ None h (λ goes. subst (λ v. IsLed (stage c.loop-left.machine (g.D.Device.calls c.loop-left.device) (c.loop-left.left - 1 + 1)) (stage c.make_round.new.machine (g.D.Device.calls c.make_round.new.device) (c.loop-left.left - 1)) v) y (c.make_round.ensures.moved goes));
}

pub returns : goal.returns
returns g c = record {
  told = λ d q runs. let e : c.loop-left.left ≡ 0 = search rules in
      let h = subst (λ n. IsSoFar (rounds c.args.left.now c.args.machine.now.parts d) c.loop-left.machine (g.D.Device.disk c.loop-left.device) n) e (c.loop-left.invariant.told d q runs) in
      subst (λ n. StopsAt (rounds c.args.left.now c.args.machine.now.parts d) c.loop-left.machine (g.D.Device.disk c.loop-left.device) n Limit) (sym e) (all_so_far _ c.loop-left.machine _ h);
  moved = λ runs. let e : c.loop-left.left ≡ 0 = search rules in
      led_on _ _ _ (Some Limit) (c.loop-left.invariant.moved runs) (λ goes. none_left (stage c.loop-left.machine (g.D.Device.calls c.loop-left.device) c.loop-left.left) e);
}
