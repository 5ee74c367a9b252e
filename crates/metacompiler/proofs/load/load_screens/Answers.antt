use Rattle.std.proofs.Common.{rules, arith, ◌≡◌, ◌+◌, ◌-◌, suc, Some, true, false, subst}
use Rattle.metacompiler.specs.Rounds.{entered, rounds, screens, is_end}
use Rattle.metacompiler.specs.Moved.{stage, at_screen, AreRead}
use Rattle.metacompiler.specs.Making.{AreSoFar, StopsAt, IsLed, IsReadOn}
use Rattle.metacompiler.proofs.Making.{one_read, stops_reading, all_read, at_end, before_end}
use Rattle.metacompiler.proofs.Moving.{one_more, stops_here, no_more}
use Rattle.metacompiler.proofs.load.load_screens.Goals as goal

pub returns-then-not-is_end : goal.returns-then-not-is_end
returns-then-not-is_end g c = record {
  told = λ d q runs. let test = c.loop-screen-test.true in
      let e : c.args.to + 1 - c.loop-screen.screen ≡ suc (c.args.to - c.loop-screen.screen) = omega arith in
      let h = subst (λ n. AreSoFar c.args.interpret n c.loop-screen.screen (screens c.args.interpret (c.args.to + 1 - c.args.from) c.args.from c.args.left.now c.args.machine.now.parts d) c.loop-screen.machine (g.D.Device.disk c.loop-screen.device) c.loop-screen.left) e (c.loop-screen.invariant.told d q runs) in
      let y : is_end c.load_screen-stop.result ≡ false = search rules in
      stops_reading c.args.interpret (c.args.to - c.loop-screen.screen) c.loop-screen.screen _ c.loop-screen.machine c.load_screen-stop.new.machine _ _ c.loop-screen.left _ c.load_screen-stop.result h c.load_screen-stop.ensures.told (before_end c.load_screen-stop.result y);
  moved = λ runs. let test = c.loop-screen-test.true in
      let e : c.args.to + 1 - c.loop-screen.screen ≡ suc (c.args.to - c.loop-screen.screen) = omega arith in
      let h = subst (λ n. IsReadOn c.args.interpret n c.loop-screen.screen (stage c.loop-screen.machine (g.D.Device.calls c.loop-screen.device) c.loop-screen.left) (AreRead c.args.interpret (c.args.to + 1 - c.args.from) c.args.from (stage c.args.machine.now (g.D.Device.calls c.args.device.now) c.args.left.now))) e (c.loop-screen.invariant.moved runs) in
      stops_here c.args.interpret (c.args.to - c.loop-screen.screen) c.loop-screen.screen _ _ c.load_screen-stop.result _ h c.load_screen-stop.ensures.moved (search rules);
}

pub loop-screen-preserved : goal.loop-screen-preserved
loop-screen-preserved g c = record {
  told = λ d q runs. let test = c.loop-screen-test.true in
      let e : c.args.to + 1 - c.loop-screen.screen ≡ suc (c.args.to + 1 - (c.loop-screen.screen + 1)) = omega arith in
      let h = subst (λ n. AreSoFar c.args.interpret n c.loop-screen.screen (screens c.args.interpret (c.args.to + 1 - c.args.from) c.args.from c.args.left.now c.args.machine.now.parts d) c.loop-screen.machine (g.D.Device.disk c.loop-screen.device) c.loop-screen.left) e (c.loop-screen.invariant.told d q runs) in
      let z = at_end c.load_screen-stop.result (search rules) in
      one_read c.args.interpret (c.args.to + 1 - (c.loop-screen.screen + 1)) c.loop-screen.screen _ c.loop-screen.machine c.load_screen-stop.new.machine _ _ c.loop-screen.left c.load_screen-stop.new.left h
      (λ f r goes. subst (λ v. StopsAt (rounds c.loop-screen.left (entered c.loop-screen.machine.parts c.args.interpret c.loop-screen.screen) f) c.load_screen-stop.new.machine (g.D.Device.disk c.load_screen-stop.new.device) c.load_screen-stop.new.left v) z (c.load_screen-stop.ensures.told f r goes));
  moved = λ runs. let test = c.loop-screen-test.true in
      let e : c.args.to + 1 - c.loop-screen.screen ≡ suc (c.args.to + 1 - (c.loop-screen.screen + 1)) = omega arith in
      let h = subst (λ n. IsReadOn c.args.interpret n c.loop-screen.screen (stage c.loop-screen.machine (g.D.Device.calls c.loop-screen.device) c.loop-screen.left) (AreRead c.args.interpret (c.args.to + 1 - c.args.from) c.args.from (stage c.args.machine.now (g.D.Device.calls c.args.device.now) c.args.left.now))) e (c.loop-screen.invariant.moved runs) in
      let z = at_end c.load_screen-stop.result (search rules) in
      one_more c.args.interpret (c.args.to + 1 - (c.loop-screen.screen + 1)) c.loop-screen.screen _ _ _ h
      (λ goes. subst (λ v. IsLed (at_screen c.args.interpret c.loop-screen.screen (stage c.loop-screen.machine (g.D.Device.calls c.loop-screen.device) c.loop-screen.left)) (stage c.load_screen-stop.new.machine (g.D.Device.calls c.load_screen-stop.new.device) c.load_screen-stop.new.left) (Some v)) z (c.load_screen-stop.ensures.moved goes));
}

pub returns : goal.returns
returns g c = record {
  told = λ d q runs. let test = c.loop-screen-test.false in
      let e : c.args.to + 1 - c.loop-screen.screen ≡ 0 = omega arith in
      let h = subst (λ n. AreSoFar c.args.interpret n c.loop-screen.screen (screens c.args.interpret (c.args.to + 1 - c.args.from) c.args.from c.args.left.now c.args.machine.now.parts d) c.loop-screen.machine (g.D.Device.disk c.loop-screen.device) c.loop-screen.left) e (c.loop-screen.invariant.told d q runs) in
      all_read c.args.interpret c.loop-screen.screen _ c.loop-screen.machine _ c.loop-screen.left h;
  moved = λ runs. let test = c.loop-screen-test.false in
      let e : c.args.to + 1 - c.loop-screen.screen ≡ 0 = omega arith in
      let h = subst (λ n. IsReadOn c.args.interpret n c.loop-screen.screen (stage c.loop-screen.machine (g.D.Device.calls c.loop-screen.device) c.loop-screen.left) (AreRead c.args.interpret (c.args.to + 1 - c.args.from) c.args.from (stage c.args.machine.now (g.D.Device.calls c.args.device.now) c.args.left.now))) e (c.loop-screen.invariant.moved runs) in
      no_more c.args.interpret c.loop-screen.screen _ _ h;
}

pub returns-else-not-is_end : goal.returns-else-not-is_end
returns-else-not-is_end g c = record {
  told = λ d q runs. let test = c.loop-screen-test.true in
      let e : c.args.to + 1 - c.loop-screen.screen ≡ suc 0 = omega arith in
      let h = subst (λ n. AreSoFar c.args.interpret n c.loop-screen.screen (screens c.args.interpret (c.args.to + 1 - c.args.from) c.args.from c.args.left.now c.args.machine.now.parts d) c.loop-screen.machine (g.D.Device.disk c.loop-screen.device) c.loop-screen.left) e (c.loop-screen.invariant.told d q runs) in
      let z = at_end c.load_screen-stop.result (search rules) in
      all_read c.args.interpret (c.loop-screen.screen + 1) _ c.load_screen-stop.new.machine _ c.load_screen-stop.new.left
      (one_read c.args.interpret 0 c.loop-screen.screen _ c.loop-screen.machine c.load_screen-stop.new.machine _ _ c.loop-screen.left c.load_screen-stop.new.left h
      (λ f r goes. subst (λ v. StopsAt (rounds c.loop-screen.left (entered c.loop-screen.machine.parts c.args.interpret c.loop-screen.screen) f) c.load_screen-stop.new.machine (g.D.Device.disk c.load_screen-stop.new.device) c.load_screen-stop.new.left v) z (c.load_screen-stop.ensures.told f r goes)));
  moved = λ runs. let test = c.loop-screen-test.true in
      let e : c.args.to + 1 - c.loop-screen.screen ≡ suc 0 = omega arith in
      let h = subst (λ n. IsReadOn c.args.interpret n c.loop-screen.screen (stage c.loop-screen.machine (g.D.Device.calls c.loop-screen.device) c.loop-screen.left) (AreRead c.args.interpret (c.args.to + 1 - c.args.from) c.args.from (stage c.args.machine.now (g.D.Device.calls c.args.device.now) c.args.left.now))) e (c.loop-screen.invariant.moved runs) in
      let z = at_end c.load_screen-stop.result (search rules) in
      no_more c.args.interpret (c.loop-screen.screen + 1) _ _
      (one_more c.args.interpret 0 c.loop-screen.screen _ _ _ h
      (λ goes. subst (λ v. IsLed (at_screen c.args.interpret c.loop-screen.screen (stage c.loop-screen.machine (g.D.Device.calls c.loop-screen.device) c.loop-screen.left)) (stage c.load_screen-stop.new.machine (g.D.Device.calls c.load_screen-stop.new.device) c.load_screen-stop.new.left) (Some v)) z (c.load_screen-stop.ensures.moved goes)));
}
