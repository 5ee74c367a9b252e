use Rattle.std.proofs.Common.{sym, subst}
use Rattle.metacompiler.proofs.Making.{NoAsk, asked_waits, round_asked}
use Rattle.metacompiler.proofs.Moving.{tick_led, asked_led}
use Rattle.metacompiler.proofs.rounds.make_round.Goals as goal

pub settle-requires-clause-waits : goal.settle-requires-clause-waits
settle-requires-clause-waits g c = (asked_waits _ _ c.in-Ok.act c.in-Ask.request (c.in-Ok.ensures.went.1) c.in-Ask.is).1

pub settle-requires-clause-goes : goal.settle-requires-clause-goes
settle-requires-clause-goes g c = (asked_waits _ _ c.in-Ok.act c.in-Ask.request (c.in-Ok.ensures.went.1) c.in-Ask.is).0

pub returns-in-Ask : goal.returns-in-Ask
returns-in-Ask g c = record {
  told = λ d q runs. round_asked c.args.left _ c.tick.new.self _ c.in-Ok.act d c.in-Ask.request _ _ (c.in-Ok.ensures.went.1) c.in-Ask.is (c.settle.ensures.told d q);
  moved = λ runs. asked_led _ c.tick.new.self _ _ _ c.args.left c.in-Ok.act c.in-Ask.request _ (c.in-Ok.ensures.went) c.in-Ask.is c.settle.ensures.moved;
}

pub returns-in-Went-clause-moved : goal.returns-in-Went-clause-moved
returns-in-Went-clause-moved g c = λ runs. tick_led _ _ _ _ c.in-Ok.act _ c.in-Ok.ensures.went (subst NoAsk (sym c.in-Went.is) tt) c.stop_by.ensures

pub returns-in-Fault-clause-moved : goal.returns-in-Fault-clause-moved
returns-in-Fault-clause-moved g c = λ runs. tick_led _ _ _ _ c.in-Ok.act _ c.in-Ok.ensures.went (subst NoAsk (sym c.in-Fault.is) tt) c.stop_by-in-Fault.ensures

pub returns-in-Halt-clause-moved : goal.returns-in-Halt-clause-moved
returns-in-Halt-clause-moved g c = λ runs. tick_led _ _ _ _ c.in-Ok.act _ c.in-Ok.ensures.went (subst NoAsk (sym c.in-Halt.is) tt) c.stop_by-in-Halt.ensures
