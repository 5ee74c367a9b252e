use Rattle.memory.specs.Mirrored.{stored}
use Rattle.std.proofs.Common.{rules, arith, ◌≡◌, ◌-◌, subst}
use Rattle.std.proofs.lemmas.Bool.{eqb-true}
use Rattle.metacompiler.specs.Residency.{Walked}
use Rattle.metacompiler.proofs.Residence.{walked_none, walked_more, walked_all}
use Rattle.metacompiler.proofs.checking.push_chain.Goals as goal

pub loop-left-init : goal.loop-left-init
loop-left-init c = search (rules, walked_none)

pub returns-then-l-eq0 : goal.returns-then-l-eq0
returns-then-l-eq0 c = λ _. let e : c.loop-left.l ≡ 0 = search rules in
    walked_all (stored c.args.memory.now) c.args.head c.args.headers.now.items c.loop-left.headers.items c.loop-left.left (subst (λ n. Walked (stored c.args.memory.now) c.args.head c.args.headers.now.items c.loop-left.headers.items n c.loop-left.left) e c.loop-left.invariant)

pub loop-left-preserved : goal.loop-left-preserved
loop-left-preserved c = grind (arith, rules, walked_more)

pub returns : goal.returns
returns c = λ t. let e : c.loop-left.l ≡ 0 = eqb-true c.loop-left.l 0 t in
    walked_all (stored c.args.memory.now) c.args.head c.args.headers.now.items c.loop-left.headers.items c.loop-left.left (subst (λ n. Walked (stored c.args.memory.now) c.args.head c.args.headers.now.items c.loop-left.headers.items n c.loop-left.left) e c.loop-left.invariant)
