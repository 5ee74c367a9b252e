use Rattle.std.proofs.Common.{rules, ◌≡◌, ◌<◌, length, arith}
use Rattle.forth83_c.proofs.Taking.{line_here, line_on, typed_on}
use Rattle.forth83_c.proofs.lines.whole_line.Goals as goal

pub returns-then-is_return-clause-line : goal.returns-then-is_return-clause-line
returns-then-is_return-clause-line c =
    let same : c.from-place.result ≡ c.loop-i.i = search rules in
    let there : c.loop-i.i < length c.args.typed.now = omega (arith, c.if-place-typed.false, same) in
    λ more. line_here c.args.n c.loop-i.i c.from-place.result c.args.typed.now more same c.loop-i-test.true there (search rules) (c.loop-i.invariant.told more)

pub loop-i-preserved : goal.loop-i-preserved
loop-i-preserved c =
    let same : c.from-place.result ≡ c.loop-i.i = search rules in
    let there : c.loop-i.i < length c.args.typed.now = omega (arith, c.if-place-typed.false, same) in
    record {
      told = λ more. line_on c.args.n c.loop-i.i c.from-place.result c.args.typed.now more same c.loop-i-test.true there (search rules) (c.loop-i.invariant.told more);
      typed = typed_on c.loop-i.i c.from-place.result c.args.typed.now same there (search rules) c.loop-i.invariant.typed;
      there = omega (arith, there);
    }
