use Rattle.std.proofs.Common.{◌+◌, ◌-◌, ap, arith, length, ◌∙◌}
use Rattle.std.proofs.lemmas.Slice.{drop-put_mid}
use Rattle.forth83_c.proofs.showing.put.Goals as goal

pub returns-clause-beyond : goal.returns-clause-beyond
returns-clause-beyond c =
    let n = length c.args.bytes.now in
    drop-put_mid c.args.at (c.args.at + n - c.args.at) c.args.out.now c.copy_from_slice.new.self (c.args.at + n) (omega arith) (omega (arith, c.requires)) (ap length c.copy_from_slice.ensures.after ∙ omega arith)
