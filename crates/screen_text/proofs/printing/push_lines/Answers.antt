use Rattle.std.proofs.Common.{◌≡◌, ◌*◌, true, drop, arith}
use Rattle.screen_text.specs.Bytes.{is_blank}
use Rattle.screen_text.proofs.Lines.{rows_end, rows_more, rows_none}
use Rattle.screen_text.proofs.printing.push_lines.Goals as goal

pub returns-then-is_blank : goal.returns-then-is_blank
returns-then-is_blank c =
    let blank : is_blank (drop (64 * c.loop-row.row) c.args.bytes.now) ≡ true = (let e = c.is_blank.ensures in let f = c.if-is_blank.true in let g = c.behind-rest.ensures in cc) in
    rows_end _ _ _ _ c.loop-row.invariant blank

pub loop-row-preserved : goal.loop-row-preserved
loop-row-preserved c = grind (arith, rows_more)

pub returns : goal.returns
returns c = rows_none _ c.loop-row.row _ _ (omega arith) c.loop-row.invariant
