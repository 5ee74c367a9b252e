use Rattle.std.proofs.Common.{arith, drop, length, refl, take, ◌-◌}
use Rattle.std.proofs.lemmas.List.{length-drop, length-take, take_rest}
use Rattle.serving.proofs.Restoring.{none_added, one_added}
use Rattle.serving.proofs.putting.+add_entries.Goals as goal

pub returns-in_default-clause-entries : goal.returns-in_default-clause-entries
returns-in_default-clause-entries t c = λ es e. none_added c.args.cells.now es c.args.entries.now.items c.in_default.len_below e

pub returns-clause-entries : goal.returns-clause-entries
returns-clause-entries t c = λ es e. one_added c.args.cells.now (take (length c.args.cells.now - 4) (drop 4 c.args.cells.now)) es c.args.entries.now.items c.push.new.self.items c.add_entries.new.entries.items _ c.in-len4-up.len_at_least (take_rest c.args.cells.now 4) (rw (c.from.ensures, c.marked.ensures) refl) c.push.ensures.items c.add_entries.ensures.entries e

pub returns-clause-count : goal.returns-clause-count
returns-clause-count t c = λ n e.
    let rest = c.add_entries.ensures.count (n - 1) (omega (arith, length-drop 4 c.args.cells.now, length-take (length c.args.cells.now - 4) (drop 4 c.args.cells.now), e, c.in-len4-up.len_at_least)) in
    omega (arith, rest, c.push.ensures.len, e, c.in-len4-up.len_at_least)
