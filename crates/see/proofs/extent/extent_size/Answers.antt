use Rattle.std.proofs.Common.{◌-◌, ap, sym, ◌∙◌, arith}
use Rattle.memory.specs.Mirrored.{stored}
use Rattle.dictionary.specs.Extents.{extent_end}
use Rattle.see.proofs.Rooms.{extent_length}
use Rattle.see.proofs.extent.extent_size.Goals as goal

pub returns-clause-count : goal.returns-clause-count
returns-clause-count c =
    let e = c.saturating_sub.ensures ∙ ap (λ n. n - c.args.p) (c.extent_end.ensures ∙ ap (λ l. extent_end (stored c.args.memory.now) l c.args.p) c.requires) in
    extent_length (stored c.args.memory.now) c.args.p c.len.ensures.bytes (omega (arith, e, c.saturating_sub.type_inv)) ∙ sym e
