use Rattle.memory.specs.Mirrored.{stored}
use Rattle.std.proofs.Common.{rules, ◌≡◌, sym, subst}
use Rattle.dictionary.specs.Header.{is_named}
use Rattle.dictionary.specs.Search.{Sought, sought_in, walked, IsSought}
use Rattle.name_index.proofs.Served.{found_by}
use Rattle.name_index.proofs.finding.search_forth.Goals as goal

pub returns-then-is_known-clause-found : goal.returns-then-is_known-clause-found
returns-then-is_known-clause-found c =
    let same : sought_in (stored c.args.memory.now) 42 c.args.name.now ≡ walked (is_named (stored c.args.memory.now) c.args.name.now) (stored c.args.memory.now) 32768 c.entry.result =
    found_by c.args.limit c.slot_of.result c.class_of.result c.cell-start.result c.first_unhidden-first.result c.entry.result c.is_known.new.index
    (stored c.args.memory.now) c.args.name.now c.is_known.ensures.holds c.len.ensures.bytes (search rules) (search rules) (search rules) (search rules)
    (search rules) (search rules) (search rules) (search rules) (c.first_unhidden-first.ensures c.args.name.now) in
    subst (λ (s : Sought). IsSought s c.search_chain.result) (sym same) c.search_chain.ensures
