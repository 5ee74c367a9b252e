use Rattle.memory.specs.Mirrored.{stored}
use Rattle.std.proofs.Common.{rules, ◌+◌}
use Rattle.cells.specs.Cell.{wrap}
use Rattle.metacompiler.specs.Residency.{Joined, JoinedAll}
use Rattle.metacompiler.proofs.Residence.{joined_all, where_true}
use Rattle.metacompiler.proofs.checking.push_vocabulary.Goals as goal

pub returns : goal.returns
returns c =
    let m = (stored c.args.memory.now) in
    let voc = c.args.voc in
    let p : Joined m voc c.args.headers.now.items c.push_chain.new.headers.items = search rules in
    let q : Joined m (wrap (voc + 2)) c.push_chain.new.headers.items c.push_chain-2.new.headers.items = search rules in
    let r : Joined m (wrap (voc + 4)) c.push_chain-2.new.headers.items c.push_chain-3.new.headers.items = search rules in
    where_true c.push_chain-4.result (Joined m (wrap (voc + 6)) c.push_chain-3.new.headers.items c.push_chain-4.new.headers.items) (JoinedAll m voc c.args.headers.now.items c.push_chain-4.new.headers.items) c.push_chain-4.ensures
    (λ s. joined_all m voc c.args.headers.now.items c.push_chain.new.headers.items c.push_chain-2.new.headers.items c.push_chain-3.new.headers.items c.push_chain-4.new.headers.items (search rules) p q r s)
