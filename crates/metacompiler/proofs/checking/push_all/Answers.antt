use Rattle.memory.specs.Mirrored.{stored}
use Rattle.std.proofs.Common.{rules}
use Rattle.memory.specs.Bytes.{cell}
use Rattle.memory.specs.declared.system.TheConstants.{CURRENT}
use Rattle.metacompiler.specs.Residency.{JoinedAll, HasChains}
use Rattle.metacompiler.proofs.Residence.{has_chains, where_true}
use Rattle.metacompiler.proofs.checking.push_all.Goals as goal

pub returns : goal.returns
returns c =
    let m = (stored c.args.memory.now) in
    let p : JoinedAll m (cell m CURRENT) c.args.headers.now.items c.push_vocabulary.new.headers.items = search rules in
    where_true c.push_vocabulary-3.result (JoinedAll m 42 c.push_vocabulary-2.new.headers.items c.push_vocabulary-3.new.headers.items) (HasChains m c.push_vocabulary-3.new.headers.items) c.push_vocabulary-3.ensures
    (λ r. has_chains m c.args.headers.now.items c.push_vocabulary.new.headers.items c.push_vocabulary-2.new.headers.items c.push_vocabulary-3.new.headers.items p (search rules) r)
