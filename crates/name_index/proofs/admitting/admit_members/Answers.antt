use Rattle.memory.specs.Mirrored.{stored}
use Rattle.std.proofs.Common.{rules, ◌≤◌, ◌+◌, IsTrue}
use Rattle.name_index.specs.Index.{slots_of}
use Rattle.name_index.proofs.Alike.{Member}
use Rattle.name_index.proofs.Rounds.{begin_rounds, begin_bound, next_rounds}
use Rattle.name_index.proofs.admitting.admit_members.Goals as goal

pub loop-l-init : goal.loop-l-init
loop-l-init c = record {
  rounds = rw (c.top-top.ensures, c.head-known.ensures) (begin_rounds c.args.limit c.args.class c.args.first c.args.index.now (stored c.args.memory.now) c.requires.holds);
  heads = search rules;
  top = search rules;
  more = search rules;
  bound = rw (c.top-top.ensures) (begin_bound c.args.limit c.args.index.now (stored c.args.memory.now) c.requires.holds);
  most = search rules;
}

pub loop-l-preserved : goal.loop-l-preserved
loop-l-preserved c =
    let may : (256 ≤ c.loop-l.l) × (c.end_of-end.result ≤ c.args.limit) × (c.cell-link.result + 2 ≤ c.loop-l.l) = search rules in
    let here : Member c.max-top.result (stored c.args.memory.now) c.loop-l.l c.cell-link.result = record {
      size = c.len.ensures.bytes;
      small = search rules;
      from = may.0;
      ends = search (rules, may);
      link = search rules;
      falls = may.2;
    } in
    let put : IsTrue c.admit.result = search rules in
    record {
      rounds = next_rounds c.loop-l.top c.max-top.result c.args.class c.head-known.result c.args.first c.loop-l.l c.cell-link.result c.slot_at-slot.result
          (stored c.args.memory.now) (slots_of c.args.index.now.table) (slots_of c.loop-l.index.table) (slots_of c.admit.new.self.table) (search rules) (search rules) (search (rules, c.admit.ensures.size put))
          (c.admit.ensures.newer put) (c.admit.ensures.set put) (search rules) (search rules) (search (rules, may)) here c.loop-l.invariant.rounds;
      heads = search rules;
      top = search rules;
      more = search (rules, may);
      bound = search (rules, may);
      most = search (rules, may);
    }
