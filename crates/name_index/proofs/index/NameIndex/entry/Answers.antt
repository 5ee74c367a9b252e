use Rattle.std.proofs.Common.{rules, sym}
use Rattle.name_index.proofs.Tabled.{slots_some, slot_none}
use Rattle.name_index.proofs.index.NameIndex.entry.Goals as goal

pub returns-in-Some : goal.returns-in-Some
returns-in-Some c = rw (slots_some c.args.self.now.table c.in-Some.table c.in-Some.is) (search rules)

pub returns-in-None : goal.returns-in-None
returns-in-None c = sym (slot_none c.args.self.now.table c.args.slot (search rules) c.in-None.is)
