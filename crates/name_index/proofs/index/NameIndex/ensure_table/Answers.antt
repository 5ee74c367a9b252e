use Rattle.std.proofs.Common.{rules, sym, ◌∙◌}
use Rattle.name_index.proofs.Tabled.{slots_none}
use Rattle.name_index.proofs.index.NameIndex.ensure_table.Goals as goal

pub returns-then-is_none-clause-slots : goal.returns-then-is_none-clause-slots
returns-then-is_none-clause-slots c = c.empty_table.ensures ∙ sym (slots_none c.args.self.now.table (search rules))
