use Rattle.std.proofs.Common.{refl, ◌∙◌}
use Rattle.name_index.proofs.Tabled.{slots_some, slots_none}
use Rattle.name_index.proofs.index.empty_table.Goals as goal

pub returns-in-Ok : goal.returns-in-Ok
returns-in-Ok c = slots_some _ c.in-Ok.table refl ∙ c.in-Ok.ensures.ok

pub returns-in-Err : goal.returns-in-Err
returns-in-Err c = slots_none _ refl
