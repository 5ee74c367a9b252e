use Rattle.std.proofs.Common.{◌∷◌, sym, ◌∙◌}
use Rattle.primitives.specs.DictionaryRows.{leaves_past}
use Rattle.primitives.proofs.dictionary_rows.tick.Goals as goal

pub returns-in-Ok : goal.returns-in-Ok
returns-in-Ok c = c.leave_past.ensures ∙ sym (c.in-Ok.ensures (λ t word w. leaves_past t word (w ∷ t.values)))

pub returns-in-Err : goal.returns-in-Err
returns-in-Err c = sym (c.in-Err.ensures (λ t word w. leaves_past t word (w ∷ t.values)))
