use Rattle.std.proofs.Common.{sym, refl, ◌∙◌, ◌≡◌}
use Rattle.name_index.specs.Index.{slots_of}
use Rattle.name_index.proofs.Tabled.{slots_some}
use Rattle.name_index.proofs.index.NameIndex.admit.Goals as goal

slots_before : (c : goal.After-self-in-Some-1) → c.deref_mut.result.now ≡ slots_of c.args.self.now.table
slots_before c =
    c.deref_mut.ensures.value ∙ sym (slots_some c.ensure_table.new.self.table c.in-Some.table c.in-Some.is) ∙ c.ensure_table.ensures.slots

pub returns-in-Some-clause-newer : goal.returns-in-Some-clause-newer
returns-in-Some-clause-newer c put = rw (sym (slots_before c)) (λ h. slots_some _ _ refl ∙ c.put_newest.ensures.newer h)

pub returns-in-Some-clause-set : goal.returns-in-Some-clause-set
returns-in-Some-clause-set c put = rw (sym (slots_before c)) (λ h. slots_some _ _ refl ∙ c.put_newest.ensures.set h)

pub returns-in-Some-clause-size : goal.returns-in-Some-clause-size
returns-in-Some-clause-size c put = rw (sym (slots_before c)) c.put_newest.ensures.size
