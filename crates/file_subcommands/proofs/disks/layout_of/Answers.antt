use Rattle.std.proofs.Common.{ap, inl, inr}
use Rattle.named_files.proofs.Making.{of_err, refused, refuses}
use Rattle.file_subcommands.proofs.disks.layout_of.Goals as goal

pub returns-in_default-clause-refused : goal.returns-in_default-clause-refused
returns-in_default-clause-refused g c =
    inl (c.in_default.ensures.unknown, refuses _ _ _ _ _ c.refuse_use.ensures.asked.0 (refused _ _ _ _ _ c.refuse_use.ensures.asked) (ap (λ f. f.written) c.refuse_use.ensures.files))

pub returns-in_err-skew-clause-refused : goal.returns-in_err-skew-clause-refused
returns-in_err-skew-clause-refused g c =
    let same = ap (λ f. f.written) c.skew_of.ensures.files in
    of_err c.from_residual.result _ _ c.from_residual.ensures.1
    (elim c.in_err-skew.ensures.refused [
      | inl h ↦ inr (inl (h.0, refuses _ _ _ _ _ h.1.0 (refused _ _ _ _ _ h.1) same))
      | inr h ↦ inr (inr (inl (refuses _ _ _ _ _ h.0 (refused _ _ _ _ _ h) same)))
    ])
