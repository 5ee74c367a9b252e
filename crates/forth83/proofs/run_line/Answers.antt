use Rattle.std.proofs.Common.{ap, inl, inr, rules, ◌≡◌}
use Rattle.named_files.specs.Done.{status_of}
use Rattle.named_files.proofs.Making.{refused, refuses}
use Rattle.forth83.proofs.run_line.Goals as goal

pub returns-in-Ok-clause-ran : goal.returns-in-Ok-clause-ran
returns-in-Ok-clause-ran g c = λ fine. inl (
  c.in-Words.words,
  c.in-Words.ensures,
  inl (c.in-Ok.ensures.obeyed fine),
  λ broken. let h : status_of c.obey.result ≡ 5 = c.obey.ensures.cut fine broken in search (rules, h),
)

pub returns-in-Ok-2-clause-ran : goal.returns-in-Ok-2-clause-ran
returns-in-Ok-2-clause-ran g c = λ fine. inl (
  c.in-Words.words,
  c.in-Words.ensures,
  inr c.in-Ok.ensures.refused,
  λ broken. let h : status_of c.obey.result ≡ 5 = c.obey.ensures.cut fine broken in search (rules, h),
)

pub returns-in-OutOfMemory-clause-ran : goal.returns-in-OutOfMemory-clause-ran
returns-in-OutOfMemory-clause-ran g c = λ fine.
    inr (inr (refuses _ _ _ _ _ c.out_of_memory.ensures.asked.0 (refused _ _ _ _ _ c.out_of_memory.ensures.asked) (ap (λ f. f.written) c.out_of_memory.ensures.files)))
