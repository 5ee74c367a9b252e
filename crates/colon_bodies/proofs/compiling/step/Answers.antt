use Rattle.std.specs.Prelude.{slice_index}
use Rattle.colon_bodies.specs.declared.words.Half.TheVariants.{Free}
use Rattle.colon_bodies.proofs.compiling.step.Goals as goal

pub returns-in-Name-clause-steps : goal.returns-in-Name-clause-steps
returns-in-Name-clause-steps c = λ o t p d. rw c.in-Name.is (c.lay_name.ensures.steps (slice_index c.args.runtime.now) c.args.at o t Free c.args.marks.now.items d)
