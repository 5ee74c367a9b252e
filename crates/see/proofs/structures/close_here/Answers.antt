use Rattle.std.proofs.Common.{refl, ◌∙◌, arith}
use Rattle.see.specs.Parts.{token_in}
use Rattle.colon_bodies.specs.declared.words.BodyWord.TheVariants as w
use Rattle.see.specs.declared.parts.Part.TheVariants as part
use Rattle.colon_bodies.proofs.Taking.{false_test}
use Rattle.see.proofs.Growing.{shuts_turn, shuts_end}
use Rattle.see.proofs.structures.close_here.Goals as goal

pub loop-frames-preserved : goal.loop-frames-preserved
loop-frames-preserved c = (
  λ bytes at n f g b d s e.
      let i = c.loop-frames.invariant.0 bytes at n f g b d s e in
      let h = (c.ends_here.ensures.meaning at i.frame i.is.frames_are).0 c.loop-frames-test.true in
      shuts_turn (token_in bytes) at g d c.args.here _ _ (part.Word w.Then) n _ _ i h refl c.push_reserved.ensures.items (c.pop_frame.ensures.top at i.frame i.is.frames_are).1,
  omega (arith, c.push_reserved.ensures.len, c.pop_frame.ensures.shorter, c.pop_frame.ensures.some, c.ends_here.ensures.some, c.loop-frames-test.true, c.loop-frames.invariant.1),
  c.push_reserved.ensures.capacity ∙ c.loop-frames.invariant.2,
  c.pop_frame.ensures.room ∙ c.loop-frames.invariant.3,
)

pub returns-clause-closed : goal.returns-clause-closed
returns-clause-closed c = λ bytes at n f g b d s e.
    let i = c.loop-frames.invariant.0 bytes at n f g b d s e in
    shuts_end at g d c.args.here _ n _ i (false_test _ _ (c.ends_here.ensures.meaning at i.frame i.is.frames_are) c.loop-frames-test.false)
