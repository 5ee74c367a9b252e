use Rattle.std.proofs.Common.{add-one, subst, sym}
use Rattle.std.specs.Prelude.{slice_index}
use Rattle.see.specs.PlainWords.{IsPlainWord}
use Rattle.see.specs.Parts.{token_in}
use Rattle.colon_bodies.specs.declared.words.BodyWord.TheVariants as w
use Rattle.see.specs.declared.parts.Part.TheVariants as part
use Rattle.colon_bodies.proofs.Taking.{false_test}
use Rattle.colon_bodies.proofs.Whole.{cut, more}
use Rattle.see.proofs.Showing.{plainly_on, plainly_not, not_true}
use Rattle.see.proofs.plain.are_plain.Goals as goal

pub returns-then-not-is_plain_word : goal.returns-then-not-is_plain_word
returns-then-not-is_plain_word c = (
  λ z. not_true _ z,
  λ p.
      absurd (false_test _ _ c.is_plain_word.ensures c.if-not-is_plain_word.true
      (subst (λ v. IsPlainWord (slice_index c.args.runtime.now) c.loop-word.half v) (sym c.word_in-word.ensures) (plainly_not (slice_index c.args.runtime.now) _ _ _ _ _ c.loop-word.invariant (cut (token_in c.args.bytes.now) c.args.words.now c.loop-word.word-index (part.Word (w.Name 0)) c.loop-word-test.true) p))),
)

pub loop-word-preserved : goal.loop-word-preserved
loop-word-preserved c =
    rw (add-one, more (token_in c.args.bytes.now) c.args.words.now c.loop-word.word-index (part.Word (w.Name 0)) c.loop-word-test.true, c.half_behind-half.ensures, sym c.word_in-word.ensures)
    (plainly_on (slice_index c.args.runtime.now) _ _ _ c.loop-word.invariant (c.is_plain_word.ensures.0 c.if-not-is_plain_word.false))
