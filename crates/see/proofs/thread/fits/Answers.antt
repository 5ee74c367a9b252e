use Rattle.std.proofs.Common.{map, take, ap, ◌∙◌, arith, add-one}
use Rattle.colon_bodies.specs.Tokens.{laid, laid_by}
use Rattle.see.specs.Parts.{token_in}
use Rattle.colon_bodies.specs.declared.words.BodyWord.TheVariants as w
use Rattle.see.specs.declared.parts.Part.TheVariants as part
use Rattle.colon_bodies.proofs.Taking.{laid-append}
use Rattle.colon_bodies.proofs.Whole.{cut, more}
use Rattle.see.proofs.Showing.{not_true}
use Rattle.see.proofs.thread.fits.Goals as goal

pub returns-then-k-left : goal.returns-then-k-left
returns-then-k-left c = (
  λ z. not_true _ z,
  λ h.
      let e = ap laid (cut (token_in c.args.bytes.now) c.args.words.now c.loop-word.word-index (part.Word (w.Name 0)) c.loop-word-test.true) ∙ laid-append (map (token_in c.args.bytes.now) (take c.loop-word.word-index c.args.words.now)) _ in
      absurd (omega (arith, e, h, c.loop-word.invariant, c.bytes_of-k.ensures, ap laid_by c.word_in.ensures, c.if-k-left.true)),
)

pub loop-word-preserved : goal.loop-word-preserved
loop-word-preserved c =
    let e = ap laid (more (token_in c.args.bytes.now) c.args.words.now c.loop-word.word-index (part.Word (w.Name 0)) c.loop-word-test.true) ∙ laid-append (map (token_in c.args.bytes.now) (take c.loop-word.word-index c.args.words.now)) _ in
    rw add-one (omega (arith, e, c.loop-word.invariant, c.bytes_of-k.ensures, ap laid_by c.word_in.ensures, c.if-k-left.false))
