use Rattle.memory.specs.Mirrored.{stored}
use Rattle.std.proofs.Common.{◌≡◌, ◌++◌, [], ◌∷◌, Some, None, subst, ap, add-one, arith}
use Rattle.colon_bodies.specs.Tokens.{laid_by}
use Rattle.source_words.specs.Spaced.{spaced_behind}
use Rattle.see.specs.Naming.{words_fault}
use Rattle.see.specs.ReadAgain.{AreCells}
use Rattle.see.specs.Printing.{all_printed}
use Rattle.colon_bodies.specs.declared.words.BodyWord.TheVariants as w
use Rattle.see.specs.Parts.{token_in}
use Rattle.see.specs.declared.parts.Part.TheVariants as part
use Rattle.see.proofs.Printed.{step_written, end_written, cells_on, cells_end, fault_here, fault_on, fault_none, room_on}
use Rattle.see.proofs.printing.show_words.Goals as goal

pub returns-in_err-show_word-clause-written : goal.returns-in_err-show_word-clause-written
returns-in_err-show_word-clause-written c = grind (arith, fault_here (token_in c.args.bytes.now) (stored c.args.memory.now) c.args.hidden c.args.words.now c.loop-word.word-index (part.Word (w.Name 0)) _ c.in_err-show_word.field-0.0 c.loop-word-test.true (subst (λ v. words_fault (stored c.args.memory.now) c.args.hidden (v ∷ []) ≡ Some c.in_err-show_word.field-0.0) c.word_in.ensures c.in_err-show_word.ensures.written) c.loop-word.invariant.0)

pub loop-word-preserved : goal.loop-word-preserved
loop-word-preserved c = rw add-one (
  fault_on (token_in c.args.bytes.now) (stored c.args.memory.now) c.args.hidden c.args.words.now c.loop-word.word-index (part.Word (w.Name 0)) _ c.loop-word-test.true (subst (λ v. words_fault (stored c.args.memory.now) c.args.hidden (v ∷ []) ≡ None) c.word_in.ensures c.in_ok-show_word.ensures.written.0) c.loop-word.invariant.0,
  cells_on (token_in c.args.bytes.now) c.args.words.now c.loop-word.word-index (part.Word (w.Name 0)) _ c.loop-word-test.true (subst (λ v. AreCells (v ∷ [])) c.word_in.ensures c.in_ok-show_word.ensures.written.1) c.loop-word.invariant.1,
  step_written (token_in c.args.bytes.now) (stored c.args.memory.now) c.args.hidden c.args.words.now c.loop-word.word-index (part.Word (w.Name 0)) _ _ _ c.loop-word-test.true (subst (λ v. c.show_word.new.out.items ≡ c.loop-word.out.items ++ spaced_behind (all_printed (stored c.args.memory.now) c.args.hidden (v ∷ []))) c.word_in.ensures c.in_ok-show_word.ensures.written.2) c.loop-word.invariant.2,
  omega (arith, c.loop-word.invariant.3, c.in_ok-show_word.ensures.few, ap laid_by c.word_in.ensures, (room_on (token_in c.args.bytes.now) c.args.words.now c.loop-word.word-index (part.Word (w.Name 0)) c.loop-word-test.true).0, (room_on (token_in c.args.bytes.now) c.args.words.now c.loop-word.word-index (part.Word (w.Name 0)) c.loop-word-test.true).1),
  omega (arith, c.loop-word.invariant.4, c.in_ok-show_word.ensures.room),
  omega (arith, c.loop-word.invariant.5, c.in_ok-show_word.ensures.name),
)

pub returns-clause-written : goal.returns-clause-written
returns-clause-written c = (
  fault_none (token_in c.args.bytes.now) (stored c.args.memory.now) c.args.hidden c.args.words.now c.loop-word.word-index _ c.loop-word-test.false c.loop-word.invariant.0,
  cells_end (token_in c.args.bytes.now) c.args.words.now c.loop-word.word-index _ c.loop-word-test.false c.loop-word.invariant.1,
  end_written (token_in c.args.bytes.now) (stored c.args.memory.now) c.args.hidden c.args.words.now c.loop-word.word-index _ _ c.loop-word-test.false c.loop-word.invariant.2,
)
