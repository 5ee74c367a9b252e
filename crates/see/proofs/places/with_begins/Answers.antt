use Rattle.std.proofs.Common.{map, ap, ◌∙◌, add-one, arith}
use Rattle.std.specs.List.{sum}
use Rattle.colon_bodies.specs.Tokens.{laid_by}
use Rattle.colon_bodies.specs.declared.words.BodyWord.TheVariants as w
use Rattle.see.specs.declared.parts.Part.TheVariants as part
use Rattle.see.proofs.Printed.{room_on}
use Rattle.see.specs.Parts.{token_in}
use Rattle.see.proofs.Sketching.{filled_on, filled_end, filled_again}
use Rattle.see.proofs.Rooms.{sum_behind}
use Rattle.see.proofs.places.with_begins.Goals as goal

pub loop-word-preserved : goal.loop-word-preserved
loop-word-preserved c = (
  filled_on (token_in c.args.bytes.now) c.args.words.now c.loop-word.word-index (part.Word (w.Name 0)) c.loop-word.left.now _ _ _ _ _ _ _
      c.loop-word-test.true (c.bytes_of-size.ensures ∙ ap laid_by c.word_in.ensures) c.begins_before.ensures c.places_behind-left.ensures
      (c.push_begins.ensures.written c.args.bytes.now) c.push_reserved.ensures.items c.loop-word.invariant.0,
  rw add-one (omega (arith, c.loop-word.invariant.1, c.push_begins.ensures.few, c.push_reserved.ensures.len, (room_on (token_in c.args.bytes.now) c.args.words.now c.loop-word.word-index (part.Word (w.Name 0)) c.loop-word-test.true).0, sum_behind c.loop-word.left.now c.bytes_of-size.result c.begins_before.result c.begins_before.ensures, ap sum c.places_behind-left.ensures)),
  c.push_reserved.ensures.capacity ∙ c.push_begins.ensures.room ∙ c.loop-word.invariant.2,
)

pub returns-clause-whole : goal.returns-clause-whole
returns-clause-whole c = λ all s l.
    filled_end (token_in c.args.bytes.now) c.args.words.now c.loop-word.word-index c.loop-word.left.now _ _ c.loop-word-test.false c.loop-word.invariant.0
    ∙ filled_again all (map (token_in c.args.bytes.now) c.args.words.now) c.args.begins.now s l
