use Rattle.std.proofs.Common.{map, [], ◌∷◌, ◌++◌, sym, ap, ◌∙◌, append_assoc, arith}
use Rattle.colon_bodies.specs.Tokens.{BEGIN}
use Rattle.see.specs.Parts.{token_in}
use Rattle.see.specs.Places.{opened}
use Rattle.colon_bodies.specs.declared.words.BodyWord.TheVariants as w
use Rattle.see.specs.declared.parts.Part.TheVariants as part
use Rattle.see.proofs.Sketching.{map_snoc, opened_next}
use Rattle.see.proofs.places.push_begins.Goals as goal

pub loop-preserved : goal.loop-preserved
loop-preserved c = (
  λ bytes.
      let t = token_in bytes in
      ap (map t) c.push_reserved.ensures.items ∙ map_snoc t _ (part.Word w.Begin) ∙ ap (λ l. l ++ BEGIN ∷ []) (c.loop.invariant.0 bytes)
      ∙ append_assoc _ (opened c.loop.counter []) (BEGIN ∷ []) ∙ ap (λ l. map t c.args.words.now.items ++ l) (sym (opened_next c.loop.counter)),
  omega (arith, c.push_reserved.ensures.len, c.loop.invariant.1),
  c.push_reserved.ensures.capacity ∙ c.loop.invariant.2,
)

pub returns-clause-written : goal.returns-clause-written
returns-clause-written c = λ bytes. grind (arith, c.loop.invariant.0 bytes)
