use Rattle.std.proofs.Common.{◌≡◌, ◌<◌, ◌+◌, ◌-◌, length, map, drop, [], ◌∷◌, refl, sym, ap, ◌∙◌, arith}
use Rattle.std.specs.List.{sum}
use Rattle.std.specs.Prelude.{slice_index}
use Rattle.std.proofs.lemmas.List.{length-replicate}
use Rattle.colon_bodies.specs.Tokens.{SEMI}
use Rattle.colon_bodies.specs.Tree.{all_words}
use Rattle.colon_bodies.specs.Instructions.{len}
use Rattle.see.specs.Apart.{instr}
use Rattle.see.specs.Parts.{token_in}
use Rattle.see.specs.declared.parts.Part.TheVariants as part
use Rattle.colon_bodies.specs.declared.words.BodyWord.TheVariants as w
use Rattle.colon_bodies.proofs.Taking.{false_test}
use Rattle.see.proofs.Sketching.{map_snoc, led_definition}
use Rattle.see.proofs.Growing.{sketch_more}
use Rattle.see.proofs.Turning.{some_length, some_bytes, going_start, walk_end, walk_on, done_words}
use Rattle.see.proofs.Rooms.{sum_none}
use Rattle.see.proofs.Offs.{rest_at, lies_at}
use Rattle.see.proofs.find.sketch.Goals as goal

pub loop-next-init : goal.loop-next-init
loop-next-init c =
    let n = c.requires.none in
    let z : c.args.at - c.args.at ≡ 0 = omega arith in (
      refl,
      sym (ap (λ k. drop k c.args.bytes.now) z),
      ap length n.2 ∙ length-replicate (length c.args.bytes.now) 0,
      refl,
      refl,
      omega (arith, ap length n.0, ap length n.1, c.args.words.now.ok.0, c.args.frames.now.ok.0, ap sum n.2, sum_none (length c.args.bytes.now)),
      λ t e. going_start (slice_index c.args.runtime.now) t c.args.bytes.now c.args.at (length c.args.bytes.now) _ _ _ (ap (map (token_in c.args.bytes.now)) n.0) n.2 n.1 e,
    )

pub returns-then-is_nothing-clause-found : goal.returns-then-is_nothing-clause-found
returns-then-is_nothing-clause-found c = λ t e.
    let tok = token_in c.args.bytes.now in
    let i = c.loop-next.invariant.6 t e in
    let x = walk_end (slice_index c.args.runtime.now) t _ i.frame i.body c.loop-next.here (instr c.in-Some.next.first) _ i.walk (sym c.in-Some.ensures.is) (c.is_nothing.ensures.0 c.if-is_nothing.true) in
    let s = c.close_here.ensures.closed c.args.bytes.now c.args.at _ i.frame x.frame i.body x.body i.is x.shuts in
    let d = done_words c.args.at t x.frame x.body c.loop-next.here _ _ _ s x.ends in
    (refl, sketch_more tok (all_words t) (SEMI ∷ []) _ _ _ d.0 tt (ap (map tok) c.push_reserved.ensures.items ∙ map_snoc tok _ (part.Word w.Semicolon)), led_definition t d.1)

pub returns-then-not-take-clause-found : goal.returns-then-not-take-clause-found
returns-then-not-take-clause-found c = λ t e.
    let i = c.loop-next.invariant.6 t e in
    let x = walk_on (slice_index c.args.runtime.now) t _ i.frame i.body c.loop-next.here (instr c.in-Some.next.first) _ i.walk (sym c.in-Some.ensures.is) (some_length _ (false_test _ _ c.is_nothing.ensures c.if-is_nothing.false)) in
    let s = c.close_here.ensures.closed c.args.bytes.now c.args.at _ i.frame x.frame i.body x.body i.is x.shuts in
    let within : c.loop-next.here < c.args.at + length c.loop-next.begins = omega (arith, c.loop-next.invariant.0, c.loop-next.invariant.2, c.in-Some.ensures.lengths, some_bytes (instr c.in-Some.next.first)) in
    let lies = lies_at (slice_index c.args.runtime.now) c.args.bytes.now _ _ (c.loop-next.here - c.args.at) (instr c.in-Some.next.first) c.loop-next.invariant.1 (sym c.in-Some.ensures.is) in
    let y = c.take.ensures.taken c.args.bytes.now within lies x.frame x.next_frame x.body x.next_body s x.steps in
    absurd (let z = c.if-not-take.true in let o = y.0 in cc)

pub loop-next-preserved : goal.loop-next-preserved
loop-next-preserved c =
    let b = c.bytes_of-here.ensures in
    let l = c.in-Some.ensures.lengths in
    let v = c.loop-next.invariant in
    let first = instr c.in-Some.next.first in
    let next : c.loop-next.here + c.bytes_of-here.result - c.args.at ≡ c.loop-next.here - c.args.at + len first = omega (arith, b, v.0, l) in (
      omega (arith, v.0, l, b),
      rest_at (slice_index c.args.runtime.now) c.args.bytes.now _ _ (c.loop-next.here - c.args.at) first v.1 (sym c.in-Some.ensures.is) ∙ ap (λ n. drop n c.args.bytes.now) (sym next),
      c.take.auto.begins ∙ v.2,
      c.take.ensures.words ∙ c.close_here.ensures.words ∙ v.3,
      c.take.ensures.frames ∙ c.close_here.ensures.frames ∙ v.4,
      omega (arith, c.take.ensures.few, c.close_here.ensures.few, l, v.5),
      λ t e.
          let i = v.6 t e in
          let x = walk_on (slice_index c.args.runtime.now) t _ i.frame i.body c.loop-next.here first _ i.walk (sym c.in-Some.ensures.is) (some_length _ (false_test _ _ c.is_nothing.ensures c.if-is_nothing.false)) in
          let s = c.close_here.ensures.closed c.args.bytes.now c.args.at _ i.frame x.frame i.body x.body i.is x.shuts in
          let within : c.loop-next.here < c.args.at + length c.loop-next.begins = omega (arith, v.0, v.2, l, some_bytes first) in
          let lies = lies_at (slice_index c.args.runtime.now) c.args.bytes.now _ _ (c.loop-next.here - c.args.at) first v.1 (sym c.in-Some.ensures.is) in
          let y = c.take.ensures.taken c.args.bytes.now within lies x.frame x.next_frame x.body x.next_body s x.steps in
          rw b (record { frame = x.next_frame; body = x.next_body; walk = x.walk; is = y.1 }),
    )
