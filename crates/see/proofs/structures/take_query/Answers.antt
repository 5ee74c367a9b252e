use Rattle.std.proofs.Common.{◌+◌, ◌++◌, refl, ◌∙◌, arith}
use Rattle.see.specs.Parts.{token_in}
use Rattle.colon_bodies.specs.Tokens.{UNTIL, laid}
use Rattle.colon_bodies.specs.Tree.{Until, words}
use Rattle.see.specs.Seen.{frame_words}
use Rattle.colon_bodies.specs.declared.words.BodyWord.TheVariants as w
use Rattle.see.specs.declared.parts.Part.TheVariants as part
use Rattle.see.proofs.Growing.{if_cut, until_cut, if_seen, back_place, back_seen}
use Rattle.see.proofs.structures.take_query.Goals as goal

pub returns-then-here-to-clause-taken : goal.returns-then-here-to-clause-taken
returns-then-here-to-clause-taken c = λ bytes within f g b d s e.
    (refl, if_seen (token_in bytes) c.args.at f g b d c.args.here c.args.to _ (c.args.here + 4) _ _ (part.Word w.If) _ _ _ refl s (c.len.ensures ∙ c.args.words.now.ok.0) refl c.push_reserved-then-here-to.ensures.items c.push_reserved.ensures.items (if_cut f g b d c.args.here c.args.to c.if-here-to.true e))

pub returns-then-not-count_begin-clause-taken : goal.returns-then-not-count_begin-clause-taken
returns-then-not-count_begin-clause-taken c = λ bytes within f g b d s e.
    let u = until_cut f g b d c.args.here c.args.to (omega arith) e in
    let place = laid (frame_words f ++ words u.0) in
    let p = back_place c.args.at f b u.0 u.1 c.args.here c.args.to _ _ _ (omega arith) s u.2 in
    let r = c.count_begin.ensures.counted place p (omega arith) (omega (arith, s.few place)) in
    absurd (let z = c.if-not-count_begin.true in let y = r.0 in cc)

pub returns-clause-taken : goal.returns-clause-taken
returns-clause-taken c = λ bytes within f g b d s e.
    let u = until_cut f g b d c.args.here c.args.to (omega arith) e in
    let place = laid (frame_words f ++ words u.0) in
    let p = back_place c.args.at f b u.0 u.1 c.args.here c.args.to _ _ _ (omega arith) s u.2 in
    let r = c.count_begin.ensures.counted place p (omega arith) (omega (arith, s.few place)) in
    (refl, back_seen (token_in bytes) c.args.at f g b d u.0 u.1 (Until u.0 u.1) c.args.here c.args.to _ _ (part.Word w.Until) UNTIL _ _ _ (omega arith) tt refl refl refl s within u.2 u.3 u.4 c.push_reserved-2.ensures.items r.1)
