use Rattle.std.proofs.Common.{◌-◌, ◌++◌, refl, arith}
use Rattle.see.specs.Parts.{token_in}
use Rattle.colon_bodies.specs.Tokens.{AGAIN, laid}
use Rattle.colon_bodies.specs.Tree.{Again, words}
use Rattle.see.specs.Seen.{frame_words}
use Rattle.colon_bodies.specs.declared.words.BodyWord.TheVariants as w
use Rattle.see.specs.declared.parts.Part.TheVariants as part
use Rattle.see.proofs.Growing.{again_cut, back_place, back_seen}
use Rattle.see.proofs.structures.take_again.Goals as goal

pub returns-then-not-count_begin-clause-taken : goal.returns-then-not-count_begin-clause-taken
returns-then-not-count_begin-clause-taken c = λ bytes frames within f g b d s e.
    let u = again_cut f g b d (c.args.here - c.args.to) e in
    let place = laid (frame_words f ++ words u.0) in
    let p = back_place c.args.at f b u.0 u.1 c.args.here c.args.to _ _ _ c.requires.back s u.2 in
    let r = c.count_begin.ensures.counted place p (omega arith) (omega (arith, s.few place)) in
    absurd (let z = c.if-not-count_begin.true in let y = r.0 in cc)

pub returns-clause-taken : goal.returns-clause-taken
returns-clause-taken c = λ bytes frames within f g b d s e.
    let u = again_cut f g b d (c.args.here - c.args.to) e in
    let place = laid (frame_words f ++ words u.0) in
    let p = back_place c.args.at f b u.0 u.1 c.args.here c.args.to _ _ _ c.requires.back s u.2 in
    let r = c.count_begin.ensures.counted place p (omega arith) (omega (arith, s.few place)) in
    (refl, back_seen (token_in bytes) c.args.at f g b d u.0 u.1 (Again u.0 u.1) c.args.here c.args.to _ _ (part.Word w.Again) AGAIN _ _ _ c.requires.back tt refl refl refl s within u.2 u.3 u.4 c.push_reserved.ensures.items r.1)
