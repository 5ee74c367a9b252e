use Rattle.std.proofs.Common.{◌≡◌, ◌<◌, ◌++◌, ◌+◌, length, Some, refl, ap, ◌∙◌, min, arith}
use Rattle.see.specs.Parts.{token_in}
use Rattle.colon_bodies.specs.Tree.{words}
use Rattle.colon_bodies.specs.Code.{size}
use Rattle.colon_bodies.specs.Tokens.{laid}
use Rattle.see.specs.Places.{without_begins}
use Rattle.see.specs.Seen.{frame_words, frames_of, top_frame, beneath, start}
use Rattle.colon_bodies.specs.declared.words.BodyWord.TheVariants as w
use Rattle.see.specs.declared.parts.Part.TheVariants as part
use Rattle.see.specs.declared.structures.Frame.TheVariants as k
use Rattle.see.proofs.Growing.{repeat_cut, if_within, repeat_place, repeat_seen}
use Rattle.see.proofs.structures.take_repeat.Goals as goal

pub returns-then-index-len-clause-taken : goal.returns-then-index-len-clause-taken
returns-then-index-len-clause-taken c = λ bytes here f g b d s within room lt e.
    let r = repeat_cut f g b d here c.args.to e in
    let q = c.pop_frame.ensures.top c.args.at f s.frames_are in
    let top : top_frame c.args.at f ≡ Some (k.If (length (without_begins (frame_words r.outside ++ words r.test))) r.ends (start c.args.at r.outside + (size r.test + 4))) = ap (top_frame c.args.at) r.is in
    let i : c.in-Some-If.index ≡ length (without_begins (frame_words r.outside ++ words r.test)) = cc in
    absurd (omega (arith, if_within (token_in bytes) c.args.at f g b d here c.args.to c.in-Some-If.index c.args.words.now.items _ _ r s i, c.if-index-len.true, c.len.ensures, c.args.words.now.ok.0))

pub returns-else-not-count_begin-clause-taken : goal.returns-else-not-count_begin-clause-taken
returns-else-not-count_begin-clause-taken c = λ bytes here f g b d s within room lt e.
    let r = repeat_cut f g b d here c.args.to e in
    let q = c.pop_frame.ensures.top c.args.at f s.frames_are in
    let top : top_frame c.args.at f ≡ Some (k.If (length (without_begins (frame_words r.outside ++ words r.test))) r.ends (start c.args.at r.outside + (size r.test + 4))) = ap (top_frame c.args.at) r.is in
    let i : c.in-Some-If.index ≡ length (without_begins (frame_words r.outside ++ words r.test)) = cc in
    let st : c.in-Some-If.start ≡ start c.args.at r.outside + (size r.test + 4) = cc in
    let place = laid (frame_words r.outside ++ words r.front) in
    let p : c.min.result ≡ c.args.at + place = c.min.ensures ∙ ap (λ v. min c.args.to v) c.saturating_sub.ensures ∙ repeat_place c.args.at f g b d here c.args.to c.in-Some-If.start _ _ _ r s st in
    let under : place < length c.args.begins.now = omega (arith, p, c.min.ensures, s.here_is, lt, within) in
    let n = c.count_begin.ensures.counted place p under (omega (arith, s.few place, room)) in
    (refl, repeat_seen (token_in bytes) c.args.at f g b d here c.args.to c.in-Some-If.index place c.args.words.now.items _ _ (part.Word w.While) (part.Word w.Repeat) _ _ _ _ r refl refl s refl under i refl c.push_reserved.ensures.items n.1 (q.1 ∙ ap (λ h. frames_of c.args.at (beneath h)) r.is))

pub returns-then-not-count_begin-clause-taken : goal.returns-then-not-count_begin-clause-taken
returns-then-not-count_begin-clause-taken c = λ bytes here f g b d s within room lt e.
    let r = repeat_cut f g b d here c.args.to e in
    let q = c.pop_frame.ensures.top c.args.at f s.frames_are in
    let top : top_frame c.args.at f ≡ Some (k.If (length (without_begins (frame_words r.outside ++ words r.test))) r.ends (start c.args.at r.outside + (size r.test + 4))) = ap (top_frame c.args.at) r.is in
    let i : c.in-Some-If.index ≡ length (without_begins (frame_words r.outside ++ words r.test)) = cc in
    let st : c.in-Some-If.start ≡ start c.args.at r.outside + (size r.test + 4) = cc in
    let place = laid (frame_words r.outside ++ words r.front) in
    let p : c.min.result ≡ c.args.at + place = c.min.ensures ∙ ap (λ v. min c.args.to v) c.saturating_sub.ensures ∙ repeat_place c.args.at f g b d here c.args.to c.in-Some-If.start _ _ _ r s st in
    let under : place < length c.args.begins.now = omega (arith, p, c.min.ensures, s.here_is, lt, within) in
    let n = c.count_begin.ensures.counted place p under (omega (arith, s.few place, room)) in
    absurd (let z = c.if-not-count_begin.true in let y = n.0 in cc)
