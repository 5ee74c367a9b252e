use Rattle.std.proofs.Common.{[], ◌∷◌, ◌++◌, ◌+◌, map, false, refl, sym, ap, ◌∙◌, append_assoc, arith}
use Rattle.see.specs.Parts.{token_in}
use Rattle.colon_bodies.specs.Tokens.{COMPILE, NAME}
use Rattle.colon_bodies.specs.Tree.{Pair, words}
use Rattle.see.specs.Seen.{frame_words}
use Rattle.colon_bodies.specs.declared.words.BodyWord.TheVariants as w
use Rattle.see.specs.declared.parts.Part.TheVariants as part
use Rattle.see.proofs.Sketching.{map_snoc}
use Rattle.see.proofs.Growing.{grown}
use Rattle.see.proofs.find.take_pair.Goals as goal

pub returns-clause-taken : goal.returns-clause-taken
returns-clause-taken c = λ bytes at here n frames f g b d s e.
    let old = c.args.words.now.items in
    let both = ap (map (token_in bytes)) c.push_reserved-2.ensures.items
    ∙ map_snoc (token_in bytes) _ (part.Word (w.Name c.args.w))
    ∙ ap (λ l. map (token_in bytes) l ++ NAME c.args.w ∷ []) c.push_reserved.ensures.items
    ∙ ap (λ l. l ++ NAME c.args.w ∷ []) (map_snoc (token_in bytes) old (part.Word w.Compile))
    ∙ append_assoc (map (token_in bytes) old) (COMPILE ∷ []) (NAME c.args.w ∷ []) in
    (refl, grown (token_in bytes) at f f g b (Pair b false c.args.w) d here (here + 4) old _ (COMPILE ∷ NAME c.args.w ∷ []) n frames frames s tt both (sym (append_assoc (frame_words f) (words b) (COMPILE ∷ NAME c.args.w ∷ []))) s.frames_are (omega (arith, s.here_is)) (omega arith) e)
