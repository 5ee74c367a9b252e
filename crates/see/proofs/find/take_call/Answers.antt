use Rattle.std.proofs.Common.{[], ◌∷◌, ◌+◌, refl, sym, append_assoc, arith}
use Rattle.see.specs.Parts.{token_in}
use Rattle.colon_bodies.specs.Tokens.{NAME}
use Rattle.colon_bodies.specs.Tree.{Call, words}
use Rattle.std.specs.Prelude.{false}
use Rattle.see.specs.Seen.{frame_words}
use Rattle.colon_bodies.specs.declared.words.BodyWord.TheVariants as w
use Rattle.see.specs.declared.parts.Part.TheVariants as part
use Rattle.see.proofs.Growing.{one_more}
use Rattle.see.proofs.find.take_call.Goals as goal

pub returns-clause-taken : goal.returns-clause-taken
returns-clause-taken c = λ bytes at here n frames f g b d s e.
    (refl, one_more (token_in bytes) at f f g b (Call b false c.args.w) d here (here + 2) _ _ (part.Word (w.Name c.args.w)) (NAME c.args.w) n frames frames s tt refl c.push_reserved.ensures.items (sym (append_assoc (frame_words f) (words b) (NAME c.args.w ∷ []))) s.frames_are (omega (arith, s.here_is)) (omega arith) e)
