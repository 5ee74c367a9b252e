use Rattle.std.proofs.Common.{[], ◌∷◌, ◌+◌, refl, sym, append_assoc, arith}
use Rattle.see.specs.Parts.{token_in}
use Rattle.colon_bodies.specs.Tokens.{NUMBER}
use Rattle.colon_bodies.specs.Tree.{Literal, words}
use Rattle.see.specs.Seen.{frame_words}
use Rattle.colon_bodies.specs.declared.words.BodyWord.TheVariants as w
use Rattle.see.specs.declared.parts.Part.TheVariants as part
use Rattle.see.proofs.Growing.{one_more}
use Rattle.see.proofs.find.take_number.Goals as goal

pub returns-clause-taken : goal.returns-clause-taken
returns-clause-taken c = λ bytes at here n frames f g b d s e.
    (refl, one_more (token_in bytes) at f f g b (Literal b c.args.n) d here (here + 4) _ _ (part.Word (w.Number c.args.n)) (NUMBER c.args.n) n frames frames s tt refl c.push_reserved.ensures.items (sym (append_assoc (frame_words f) (words b) (NUMBER c.args.n ∷ []))) s.frames_are (omega (arith, s.here_is)) (omega arith) e)
