use Rattle.std.proofs.Common.{[], ◌∷◌, ◌+◌, length, refl, sym, ap, append_assoc, arith}
use Rattle.see.specs.Parts.{token_in}
use Rattle.colon_bodies.specs.Tokens.{TEXT}
use Rattle.colon_bodies.specs.Tree.{Text, words}
use Rattle.see.specs.Seen.{frame_words}
use Rattle.see.specs.declared.parts.Part.TheVariants as part
use Rattle.see.proofs.Growing.{one_more}
use Rattle.see.proofs.find.take_text.Goals as goal

pub returns-clause-taken : goal.returns-clause-taken
returns-clause-taken c = λ bytes text at here n frames lies f g b d s e.
    let k = c.args.aborts in
    (refl, one_more (token_in bytes) at f f g b (Text b k text) d here (here + (3 + length text)) _ _ (part.Text k c.args.place c.args.length) (TEXT k text) n frames frames s tt (ap (TEXT k) lies) c.push_reserved.ensures.items (sym (append_assoc (frame_words f) (words b) (TEXT k text ∷ []))) s.frames_are (omega (arith, s.here_is)) (omega arith) e)
