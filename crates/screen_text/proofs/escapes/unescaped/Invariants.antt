use Rattle.std.proofs.Common.{◌≡◌, drop, fold}
use Rattle.screen_text.specs.Escapes.{unescaped, with_character}
use Rattle.screen_text.proofs.escapes.unescaped.Given as goal

abbrev pub invariant-loop-character : goal.invariant-loop-character
invariant-loop-character l = fold with_character l.reading (drop l.character-index l.text) ≡ unescaped l.text
