use Rattle.memory.specs.Mirrored.{stored}
use Rattle.std.proofs.Common.{◌≡◌, ◌≤◌, ◌+◌, ◌*◌, ◌++◌, drop, map, length}
use Rattle.std.specs.Prelude.{vec_len, vec_capacity}
use Rattle.colon_bodies.specs.Tokens.{laid}
use Rattle.source_words.specs.Spaced.{spaced_behind}
use Rattle.see.specs.Parts.{token_in}
use Rattle.see.specs.Naming.{words_fault}
use Rattle.see.specs.ReadAgain.{AreCells}
use Rattle.see.specs.Printing.{all_printed}
use Rattle.see.proofs.printing.show_words.Given as goal

abbrev pub invariant-loop-word : goal.invariant-loop-word
invariant-loop-word l =
    (words_fault (stored l.memory) l.hidden (map (token_in l.bytes) (drop l.word-index l.words)) ≡ words_fault (stored l.memory) l.hidden (map (token_in l.bytes) l.words))
    × (AreCells (map (token_in l.bytes) (drop l.word-index l.words)) → AreCells (map (token_in l.bytes) l.words))
    × (l.out.items ++ spaced_behind (all_printed (stored l.memory) l.hidden (map (token_in l.bytes) (drop l.word-index l.words))) ≡ l.fn.out.items ++ spaced_behind (all_printed (stored l.memory) l.hidden (map (token_in l.bytes) l.words)))
    × (vec_len l.out + (42 * length (drop l.word-index l.words) + laid (map (token_in l.bytes) (drop l.word-index l.words))) ≤ vec_len l.fn.out + (42 * length l.words + laid (map (token_in l.bytes) l.words)))
    × (vec_capacity l.fn.out ≤ vec_capacity l.out) × (vec_capacity l.fn.name ≤ vec_capacity l.name)
