use Rattle.std.proofs.Common.{ℕ, length, ◌-◌}
use Rattle.source_words.specs.Words.{screen_words}
use Rattle.image_builder.specs.ReadScreens.{Midway}
use Rattle.image_builder.proofs.reading.read_words.Given as goal

abbrev pub invariant-loop-word : goal.invariant-loop-word
invariant-loop-word l = (limit : ℕ) → Midway limit l.fn.mode (screen_words l.fn.mode l.screen l.text) l.fn.compilation l.compilation l.scanner

abbrev pub decreases-loop-word : goal.decreases-loop-word
decreases-loop-word l = length l.scanner.text.now - l.scanner.at
