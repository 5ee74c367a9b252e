-- Rounds that fail.
use Rattle.std.specs.Prelude.{Bool, true, false, Result, Err}
use Rattle.inner_interpreter.specs.declared.rounds.Failed.{Failed}
use Rattle.inner_interpreter.specs.declared.rounds.Failed.TheVariants.{Writer}

-- all that was shown was sent, unless the writer failed
abbrev pub sends_all : Result Unit Failed → Bool
sends_all (Err Writer) = false
sends_all _ = true
