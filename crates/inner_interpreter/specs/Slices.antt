-- A run in slices.
use Rattle.std.specs.Prelude.{ℕ}
use Rattle.inner_interpreter.specs.Runs.{World}

-- the same world, with so many ticks left
abbrev pub with_left : ℕ → World → World
with_left left w = record { state = w.state; typed = w.typed; disk = w.disk; shown = w.shown; left = left }
