-- What rows do that need nothing but memory and stacks.
use Rattle.std.specs.Prelude.{◌≡◌}
use Rattle.machine_parts.specs.Whole.{Whole}
use Rattle.machine_parts.specs.Row.{After}
use Rattle.machine_parts.specs.declared.parts.Outcome.TheVariants.{Fault, Abort, Ask}

-- a plain row asks nothing and leaves the buffers as they are; if it ends with a fault or with an abort, all is as it
-- was
abbrev pub IsPlain : Whole → After → Type 0
IsPlain s (t, Ask request) = ⊥
IsPlain s (t, Fault f) = t ≡ s
IsPlain s (t, Abort span) = t ≡ s
IsPlain s (t, _) = t.buffers ≡ s.buffers
