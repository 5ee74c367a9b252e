-- The status with which a run ends.
use Rattle.std.specs.Prelude.{ℕ}
use Rattle.inner_interpreter.specs.declared.stop.Stop.{Stop}
use Rattle.inner_interpreter.specs.declared.stop.Stop.TheVariants as stop

-- 0 if the program ended, 3 a fault, 4 the limit, 5 an end that failed
abbrev pub status_of : Stop → ℕ
status_of stop.Bye = 0
status_of stop.InputEnded = 0
status_of (stop.Fault f) = 3
status_of stop.Limit = 4
status_of stop.InputFault = 5
status_of stop.OutputFault = 5
status_of stop.TraceFault = 5
