-- What a call of a reader gave, as it is noted.
use Rattle.std.specs.Prelude.{ℕ, Option, Some, None}
use Rattle.inner_interpreter.specs.declared.read_log.Given.{Given}
use Rattle.inner_interpreter.specs.declared.read_log.Given.TheVariants as given

abbrev pub given_by : Given → Option ℕ
given_by (given.Byte byte) = Some byte
given_by given.End = None
