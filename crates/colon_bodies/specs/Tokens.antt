-- Words of a body, looked up, and what each writes.
use Rattle.std.specs.Prelude.{ℕ, Bool, false, if◌then◌else◌, nat_lt, ◌+◌, List, [], ◌∷◌, length, ◌<◌, Option, Some, None}
use Rattle.memory.specs.Controls.{number_of}
use Rattle.memory.specs.declared.controls.Control.TheVariants as ctl

-- a word of a body, looked up
pub data Token : Type 0 where
  NAME : (w : ℕ) → Token
  NUMBER : (n : ℕ) → Token
  DOUBLE : (n : ℕ) → Token
  TICK : Token
  FORCE : Token
  COMPILE : Token
  IF : Token
  ELSE : Token
  THEN : Token
  BEGIN : Token
  UNTIL : Token
  AGAIN : Token
  WHILE : Token
  REPEAT : Token
  DO : Token
  LOOP : (plus : Bool) → Token
  TEXT : (aborts : Bool) → (bytes : List ℕ) → Token
  DOES : Token
  SEMI : Token

-- the controls that show a text or abort with it, and that end a loop
abbrev pub text_control : (aborts : Bool) → ℕ
text_control aborts = number_of (if aborts then ctl.AbortText else ctl.ShowText)

abbrev pub loop_control : (plus : Bool) → ℕ
loop_control plus = number_of (if plus then ctl.PlusLoop else ctl.Loop)

-- the control primitive that a word writes
abbrev pub control_written : Token → Option ℕ
control_written (NUMBER n) = Some (number_of ctl.Literal)
control_written (DOUBLE n) = Some (number_of ctl.Literal)
control_written TICK = Some (number_of ctl.Literal)
control_written COMPILE = Some (number_of ctl.Compile)
control_written IF = Some (number_of ctl.ZeroBranch)
control_written ELSE = Some (number_of ctl.Branch)
control_written UNTIL = Some (number_of ctl.ZeroBranch)
control_written AGAIN = Some (number_of ctl.Branch)
control_written WHILE = Some (number_of ctl.ZeroBranch)
control_written REPEAT = Some (number_of ctl.Branch)
control_written DO = Some (number_of ctl.Do)
control_written (LOOP k) = Some (loop_control k)
control_written (TEXT k bs) = Some (text_control k)
control_written DOES = Some (number_of ctl.Does)
control_written SEMI = Some (number_of ctl.Exit)
control_written _ = None

-- how many bytes each word writes, wherever it is: those below, and otherwise a control's cell and one cell after it
abbrev pub laid_by : Token → ℕ
laid_by (NAME w) = 2
laid_by (DOUBLE n) = 8
laid_by TICK = 2
laid_by FORCE = 0
laid_by COMPILE = 2
laid_by THEN = 0
laid_by BEGIN = 0
laid_by (TEXT k bs) = 3 + length bs
laid_by DOES = 2
laid_by SEMI = 2
laid_by _ = 4

abbrev pub laid : List Token → ℕ
laid [] = 0
laid (w ∷ ws) = laid_by w + laid ws

-- a text has at most 255 bytes
abbrev pub IsShort : Token → Type 0
IsShort (TEXT k bs) = length bs < 256
IsShort _ = Unit {0}

abbrev pub is_long : Token → Bool
is_long (TEXT k bs) = nat_lt 255 (length bs)
is_long _ = false

abbrev pub AreShort : List Token → Type 0
AreShort [] = Unit {0}
AreShort (w ∷ ws) = IsShort w × AreShort ws
