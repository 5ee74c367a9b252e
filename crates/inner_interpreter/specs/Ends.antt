-- What a call of a reader or a writer does to the bytes that it says, and to its mark.
use Rattle.std.specs.Prelude.{◌≡◌, ℕ, Bool, true, List, [], ◌∷◌, Option, None, Some, Result, Ok, Err}
use Rattle.std.specs.Io.KnownBytes.{Consumes, Keeps, IsAtEnd}
use Rattle.inner_interpreter.specs.declared.ends.EndFault.{EndFault}

-- a byte is taken from the front, or no byte was left, or the call failed and took none
abbrev pub TakesByte : Option (List ℕ) → Option (List ℕ) → Result (Option ℕ) EndFault → Type 0
TakesByte old new (Ok (Some byte)) = Consumes old new (byte ∷ [])
TakesByte old new (Ok None) = IsAtEnd old × Keeps old new
TakesByte old new (Err _) = Keeps old new

-- a call that fails marks the end for good, and no other does
abbrev pub Marks : {T : Type 0} → Bool → Bool → Result T EndFault → Type 0
Marks old new (Ok _) = new ≡ old
Marks old new (Err _) = new ≡ true

-- a writer that takes `room` bytes in all: the bytes that it took, and whether a call has failed
pub record Taker : Type 0 where
  pub room : ℕ
  pub taken : List ℕ
  pub failed : Bool

-- what is left of one byte
abbrev pub left_of : Option ℕ → List ℕ
left_of None = []
left_of (Some byte) = byte ∷ []
