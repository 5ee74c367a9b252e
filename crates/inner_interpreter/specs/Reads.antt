-- What a reader gave for the requests that were answered.
use Rattle.std.specs.Prelude.{◌≡◌, ◌⊎◌, ℕ, Bool, true, false, List, [], ◌∷◌, ◌++◌, Option, Some, None, Result, Ok, Err, map, length}
use Rattle.std.specs.List.{list_all}
use Rattle.machine_parts.specs.declared.parts.Request.{Request}
use Rattle.machine_parts.specs.declared.parts.Request.TheVariants as request
use Rattle.machine.specs.Answer.{Reply, Key, Line, InputEnd, InputFault, is_return, is_typed}
use Rattle.inner_interpreter.specs.declared.ends.EndFault.{EndFault}

-- a call that succeeds joins what the reader gave: a byte, or the end; no other does
abbrev pub Gives : List (Option ℕ) → List (Option ℕ) → Result (Option ℕ) EndFault → Type 0
Gives old new (Ok given) = new ≡ old ++ given ∷ []
Gives old new (Err _) = new ≡ old

-- these bytes, one after another
abbrev pub as_given : List ℕ → List (Option ℕ)
as_given bytes = map (λ b. Some b) bytes

-- of a line of at most n bytes: its bytes and the return that ended it; or its bytes, and the end if they are fewer
abbrev pub IsLineGiven : ℕ → List ℕ → Bool → List (Option ℕ) → Type 0
IsLineGiven n bytes true given = (c : ℕ) × (is_return c ≡ true) × (given ≡ as_given bytes ++ Some c ∷ [])
IsLineGiven n bytes false given = ((length bytes ≡ n) × (given ≡ as_given bytes)) ⊎ (given ≡ as_given bytes ++ None ∷ [])

-- some bytes of a line, and then the reader failed
abbrev pub IsLineBegun : List (Option ℕ) → Type 0
IsLineBegun given = (bytes : List ℕ) × (list_all is_typed bytes ≡ true) × (given ≡ as_given bytes)

-- what the reader gave for the answer to a request
abbrev pub IsGiven : Option Request → Reply → List (Option ℕ) → Type 0
IsGiven (Some request.Key) (Key c) given = given ≡ Some c ∷ []
IsGiven (Some request.Key) InputEnd given = given ≡ None ∷ []
IsGiven (Some (request.Line n)) (Line bytes returned) given = IsLineGiven n bytes returned given
IsGiven (Some (request.Line n)) InputEnd given = IsLineGiven n [] false given
IsGiven (Some (request.Line n)) InputFault given = IsLineBegun given
IsGiven _ _ given = given ≡ []
