-- The words of a thread, whose texts are said by their places in it.
use Rattle.std.specs.Prelude.{ℕ, ◌+◌, List, take, drop, ◌≡◌, length}
use Rattle.colon_bodies.specs.Tokens.{Token, TEXT}
use Rattle.colon_bodies.specs.Draft.{token}
use Rattle.colon_bodies.specs.Instructions.{Instr, IText}
use Rattle.see.specs.declared.parts.Part.{Part}
use Rattle.see.specs.declared.parts.Part.TheVariants as p

-- a word of the thread of these bytes
abbrev pub token_in : List ℕ → Part → Token
token_in bytes (p.Word w) = token w
token_in bytes (p.Text k place n) = TEXT k (take n (drop place bytes))

-- the text of an instruction that is at a place in these bytes lies after the length there
abbrev pub LiesIn : List ℕ → (place : ℕ) → Instr → Type 0
LiesIn bytes place (IText k text) = take (length text) (drop (place + 3) bytes) ≡ text
LiesIn bytes place i = Unit {0}
