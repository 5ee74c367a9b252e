-- Where a word was made.
use Rattle.std.specs.Prelude.{ℕ, List, Result, Ok, Err}
use Rattle.dictionary.specs.Header.{view_of}
use Rattle.dictionary.specs.Search.{Sought, Found, Nowhere, TooLong}
use Rattle.see.specs.declared.refusal.ViewRefused.{ViewRefused}
use Rattle.see.specs.declared.refusal.ViewRefused.TheVariants as r

-- the view cell of the header that a search came to, or why there is none
abbrev pub viewed : List ℕ → Sought → Result ℕ ViewRefused
viewed m (Found l) = Ok (view_of m l)
viewed m Nowhere = Err r.NotFound
viewed m TooLong = Err r.ChainTooLong
