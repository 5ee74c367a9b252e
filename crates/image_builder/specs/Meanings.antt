-- What a word means where it is.
use Rattle.memory.specs.Controls.{number_of}
use Rattle.memory.specs.declared.controls.Control.TheVariants as ctl
use Rattle.memory.specs.declared.system.TheConstants.{FORTH_VOC}
use Rattle.std.specs.Prelude.{ℕ, Bool, false, nat_le, cond, ◌||◌, ◌&&◌, List, [], ◌∷◌, Option, Some, None, Result, Ok, Err, codes}
use Rattle.std.specs.Str.{bytes_eq}
use Rattle.colon_bodies.specs.Tokens.{Token, NAME}
use Rattle.colon_bodies.specs.Meaning.{Sense, by_spelling, keyword_first}
use Rattle.colon_bodies.specs.declared.words.Half.{Half}
use Rattle.image_builder.specs.Places.{Place}
use Rattle.image_builder.specs.Names.{Name, address, found}
use Rattle.image_builder.specs.Items.{Items, current, names, record_of}
use Rattle.image_builder.specs.declared.entry.Sign.{Sign}
use Rattle.image_builder.specs.declared.cause.Cause.{Cause}
use Rattle.colon_bodies.specs.Meaning as body
use Rattle.colon_bodies.specs.Rules as rules
use Rattle.image_builder.specs.declared.entry.Sign.TheVariants as g
use Rattle.image_builder.specs.declared.cause.Cause.TheVariants as c

-- what a word's name stands for after these items
abbrev pub look : Items → Place → Option Name
look t p = found (current t) p.name (names t)

-- the record of the vocabulary that a name stands for
abbrev pub if_record : Sign → ℕ → Option ℕ
if_record g.Record v = Some v
if_record _ v = None

abbrev pub record_if : Option Name → Option ℕ
record_if None = None
record_if (Some n) = if_record n.sign (record_of n)

abbrev pub record_named : Items → Place → Option ℕ
record_named t p = cond (bytes_eq p.name (codes "FORTH")) (Some FORTH_VOC) (record_if (look t p))

-- the controls that only a keyword or a number writes: from (LIT) to (+LOOP), and from (.") to (DOES>)
abbrev pub is_inner : Sign → Bool
is_inner (g.Control n) = (nat_le (number_of ctl.Literal) n && nat_le n (number_of ctl.PlusLoop)) || (nat_le (number_of ctl.ShowText) n && nat_le n (number_of ctl.Does))
is_inner _ = false

-- a name that can't come after what is half read
abbrev pub is_name_barred : Half → Name → Bool
is_name_barred h n = body.is_barred h (is_inner n.sign) n.immediate

-- what a word is in a body that isn't a name's
abbrev pub unnamed : Sense → Result Token Cause
unnamed s = by_spelling (λ w. Ok w) (Err c.Misplaced) (Err c.Unknown) s

abbrev pub name_first : Half → Option Name → Sense → Result Token Cause
name_first h (Some n) s = cond (is_name_barred h n) (Err c.Misplaced) (Ok (NAME (address n)))
name_first h None s = unnamed s

-- after ['] and [COMPILE] a word is a name first, elsewhere a keyword
abbrev pub sense_of : Half → Option Name → Sense → Result Token Cause
sense_of h n s = keyword_first (λ w. Ok w) h s (name_first h n s)

-- what a word is in a body, after what is half read
abbrev pub meaning : Half → Items → Place → Result Token Cause
meaning h t p = sense_of h (look t p) p.inner

-- what words are in a body, each after what those before it leave half read
abbrev pub half_past : Half → Result Token Cause → Half
half_past h (Ok w) = rules.half_after h w
half_past h (Err e) = h

abbrev pub meanings : Half → Items → List Place → List (Result Token Cause)
meanings h t [] = []
meanings h t (p ∷ ps) = meaning h t p ∷ meanings (half_past h (meaning h t p)) t ps
