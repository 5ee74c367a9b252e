-- What the compiler keeps while it reads, and what each of its steps does.
use Rattle.std.specs.Prelude.{◌≡◌, ◌≢◌, Bool, true, false, ℕ, ◌+◌, ◌≤◌, List, [], ◌∷◌, ◌++◌, ◌⊎◌, length, Option, Some, None, Result, Ok, Err, vec_capacity}
use Rattle.colon_bodies.specs.declared.words.BodyWord.{BodyWord}
use Rattle.colon_bodies.specs.declared.words.BodyWord.TheVariants as w
use Rattle.colon_bodies.specs.declared.words.Half.{Half}
use Rattle.colon_bodies.specs.declared.words.Half.TheVariants.{Free}
use Rattle.colon_bodies.specs.declared.draft.Mark.{Mark}
use Rattle.colon_bodies.specs.declared.draft.Mark.TheVariants as m
use Rattle.colon_bodies.specs.declared.draft.Draft.{Draft}
use Rattle.colon_bodies.specs.declared.fault.BodyCause.{BodyCause}
use Rattle.colon_bodies.specs.declared.fault.BodyCause.TheVariants as r
use Rattle.colon_bodies.specs.Tokens.{Token, NAME, NUMBER, DOUBLE, TEXT, TICK, FORCE, COMPILE, IF, ELSE, THEN, BEGIN, UNTIL, AGAIN, WHILE, REPEAT, DO, LOOP, DOES, SEMI, IsShort, AreShort, laid_by}
use Rattle.colon_bodies.specs.Tree.{Body, Definition}
use Rattle.colon_bodies.specs.Code.{size, whole_code}
use Rattle.memory.specs.Bytes.{cell_bytes}
use Rattle.memory.specs.Controls.{number_of}
use Rattle.memory.specs.declared.controls.Control.{Control}
use Rattle.colon_bodies.specs.Rules.{IsKnown, AreKnown, suits}
use Rattle.colon_bodies.specs.Faults.{body_cause, IsGood}
use Rattle.colon_bodies.specs.Open.{Outer, Top, Past, InIf, InElse, InBegin, InWhile, InDo, State, At, outer_size, open_code, open_words, open_depth, past, whole, read}

-- a word without where its text is in memory
abbrev pub token : BodyWord → Token
token (w.Name a) = NAME a
token (w.Number n) = NUMBER n
token (w.Double n) = DOUBLE n
token (w.Text k t) = TEXT k t.now
token w.Tick = TICK
token w.Force = FORCE
token w.Compile = COMPILE
token w.If = IF
token w.Else = ELSE
token w.Then = THEN
token w.Begin = BEGIN
token w.Until = UNTIL
token w.Again = AGAIN
token w.While = WHILE
token w.Repeat = REPEAT
token w.Do = DO
token (w.Loop k) = LOOP k
token w.Does = DOES
token w.Semicolon = SEMI

-- the compiler's mark for each open structure
abbrev pub marks_of : ℕ → Outer → List Mark
marks_of at Top = []
marks_of at (Past t) = []
marks_of at (InIf o t) = marks_of at o ++ m.If (outer_size o + size t + 2) ∷ []
marks_of at (InElse o t a) = marks_of at o ++ m.Else (outer_size o + size t + (4 + size a) + 2) ∷ []
marks_of at (InBegin o t) = marks_of at o ++ m.Begin (at + (outer_size o + size t)) ∷ []
marks_of at (InWhile o t a) = marks_of at o ++ m.While (at + (outer_size o + size t)) (outer_size o + size t + size a + 2) ∷ []
marks_of at (InDo o t) = marks_of at o ++ m.Do (outer_size o + size t + 2) ∷ []

-- nothing is drafted
abbrev pub IsBlank : Draft → Type 0
IsBlank d = (d.image.items ≡ []) × (d.marks.items ≡ []) × (d.half ≡ Free) × (d.is_past ≡ false)

-- it has the room that the other had, or more
abbrev pub KeepsRoom : Draft → Draft → Type 0
KeepsRoom old new = (vec_capacity old.image ≤ vec_capacity new.image) × (vec_capacity old.marks ≤ vec_capacity new.marks)

-- the bytes and the marks are those of the words that were read
pub record Drafted (rt : ℕ → ℕ) (at : ℕ) (o : Outer) (t : Body) (h : Half) (image : List ℕ) (marks : List Mark) : Type 0 where
  pub bytes : image ≡ open_code rt o t h at
  pub marked : marks ≡ marks_of at o

-- so is all of a draft
pub record Drafts (rt : ℕ → ℕ) (at : ℕ) (o : Outer) (t : Body) (h : Half) (d : Draft) : Type 0 where
  pub is : Drafted rt at o t h d.image.items d.marks.items
  pub half_is : d.half ≡ h
  pub past_is : d.is_past ≡ past o

-- what a step leaves, by what the word makes of the words that were read
abbrev pub After : (ℕ → ℕ) → ℕ → Option State → Result (Unit {0}) BodyCause → List ℕ → List Mark → Type 0
After rt at None (Ok u) image marks = ⊥
After rt at None (Err e) image marks = e ≡ r.Unbalanced
After rt at (Some (At o t h)) (Ok u) image marks = Drafted rt at o t h image marks
After rt at (Some (At o t h)) (Err e) image marks = e ≡ r.Memory

-- the runtime cell of a control has this address
abbrev pub Calls : (ℕ → ℕ) → Control → ℕ → Type 0
Calls rt control w = rt (number_of control) ≡ w

-- what a step makes of the bytes and the marks, if they are those of the words that were read
abbrev pub Steps : (ℕ → ℕ) → ℕ → Outer → Body → Half → Token → List ℕ → List Mark → Result (Unit {0}) BodyCause → List ℕ → List Mark → Type 0
Steps rt at o t h w image marks result written kept = Drafted rt at o t h image marks → After rt at (read o t h w) result written kept

-- a word that suits what is half read takes such a step, whatever was read before, and leaves the marks
abbrev pub Completes : Token → List ℕ → Result (Unit {0}) BodyCause → List ℕ → Type 0
Completes w image result written =
    (rt : ℕ → ℕ) (at : ℕ) (o : Outer) (t : Body) (h : Half) (marks : List Mark) → h ≢ Free → suits h w ≡ true
    → Steps rt at o t h w image marks result written marks

-- a word that suits what is half read does so to a draft, whatever words are in it
abbrev pub Lays : (rt : ℕ → ℕ) → (at : ℕ) → Token → Draft → Result (Unit {0}) BodyCause → Draft → Type 0
Lays rt at w old result new =
    (o : Outer) (t : Body) (h : Half) → suits h w ≡ true → Drafts rt at o t h old
    → After rt at (read o t h w) result new.image.items new.marks.items

-- the mark of the innermost open structure, and the structures outside it
abbrev pub top_mark : ℕ → Outer → Option Mark
top_mark at Top = None
top_mark at (Past t) = None
top_mark at (InIf o t) = Some (m.If (outer_size o + size t + 2))
top_mark at (InElse o t a) = Some (m.Else (outer_size o + size t + (4 + size a) + 2))
top_mark at (InBegin o t) = Some (m.Begin (at + (outer_size o + size t)))
top_mark at (InWhile o t a) = Some (m.While (at + (outer_size o + size t)) (outer_size o + size t + size a + 2))
top_mark at (InDo o t) = Some (m.Do (outer_size o + size t + 2))

abbrev pub outside : Outer → Outer
outside Top = Top
outside (Past t) = Past t
outside (InIf o t) = o
outside (InElse o t a) = o
outside (InBegin o t) = o
outside (InWhile o t a) = o
outside (InDo o t) = o

-- some words were read of which these are the bytes and the marks
pub record Drafting (at : ℕ) (image : List ℕ) (marks : List Mark) : Type 0 where
  pub rt : ℕ → ℕ
  pub outer : Outer
  pub body : Body
  pub half : Half
  pub is : Drafted rt at outer body half image marks

-- one cell of a list of bytes is written over
abbrev pub Patches : List ℕ → List ℕ → ℕ → ℕ → Type 0
Patches old new place x =
    (front back : List ℕ) (y : ℕ) → old ≡ front ++ (cell_bytes y ++ back) → length front ≡ place → new ≡ front ++ (cell_bytes x ++ back)

-- one more word was taken
pub record Goes (rt : ℕ → ℕ) (at limit : ℕ) (o : Outer) (t : Body) (h : Half) (w : Token) (d : Draft) : Type 0 where
  pub outer : Outer
  pub body : Body
  pub half : Half
  pub reads : read o t h w ≡ Some (At outer body half)
  pub is : Drafts rt at outer body half d
  pub shallow : open_depth outer body ≤ 64
  pub known : IsKnown rt w
  pub short : IsShort w
  pub room : at + length d.image.items ≤ limit

-- what comes of one more word
abbrev pub Taken : (ℕ → ℕ) → ℕ → ℕ → Outer → Body → Half → Token → Result (Unit {0}) BodyCause → Draft → Type 0
Taken rt at limit o t h w (Ok u) d = Goes rt at limit o t h w d
Taken rt at limit o t h w (Err e) d = (e ≡ r.Memory) ⊎ (body_cause rt at limit (open_words o t h) w ≡ Some e)

-- a word that opens a structure
abbrev pub opener : Token → Bool
opener IF = true
opener BEGIN = true
opener DO = true
opener _ = false

-- if the bytes of a word fit into a room of so many, and, if it opens a structure, its mark fits, this holds
abbrev pub WithRoom : Token → (bytes capacity : ℕ) → (Fits : Type 0) → Type 0 → Type 0
WithRoom w bytes capacity Fits Holds = bytes + laid_by w ≤ capacity → (opener w ≡ true → Fits) → Holds

-- what ; makes of a draft
pub record Finishes (rt : ℕ → ℕ) (at limit : ℕ) (o : Outer) (t : Body) (h : Half) (image : List ℕ) : Type 0 where
  pub body : Definition
  pub is : whole o t h ≡ Some body
  pub bytes : image ≡ whole_code rt body at
  pub known : IsKnown rt SEMI
  pub room : at + length image ≤ limit

-- what comes of a draft's ;
abbrev pub Ended : (ℕ → ℕ) → ℕ → ℕ → Outer → Body → Half → Result (Unit {0}) BodyCause → List ℕ → Type 0
Ended rt at limit o t h (Ok u) image = Finishes rt at limit o t h image
Ended rt at limit o t h (Err e) image = (e ≡ r.Memory) ⊎ (body_cause rt at limit (open_words o t h) SEMI ≡ Some e)

-- how far a source was read
pub record Progress (rt : ℕ → ℕ) (at limit : ℕ) (done : List Token) (d : Draft) : Type 0 where
  pub outer : Outer
  pub body : Body
  pub half : Half
  pub front : done ≡ open_words outer body half
  pub is : Drafts rt at outer body half d
  pub shallow : open_depth outer body ≤ 64
  pub known : AreKnown rt done
  pub short : AreShort done
  pub room : at + length d.image.items ≤ limit

-- what a source compiles to
pub record Compiled (rt : ℕ → ℕ) (at limit : ℕ) (source : List Token) (image : List ℕ) (used : ℕ) : Type 0 where
  pub body : Definition
  pub good : IsGood rt at limit source body used
  pub is : image ≡ whole_code rt body at

-- how far a word writes before it needs the address after what it has written
abbrev pub jump_by : Token → ℕ
jump_by ELSE = 4
jump_by REPEAT = 4
jump_by (LOOP k) = 4
jump_by _ = 0
