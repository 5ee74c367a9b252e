-- A definition that has been read in part: the structures that are still open, the innermost body, and what is half read.
use Rattle.std.specs.Prelude.{ℕ, Bool, true, false, ◌+◌, List, [], ◌∷◌, ◌++◌, max, Option, Some, None}
use Rattle.colon_bodies.specs.declared.words.Half.{Half}
use Rattle.colon_bodies.specs.declared.words.Half.TheVariants.{Free, Ticked, Forced, Compiling, Both}
use Rattle.colon_bodies.specs.Tokens.{Token, NAME, NUMBER, DOUBLE, TEXT, TICK, FORCE, COMPILE, IF, ELSE, THEN, BEGIN, UNTIL, AGAIN, WHILE, REPEAT, DO, LOOP, DOES}
use Rattle.colon_bodies.specs.Tree.{Body, Empty, Call, Tick, Pair, Literal, Double, Text, IfThen, IfElse, Until, Again, While, Loop, Definition, Simple, Doing, words, nesting}
use Rattle.memory.specs.declared.controls.Control.TheVariants as ctl
use Rattle.colon_bodies.specs.Code.{size, control_cell, code}
use Rattle.memory.specs.Bytes.{cell_bytes}

-- Each open structure is in the ones outside it, with the bodies that were read before.
pub data Outer : Type 0 where
  Top : Outer
  Past : Body → Outer
  InIf : Outer → Body → Outer
  InElse : Outer → Body → Body → Outer
  InBegin : Outer → Body → Outer
  InWhile : Outer → Body → Body → Outer
  InDo : Outer → Body → Outer

pub data State : Type 0 where
  At : Outer → Body → Half → State

abbrev pub outer_words : Outer → List Token
outer_words Top = []
outer_words (Past t) = words t ++ DOES ∷ []
outer_words (InIf o t) = outer_words o ++ (words t ++ IF ∷ [])
outer_words (InElse o t a) = outer_words o ++ (words t ++ (IF ∷ (words a ++ ELSE ∷ [])))
outer_words (InBegin o t) = outer_words o ++ (words t ++ BEGIN ∷ [])
outer_words (InWhile o t a) = outer_words o ++ (words t ++ (BEGIN ∷ (words a ++ WHILE ∷ [])))
outer_words (InDo o t) = outer_words o ++ (words t ++ DO ∷ [])

-- words with those of what is half read after them
abbrev pub half_words : Half → List Token → List Token
half_words Free ws = ws
half_words Ticked ws = ws ++ TICK ∷ []
half_words Forced ws = ws ++ FORCE ∷ []
half_words Compiling ws = ws ++ COMPILE ∷ []
half_words Both ws = ws ++ COMPILE ∷ FORCE ∷ []

-- all the words that were read
abbrev pub open_words : Outer → Body → Half → List Token
open_words o t h = half_words h (outer_words o ++ words t)

-- the body, if a name comes
abbrev pub complete : Half → Body → ℕ → Body
complete Free t w = Call t false w
complete Ticked t w = Tick t w
complete Forced t w = Call t true w
complete Compiling t w = Pair t false w
complete Both t w = Pair t true w

-- what one more word makes of it if nothing is half read; none if it doesn't fit
abbrev pub fit : Outer → Body → Token → Option State
fit o t FORCE = Some (At o t Forced)
fit o t TICK = Some (At o t Ticked)
fit o t COMPILE = Some (At o t Compiling)
fit o t (NUMBER n) = Some (At o (Literal t n) Free)
fit o t (DOUBLE n) = Some (At o (Double t n) Free)
fit o t (TEXT k bs) = Some (At o (Text t k bs) Free)
fit o t IF = Some (At (InIf o t) Empty Free)
fit o t BEGIN = Some (At (InBegin o t) Empty Free)
fit o t DO = Some (At (InDo o t) Empty Free)
fit Top t DOES = Some (At (Past t) Empty Free)
fit (InIf o t) a THEN = Some (At o (IfThen t a) Free)
fit (InIf o t) a ELSE = Some (At (InElse o t a) Empty Free)
fit (InElse o t a) b THEN = Some (At o (IfElse t a b) Free)
fit (InBegin o t) a UNTIL = Some (At o (Until t a) Free)
fit (InBegin o t) a AGAIN = Some (At o (Again t a) Free)
fit (InBegin o t) a WHILE = Some (At (InWhile o t a) Empty Free)
fit (InWhile o t a) b REPEAT = Some (At o (While t a b) Free)
fit (InDo o t) a (LOOP k) = Some (At o (Loop t a k) Free)
fit _ _ _ = None

-- what one more word makes of it
abbrev pub read : Outer → Body → Half → Token → Option State
read o t h (NAME w) = Some (At o (complete h t w) Free)
read o t Free w = fit o t w
read o t Compiling FORCE = Some (At o t Both)
read _ _ _ _ = None

-- the whole definition, if ; may come
abbrev pub whole : Outer → Body → Half → Option Definition
whole Top t Free = Some (Simple t)
whole (Past t) a Free = Some (Doing t a)
whole _ _ _ = None

-- whether a DOES> was read
abbrev pub past : Outer → Bool
past Top = false
past (Past t) = true
past (InIf o t) = past o
past (InElse o t a) = past o
past (InBegin o t) = past o
past (InWhile o t a) = past o
past (InDo o t) = past o

abbrev pub past_after : Bool → Token → Bool
past_after b DOES = true
past_after b _ = b

-- the structures that are open
abbrev pub frames : Outer → ℕ
frames Top = 0
frames (Past t) = 0
frames (InIf o t) = frames o + 1
frames (InElse o t a) = frames o + 1
frames (InBegin o t) = frames o + 1
frames (InWhile o t a) = frames o + 1
frames (InDo o t) = frames o + 1

abbrev pub outer_depth : Outer → ℕ
outer_depth Top = 0
outer_depth (Past t) = nesting t
outer_depth (InIf o t) = max (outer_depth o) (frames o + nesting t)
outer_depth (InElse o t a) = max (outer_depth o) (max (frames o + nesting t) (frames o + 1 + nesting a))
outer_depth (InBegin o t) = max (outer_depth o) (frames o + nesting t)
outer_depth (InWhile o t a) = max (outer_depth o) (max (frames o + nesting t) (frames o + 1 + nesting a))
outer_depth (InDo o t) = max (outer_depth o) (frames o + nesting t)

abbrev pub open_depth : Outer → Body → ℕ
open_depth o t = max (outer_depth o) (frames o + nesting t)

abbrev pub outer_size : Outer → ℕ
outer_size Top = 0
outer_size (Past t) = size t + 2
outer_size (InIf o t) = outer_size o + (size t + 4)
outer_size (InElse o t a) = outer_size o + (size t + (8 + size a))
outer_size (InBegin o t) = outer_size o + size t
outer_size (InWhile o t a) = outer_size o + (size t + (size a + 4))
outer_size (InDo o t) = outer_size o + (size t + 4)

abbrev pub half_size : Half → ℕ
half_size Free = 0
half_size Ticked = 2
half_size Forced = 0
half_size Compiling = 2
half_size Both = 2

abbrev pub open_size : Outer → Body → Half → ℕ
open_size o t h = outer_size o + size t + half_size h

-- the bytes written for the open structures, with 0 in each cell that waits for its address
abbrev pub outer_code : (ℕ → ℕ) → Outer → ℕ → List ℕ
outer_code rt Top at = []
outer_code rt (Past t) at = code rt t at ++ control_cell rt ctl.Does
outer_code rt (InIf o t) at =
    outer_code rt o at ++ (code rt t (at + outer_size o) ++ (control_cell rt ctl.ZeroBranch ++ cell_bytes 0))
outer_code rt (InElse o t a) at =
    let p = at + outer_size o + size t in
    outer_code rt o at ++ (code rt t (at + outer_size o) ++ (control_cell rt ctl.ZeroBranch ++ (cell_bytes (p + (8 + size a)) ++ (code rt a (p + 4) ++ (control_cell rt ctl.Branch ++ cell_bytes 0)))))
outer_code rt (InBegin o t) at =
    outer_code rt o at ++ code rt t (at + outer_size o)
outer_code rt (InWhile o t a) at =
    let p = at + outer_size o + size t in
    outer_code rt o at ++ (code rt t (at + outer_size o) ++ (code rt a p ++ (control_cell rt ctl.ZeroBranch ++ cell_bytes 0)))
outer_code rt (InDo o t) at =
    outer_code rt o at ++ (code rt t (at + outer_size o) ++ (control_cell rt ctl.Do ++ cell_bytes 0))

-- bytes with those of what is half read after them
abbrev pub half_code : (ℕ → ℕ) → Half → List ℕ → List ℕ
half_code rt Free bs = bs
half_code rt Ticked bs = bs ++ control_cell rt ctl.Literal
half_code rt Forced bs = bs
half_code rt Compiling bs = bs ++ control_cell rt ctl.Compile
half_code rt Both bs = bs ++ control_cell rt ctl.Compile

abbrev pub open_code : (ℕ → ℕ) → Outer → Body → Half → ℕ → List ℕ
open_code rt o t h at = half_code rt h (outer_code rt o at ++ code rt t (at + outer_size o))
