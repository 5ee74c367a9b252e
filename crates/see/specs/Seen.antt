-- What the decompiler keeps while it reads.
use Rattle.std.specs.Prelude.{◌≡◌, Bool, true, ℕ, ◌+◌, ◌-◌, ◌^◌, ◌<◌, ◌≤◌, List, [], ◌∷◌, ◌++◌, length, map, take, drop, Option, Some, None, slice_index}
use Rattle.see.specs.declared.parts.Part.{Part}
use Rattle.see.specs.declared.structures.Frame.{Frame}
use Rattle.see.specs.declared.structures.Frame.TheVariants as k
use Rattle.colon_bodies.specs.Tokens.{Token, IF, ELSE, DO, DOES}
use Rattle.colon_bodies.specs.Tree.{Body, words}
use Rattle.colon_bodies.specs.Code.{size}
use Rattle.colon_bodies.specs.Instructions.{IText, Instr, len}
use Rattle.colon_bodies.specs.Structures.{Frames, Shape, In, again_at, repeat_at, shut, split, step, FTop, FPast, FIf, FElse, FDo}
use Rattle.see.specs.Places.{without_begins, IsSketch, AreUnforced}
use Rattle.see.specs.Parts.{LiesIn, token_in}

-- the words of the open structures; no BEGIN is among them
abbrev pub frame_words : Frames → List Token
frame_words FTop = []
frame_words (FPast t) = words t ++ DOES ∷ []
frame_words (FIf f t to) = frame_words f ++ (words t ++ IF ∷ [])
frame_words (FElse f t a to) = frame_words f ++ (words t ++ (IF ∷ (words a ++ ELSE ∷ [])))
frame_words (FDo f t) = frame_words f ++ (words t ++ DO ∷ [])

-- where the innermost body begins
abbrev pub start : ℕ → Frames → ℕ
start at FTop = at
start at (FPast t) = at + (size t + 2)
start at (FIf f t to) = start at f + (size t + 4)
start at (FElse f t a to) = start at f + (size t + (8 + size a))
start at (FDo f t) = start at f + (size t + 4)

abbrev pub frames_of : ℕ → Frames → List Frame
frames_of at FTop = []
frames_of at (FPast t) = k.Past (at + (size t + 2)) ∷ []
frames_of at (FIf f t to) = frames_of at f ++ k.If (length (without_begins (frame_words f ++ words t))) to (start at f + (size t + 4)) ∷ []
frames_of at (FElse f t a to) = frames_of at f ++ k.Else to (start at f + (size t + (8 + size a))) ∷ []
frames_of at (FDo f t) = frames_of at f ++ k.Do (start at f + (size t + 4)) ∷ []

-- the words so far, their BEGINs by places, and what is open
pub record Seen (at : ℕ) (f : Frames) (c : Body) (here : ℕ) (seen : List Token) (begins : List ℕ) (frames : List Frame) : Type 0 where
  pub sketch : IsSketch (frame_words f ++ words c) seen begins
  pub unforced : AreUnforced (frame_words f ++ words c)
  pub few : (place : ℕ) → slice_index begins place ≤ here
  pub frames_are : frames ≡ frames_of at f
  pub here_is : here ≡ start at f + size c

-- one more instruction of a thread of these bytes: if what was read leads on by it, the answer is yes, and what it leads to is
-- read up to `next`
abbrev pub Takes : (bytes : List ℕ) → (at here next : ℕ) → (Frames → Body → Option Shape) → List Part → List ℕ → List Frame →
    Bool → List Part → List ℕ → List Frame → Type 0
Takes bytes at here next onward words begins frames ok new_words new_begins new_frames =
    (f g : Frames) (c d : Body) → Seen at f c here (map (token_in bytes) words) begins frames → onward f c ≡ Some (In g d) →
    (ok ≡ true) × Seen at g d next (map (token_in bytes) new_words) new_begins new_frames

-- the same, of an instruction by itself
abbrev pub TakesOne : (bytes : List ℕ) → (at here : ℕ) → Instr → List Part → List ℕ → List Frame →
    Bool → List Part → List ℕ → List Frame → Type 0
TakesOne bytes at here i words begins frames ok new_words new_begins new_frames =
    Takes bytes at here (here + len i) (λ f c. step f c here i) words begins frames ok new_words new_begins new_frames

-- an instruction that these bytes have at its place
abbrev pub TakesThere : (at here : ℕ) → Instr → List Part → List ℕ → List Frame → Bool → List Part → List ℕ → List Frame → Type 0
TakesThere at here i words begins frames ok new_words new_begins new_frames =
    (bytes : List ℕ) → here < at + length begins → LiesIn bytes (here - at) i
    → TakesOne bytes at here i words begins frames ok new_words new_begins new_frames

-- a text of these bytes, wherever the instruction is
abbrev pub TakesText : (aborts : Bool) → (place length : ℕ) → List Part → Bool → List Part → Type 0
TakesText aborts place count words ok new_words =
    (bytes text : List ℕ) (at here : ℕ) (begins : List ℕ) (frames : List Frame) → take count (drop place bytes) ≡ text
    → TakesOne bytes at here (IText aborts text) words begins frames ok new_words begins frames

-- AGAIN: a branch back within the innermost body
abbrev pub TakesAgain : (at here to : ℕ) → List Part → List ℕ → Bool → List Part → List ℕ → Type 0
TakesAgain at here to words begins ok new_words new_begins =
    (bytes : List ℕ) (frames : List Frame) → here < at + length begins
    → Takes bytes at here (here + 4) (λ f c. again_at f (split c (here - to))) words begins frames ok new_words new_begins frames

-- REPEAT: a branch back over the start of the innermost body
abbrev pub TakesRepeat : (at to : ℕ) → List Part → List ℕ → List Frame → Bool → List Part → List ℕ → List Frame → Type 0
TakesRepeat at to words begins frames ok new_words new_begins new_frames =
    (bytes : List ℕ) (here : ℕ) (f g : Frames) (c d : Body) → Seen at f c here (map (token_in bytes) words) begins frames
    → here < at + length begins → here + 4 < 2 ^ 64 → to < start at f → repeat_at f c here to ≡ Some (In g d)
    → (ok ≡ true) × Seen at g d (here + 4) (map (token_in bytes) new_words) new_begins new_frames

-- the structures that end here are ended
abbrev pub Closes : (here : ℕ) → List Part → List Frame → List Part → List Frame → Type 0
Closes here words frames new_words new_frames =
    (bytes : List ℕ) (at : ℕ) (begins : List ℕ) (f g : Frames) (c d : Body)
    → Seen at f c here (map (token_in bytes) words) begins frames → shut f c here ≡ In g d
    → Seen at g d here (map (token_in bytes) new_words) begins new_frames

abbrev pub top_frame : ℕ → Frames → Option Frame
top_frame at FTop = None
top_frame at (FPast t) = Some (k.Past (at + (size t + 2)))
top_frame at (FIf f t to) = Some (k.If (length (without_begins (frame_words f ++ words t))) to (start at f + (size t + 4)))
top_frame at (FElse f t a to) = Some (k.Else to (start at f + (size t + (8 + size a))))
top_frame at (FDo f t) = Some (k.Do (start at f + (size t + 4)))

abbrev pub beneath : Frames → Frames
beneath FTop = FTop
beneath (FPast t) = FTop
beneath (FIf f t to) = f
beneath (FElse f t a to) = f
beneath (FDo f t) = f

-- a structure ends here
abbrev pub EndsHere : Frames → ℕ → Type 0
EndsHere FTop here = ⊥
EndsHere (FPast t) here = ⊥
EndsHere (FIf f t to) here = to ≤ here
EndsHere (FElse f t a to) here = to ≤ here
EndsHere (FDo f t) here = ⊥

-- where a frame says that the innermost body begins
abbrev pub begins_at : ℕ → Option Frame → ℕ
begins_at at None = at
begins_at at (Some (k.Past s)) = s
begins_at at (Some (k.If index to s)) = s
begins_at at (Some (k.Else to s)) = s
begins_at at (Some (k.Do s)) = s
