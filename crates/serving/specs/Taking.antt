-- Frames that a reader gave, and what was served for them.
use Rattle.std.specs.Prelude.{◌≡◌, ◌<◌, ◌+◌, ◌⊎◌, ℕ, List, [], ◌∷◌, ◌++◌, Option, Some, None, Bool, true, false, not, map, length, nat_lt}
use Rattle.std.specs.List.{list_all}
use Rattle.block_buffers.specs.DeviceCalls.{DeviceCall}
use Rattle.inner_interpreter.specs.Reads.{as_given}
use Rattle.machine.specs.State.{State}
use Rattle.serving.specs.Frames.{frame}
use Rattle.serving.specs.Requests.{Wish, Frame, framed, cell_in, wished, is_quit}
use Rattle.serving.specs.Served.{Served, IsServed, Serves, ServesAll, HasObeyed, told, then_served}
use Rattle.serving.specs.declared.serving.Ending.{Ending}
use Rattle.serving.specs.declared.serving.Ending.TheVariants as ending
use Rattle.serving.specs.declared.taking.Taken.{Taken}
use Rattle.serving.specs.declared.taking.Taken.TheVariants as taken

-- n bytes were taken, or fewer and the end
abbrev pub AreTaken : ℕ → List ℕ → Bool → List (Option ℕ) → List (Option ℕ) → Type 0
AreTaken n bytes true reads reads' = (length bytes ≡ n) × (reads' ≡ reads ++ as_given bytes)
AreTaken n bytes false reads reads' = (length bytes < n) × (reads' ≡ reads ++ (as_given bytes ++ None ∷ []))

-- fewer than n bytes were taken
abbrev pub IsCutTaken : ℕ → List ℕ → List (Option ℕ) → List (Option ℕ) → Type 0
IsCutTaken n bytes reads reads' = (length bytes < n) × (reads' ≡ reads ++ as_given bytes)

-- bytes that are no frame yet: of its first three, or of those that its size says, some are missing
abbrev pub IsCut : List ℕ → Type 0
IsCut cut = (length cut < 3) ⊎ (length cut < 3 + cell_in cut 1)

abbrev pub is_sized : Frame → Bool
is_sized f = nat_lt (length f.body) 65536

-- what a reader gave for a frame: the frame; or a cut one, and then the end, or a failure
abbrev pub IsTaken : Taken → (body : List ℕ) → List (Option ℕ) → Type 0
IsTaken (taken.Frame kind) body given = (length body < 65536) × (given ≡ as_given (frame kind body))
IsTaken taken.End body given = (cut : List ℕ) × IsCut cut × (given ≡ as_given cut ++ None ∷ [])
IsTaken taken.Failed body given = (cut : List ℕ) × IsCut cut × (given ≡ as_given cut)

-- a reader is marked as failed just if it failed
abbrev pub MarksTaken : Bool → Bool → Taken → Type 0
MarksTaken old new taken.Failed = new ≡ true
MarksTaken old new _ = new ≡ old

abbrev pub wish_in : Frame → Wish
wish_in f = wished f.kind f.body

-- whether requests may come after this one
abbrev pub is_more : Frame → Bool
is_more f = not (is_quit (wish_in f))

-- the bytes of frames, one after another
unfoldable pub frames_bytes : List Frame → List ℕ
frames_bytes [] = []
frames_bytes (f ∷ fs) = frame f.kind f.body ++ frames_bytes fs

-- a last frame was given, and its request served; of one that doesn't end the requests, perhaps only a part of the replies was sent
pub record IsLast (count : ℕ) (s : State) (given : List (Option ℕ)) (quits whole : Bool) (one : Served) : Type 0 where
  pub kind : ℕ
  pub body : List ℕ
  pub sized : length body < 65536
  pub given_is : given ≡ as_given (frame kind body)
  pub serves : Serves count s (wished kind body) whole one
  pub quits_is : quits ≡ true → is_quit (wished kind body) ≡ true

-- how requests end, after `served` ones that go on: by the last; by the end; as the reader failed; as the writer failed, so that one more was
-- served and not all of its replies were sent or passed on; or as there were 2^64 - 1
abbrev pub EndsIn : (served count : ℕ) → Ending → State → List (Option ℕ) → (whole : Bool) → Served → Type 0
EndsIn served count ending.Quit s given whole one = (whole ≡ true) × IsLast count s given true true one
EndsIn served count ending.End s given whole one = (whole ≡ true) × (one ≡ told s []) × IsTaken taken.End [] given
EndsIn served count ending.InputFault s given whole one = (whole ≡ true) × (one ≡ told s []) × IsTaken taken.Failed [] given
EndsIn served count ending.OutputFault s given whole one = IsLast count s given false whole one
EndsIn served count ending.TooMany s given whole one = (whole ≡ true) × (one ≡ told s []) × (given ≡ []) × (served ≡ 18446744073709551615)

-- frames were served, all of which go on, and then came the end
pub record HasServed (how : Ending) (count : ℕ) (old new : State) (calls calls' : List DeviceCall) (reads reads' : List (Option ℕ)) (sent sent' : Option (List ℕ)) : Type 0 where
  pub frames : List Frame
  pub sized : list_all is_sized frames ≡ true
  pub more : list_all is_more frames ≡ true
  pub front : Served
  pub serves : ServesAll count old (map wish_in frames) front
  pub given : List (Option ℕ)
  pub reads_are : reads' ≡ reads ++ (as_given (frames_bytes frames) ++ given)
  pub whole : Bool
  pub last : Served
  pub ends : EndsIn (length frames) count how front.state given whole last
  pub served_is : IsServed (then_served front last) whole new calls calls' sent sent'

-- so far, frames that go on
pub record HasServedSome (served count : ℕ) (old new : State) (calls calls' : List DeviceCall) (reads reads' : List (Option ℕ)) (sent sent' : Option (List ℕ)) : Type 0 where
  pub frames : List Frame
  pub served_are : length frames ≡ served
  pub sized : list_all is_sized frames ≡ true
  pub more : list_all is_more frames ≡ true
  pub front : Served
  pub serves : ServesAll count old (map wish_in frames) front
  pub reads_are : reads' ≡ reads ++ as_given (frames_bytes frames)
  pub served_is : IsServed front true new calls calls' sent sent'

-- one more, after which requests may come
pub record HasServedOne (count : ℕ) (old new : State) (calls calls' : List DeviceCall) (reads reads' : List (Option ℕ)) (sent sent' : Option (List ℕ)) : Type 0 where
  pub kind : ℕ
  pub body : List ℕ
  pub sized : length body < 65536
  pub reads_are : reads' ≡ reads ++ as_given (frame kind body)
  pub more : is_more (framed kind body) ≡ true
  pub obeyed : HasObeyed count (wished kind body) true old new calls calls' sent sent'

-- no more
pub record HasEnded (how : Ending) (count : ℕ) (old new : State) (calls calls' : List DeviceCall) (reads reads' : List (Option ℕ)) (sent sent' : Option (List ℕ)) : Type 0 where
  pub given : List (Option ℕ)
  pub reads_are : reads' ≡ reads ++ given
  pub whole : Bool
  pub last : Served
  pub ends : (served : ℕ) → EndsIn served count how old given whole last
  pub served_is : IsServed last whole new calls calls' sent sent'

abbrev pub HasServedNext : Option Ending → (count : ℕ) → (old new : State) → (calls calls' : List DeviceCall) → (reads reads' : List (Option ℕ)) → (sent sent' : Option (List ℕ)) → Type 0
HasServedNext None count old new calls calls' reads reads' sent sent' = HasServedOne count old new calls calls' reads reads' sent sent'
HasServedNext (Some how) count old new calls calls' reads reads' sent sent' = HasEnded how count old new calls calls' reads reads' sent sent'

-- so after a frame of this kind and body, whatever was read before it
abbrev pub HasServedFrame : Option Ending → (count kind : ℕ) → (body : List ℕ) → (old new : State) → (calls calls' : List DeviceCall) → (sent sent' : Option (List ℕ)) → Type 0
HasServedFrame ending count kind body old new calls calls' sent sent' =
    (reads : List (Option ℕ)) → HasServedNext ending count old new calls calls' reads (reads ++ as_given (frame kind body)) sent sent'

-- the mark of an end rises just if that end failed; if the writer did not, all that was sent was passed on
abbrev pub MarksWriter : Option Ending → (failed failed' passed' : Bool) → Type 0
MarksWriter (Some ending.OutputFault) failed failed' passed' = failed' ≡ true
MarksWriter _ failed failed' passed' = (failed' ≡ failed) × (passed' ≡ true)

abbrev pub MarksReader : Option Ending → (failed failed' : Bool) → Type 0
MarksReader (Some ending.InputFault) failed failed' = failed' ≡ true
MarksReader _ failed failed' = failed' ≡ failed

-- all was passed on, or nothing more was sent
abbrev pub ArePassed : (passed passed' : Bool) → (sent sent' : Option (List ℕ)) → Type 0
ArePassed passed passed' sent sent' = (passed' ≡ true) ⊎ ((sent' ≡ sent) × (passed' ≡ passed))

-- the mark of a writer rises just if it failed; if it did not, what was sent was passed on
abbrev pub KeepsWriter : Option Ending → (failed failed' passed passed' : Bool) → (sent sent' : Option (List ℕ)) → Type 0
KeepsWriter (Some ending.OutputFault) failed failed' passed passed' sent sent' = failed' ≡ true
KeepsWriter _ failed failed' passed passed' sent sent' = (failed' ≡ failed) × ArePassed passed passed' sent sent'
