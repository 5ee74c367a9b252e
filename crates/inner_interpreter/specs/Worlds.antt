-- Where a run is, by what its machine and its ends say.
use Rattle.std.specs.Prelude.{◌≡◌, ◌<◌, ◌⊎◌, ℕ, suc, length, ◌+◌, ◌*◌, true, List, ◌++◌, Option, None, Some, IsSome}
use Rattle.block_buffers.specs.Disks.{Disk}
use Rattle.machine_parts.specs.declared.parts.Request.{Request}
use Rattle.machine.specs.declared.act.Act.{Act}
use Rattle.inner_interpreter.specs.declared.stop.Stop.{Stop}
use Rattle.image_loader.specs.Files.{Contents, IsFile}
use Rattle.machine.specs.State.{State, loaded_state}
use Rattle.machine.specs.Tick.{ran}
use Rattle.machine.specs.Answer.{InputFault, answer_of, asked_by, is_answer}
use Rattle.inner_interpreter.specs.Lines.{IsLeft}
use Rattle.inner_interpreter.specs.Runs.{World, rounds, stops}

-- what the machine, the reader, the device and the writer say is this world's
pub record IsAt (w : World) (state : State) (unread : Option (List ℕ)) (disk : Option Disk) (sent : Option (List ℕ)) (left : ℕ) : Type 0 where
  pub state_is : state ≡ w.state
  pub unread_is : unread ≡ Some w.typed
  pub disk_is : disk ≡ Some w.disk
  pub sent_is : sent ≡ Some w.shown
  pub left_is : left ≡ w.left

-- the same, but that the run went on there, the reader failed if a key or a line was asked, and the machine learned of it;
-- bytes of that line may be gone
pub record IsFaulted (w : World) (state : State) (unread : Option (List ℕ)) (disk : Option Disk) (sent : Option (List ℕ)) : Type 0 where
  pub goes : stops w ≡ None
  pub asked : is_answer (asked_by w.state.wait) InputFault ≡ true
  pub unread_is : IsLeft (asked_by w.state.wait) w.typed unread
  pub state_is : state ≡ (answer_of w.state InputFault).0
  pub disk_is : disk ≡ Some w.disk
  pub sent_is : sent ≡ Some w.shown

-- an image is loaded, for the blocks of this device; nothing is done yet
abbrev pub loaded : Contents → List ℕ → Disk → List ℕ → ℕ → World
loaded image typed disk sent limit =
    record { state = loaded_state image (length disk.blocks); typed = typed; disk = disk; shown = sent; left = limit }

-- how many answers may be before the next tick
abbrev pub waiting : Option (Request × ℕ) → ℕ
waiting None = 0
waiting (Some _) = 1

-- the rounds that may be left
abbrev pub rounds_left : ℕ → Option (Request × ℕ) → ℕ
rounds_left left wait = 2 * left + waiting wait

-- a stretch of at most n ticks: how many, the state after them, and the last act
abbrev pub stretch : ℕ → State → ℕ × State × Act
stretch n s = ran 0 n s.parts

-- the run stops here after some rounds
pub record Ends (w : World) (state : State) (unread : Option (List ℕ)) (disk : Option Disk) (sent : Option (List ℕ)) (stop : Stop) : Type 0 where
  pub count : ℕ
  pub at : IsAt (rounds count w) state unread disk sent (rounds count w).left
  pub stops_so : stops (rounds count w) ≡ Some stop

-- each world of an image that is loaded, whose ends report what they hold
abbrev pub OfImage : Contents → Option (List ℕ) → Option Disk → Option (List ℕ) → ℕ → (World → Type 0) → Type 0
OfImage image unread disk sent limit P =
    (typed : List ℕ) → unread ≡ Some typed → (d : Disk) → disk ≡ Some d → (shown : List ℕ) → sent ≡ Some shown
    → P (loaded image typed d shown limit)

-- the same of an image's file
abbrev pub OfFile : List ℕ → Option (List ℕ) → Option Disk → Option (List ℕ) → ℕ → (World → Type 0) → Type 0
OfFile bytes unread disk sent limit P = (image : Contents) → IsFile bytes image → OfImage image unread disk sent limit P

-- the last of so many rounds shows more than was sent: what was sent is all that those before it show, and a part of its own
-- bytes
pub record IsBrokenOff (count : ℕ) (w : World) (sent : Option (List ℕ)) : Type 0 where
  pub before : ℕ
  pub count_is : count ≡ suc before
  pub part : List ℕ
  pub rest : List ℕ
  pub some : 0 < length rest
  pub shown_is : (rounds count w).shown ≡ (rounds before w).shown ++ (part ++ rest)
  pub sent_is : sent ≡ Some ((rounds before w).shown ++ part)

-- all that they show was sent, and is to be passed on there: a key or a line is asked, or the run stops
pub record IsHeldUp (count : ℕ) (w : World) (sent : Option (List ℕ)) : Type 0 where
  pub sent_is : sent ≡ Some (rounds count w).shown
  pub due : (is_answer (asked_by (rounds count w).state.wait) InputFault ≡ true) ⊎ IsSome (stops (rounds count w))

-- so many rounds were made, and after them the writer failed
pub record IsCut (count : ℕ) (w : World) (state : State) (unread : Option (List ℕ)) (disk : Option Disk) (sent : Option (List ℕ)) : Type 0 where
  pub state_is : state ≡ (rounds count w).state
  pub unread_is : unread ≡ Some (rounds count w).typed
  pub disk_is : disk ≡ Some (rounds count w).disk
  pub sent_is : IsBrokenOff count w sent ⊎ IsHeldUp count w sent

-- a writer failed in this run: some first rounds were made, up to the first that shows more than was sent, or to one after
-- which what was sent is to be passed on
pub record EndsCut (w : World) (state : State) (unread : Option (List ℕ)) (disk : Option Disk) (sent : Option (List ℕ)) : Type 0 where
  pub count : ℕ
  pub cut : IsCut count w state unread disk sent

-- a reader failed in this run, after some first rounds
pub record EndsFaulted (w : World) (state : State) (unread : Option (List ℕ)) (disk : Option Disk) (sent : Option (List ℕ)) : Type 0 where
  pub count : ℕ
  pub faulted : IsFaulted (rounds count w) state unread disk sent
