-- One round, and the rounds of screens, by what the machine and its device say, and by moves.
use Rattle.std.specs.Prelude.{◌≡◌, ℕ, None, Some, Option}
use Rattle.block_buffers.specs.Disks.{Disk}
use Rattle.machine_parts.specs.Whole.{Whole}
use Rattle.machine_parts.specs.declared.parts.Request.{Request}
use Rattle.machine_parts.specs.declared.parts.Request.TheVariants.{Read, Write}
use Rattle.machine.specs.State.{State}
use Rattle.machine.specs.Tick.{Runs, ticked}
use Rattle.metacompiler.specs.Rounds.{Stop, Ended, Asked, Out, out, by_request, by_tick, rounds, screens}
use Rattle.metacompiler.specs.Moved.{Stage, ComesTo, AreRead}

-- the rounds go on, or stop
abbrev pub continued : (left : ℕ) → (Whole → Disk → Out) → State → Disk → Option Stop → Out
continued left go s d None = go s.parts d
continued left go s d (Some y) = out s.parts d left y

-- the machine runs where the rounds go on, and at the screen's end
abbrev pub GoesOn : State → Option Stop → Type 0
GoesOn s None = Runs s
GoesOn s (Some Ended) = Runs s
GoesOn s (Some y) = Unit {0}

-- a step of the rounds, whatever comes after it: they go on from the machine and the device as these are, or stop with
-- them
pub record IsStep (step : (Whole → Disk → Out) → Out) (left : ℕ) (new : State) (disk : Option Disk) (y : Option Stop)
    : Type 0 where
  pub told : Disk
  pub disk_is : disk ≡ Some told
  pub step_is : (go : Whole → Disk → Out) → step go ≡ continued left go new told y
  pub goes : GoesOn new y

-- a request's answer, if one is given
abbrev pub IsSettled : (left : ℕ) → State → Disk → Request → State → Option Disk → Option Stop → Type 0
IsSettled left s d r new disk y = IsStep (λ go. by_request left go s d r) left new disk y

-- a round: a tick, and the answer to what it asks of the device
abbrev pub IsRound : (left : ℕ) → Whole → Disk → State → Option Disk → Option Stop → Type 0
IsRound left s d new disk y = IsStep (λ go. by_tick left go (ticked s).0 d (ticked s).1.event) left new disk y

-- these rounds stop here
pub record StopsAt (o : Out) (new : State) (disk : Option Disk) (left : ℕ) (y : Stop) : Type 0 where
  pub told : Disk
  pub disk_is : disk ≡ Some told
  pub stop_is : o ≡ out new.parts told left y
  pub goes : GoesOn new (Some y)

-- so far these rounds came to this machine and device
pub record IsSoFar (o : Out) (new : State) (disk : Option Disk) (left : ℕ) : Type 0 where
  pub told : Disk
  pub disk_is : disk ≡ Some told
  pub same : rounds left new.parts told ≡ o
  pub goes : Runs new

-- so far screens came to this machine and device, and so many follow, from this one on
pub record AreSoFar (w count screen : ℕ) (o : Out) (new : State) (disk : Option Disk) (left : ℕ) : Type 0 where
  pub told : Disk
  pub disk_is : disk ≡ Some told
  pub same : screens w count screen left new.parts told ≡ o
  pub goes : Runs new

-- rounds come from p to q and go on, whatever comes after them, or they stop there
abbrev pub LeadsTo : (p q : Stage) → Option Stop → Type 0
LeadsTo p q None = (r : Stage) (y : Stop) → ComesTo q r y → ComesTo p r y
LeadsTo p q (Some y) = ComesTo p q y

-- and the machine runs where they go on, and at the screen's end
pub record IsLed (p q : Stage) (y : Option Stop) : Type 0 where
  pub goes : GoesOn q.machine y
  pub leads : LeadsTo p q y

-- if a request waited, it was answered, or nothing was done
abbrev pub IsSettledBy : Request → (p q : Stage) → Option Stop → Type 0
IsSettledBy (Read u) p q y = IsLed p q y
IsSettledBy (Write u) p q y = IsLed p q y
IsSettledBy _ p q y = (q ≡ p) × (y ≡ Some Asked)

-- so far screens were read, and where the others are read, so many from this one on, this holds of where they stop
pub record IsReadOn (word count screen : ℕ) (p : Stage) (P : Stage → Stop → Type 0) : Type 0 where
  pub goes : Runs p.machine
  pub on : (q : Stage) (y : Stop) → AreRead word count screen p q y → P q y
