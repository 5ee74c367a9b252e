-- What loading screens on an image answers, for every image, device, screens and ticks.
use Rattle.std.specs.Prelude.{◌≡◌, ◌≢◌, ◌⊎◌, ◌<◌, ◌/◌, ℕ, ◌+◌, ◌-◌, ◌==◌, ◌&&◌, nat_le, if◌then◌else◌, List, length, codes, Option, Some, Result, Ok, Err}
use Rattle.block_buffers.specs.Disks.{Disk}
use Rattle.dictionary.specs.Search.{Sought, Found, Nowhere, TooLong, sought, by_address}
use Rattle.image_loader.specs.Files.{Contents}
use Rattle.memory.specs.Bytes.{byte, cell, put_cell}
use Rattle.memory.specs.declared.system.TheConstants.{STATE, DP, BLK, TO_IN, CONTEXT}
use Rattle.machine_parts.specs.Whole.{Whole}
use Rattle.machine_parts.specs.declared.faults.TheConstants.{BLOCK_ZERO}
use Rattle.machine.specs.State.{loaded_state}
use Rattle.machine.specs.Entering.{can_save, saved}
use Rattle.metacompiler.specs.Rounds.{Stop, Ended, Out, screens}
use Rattle.metacompiler.specs.Rounds as rounds
pub use Rattle.metacompiler.specs.declared.load.LoadFault.{LoadFault}
pub use Rattle.metacompiler.specs.declared.load.LoadFault.TheVariants.{NotFound, ChainTooLong, Fault, Halted, Asked, Limit, Unfinished, BadSize, OutOfMemory}

-- the answer, and the device then
pub record Loaded : Type 0 where
  pub answer : Result Contents LoadFault
  pub disk : Disk

abbrev pub refused : LoadFault → Disk → Loaded
refused c d = record { answer = Err c; disk = d }

-- BLK and >IN get their cells of before
abbrev pub put_back : (before m : List ℕ) → List ℕ
put_back before m = put_cell (put_cell m BLK (cell before BLK)) TO_IN (cell before TO_IN)

abbrev pub restored : (before : List ℕ) → Whole → Whole
restored before s = record s { memory = put_back before s.memory }

-- after all screens words must be executed again; then memory is saved as an image
abbrev pub ended : (entry : ℕ) → Whole → Result Contents LoadFault
ended entry s =
    if cell s.memory STATE == 0 then (if can_save s then Ok (saved s entry) else Err BadSize) else Err Unfinished

-- why screens can't be loaded whose rounds stop so
abbrev pub fault_of : Stop → LoadFault
fault_of (rounds.Fault f) = Fault f
fault_of rounds.Halted = Halted
fault_of rounds.Asked = Asked
fault_of _ = Limit

abbrev pub answered : (entry : ℕ) → (before : List ℕ) → Whole → Stop → Result Contents LoadFault
answered entry before s Ended = ended entry (restored before s)
answered entry before s why = Err (fault_of why)

abbrev pub by_out : (entry : ℕ) → (before : List ℕ) → Out → Loaded
by_out entry before o = record { answer = answered entry before o.parts o.stop; disk = o.disk }

-- INTERPRET's compilation address, as a search for it comes out
abbrev pub address_found : Sought → Result ℕ LoadFault
address_found (Found word) = Ok word
address_found Nowhere = Err NotFound
address_found TooLong = Err ChainTooLong

abbrev pub interpret_in : List ℕ → Result ℕ LoadFault
interpret_in m = address_found (by_address m (sought m (codes "INTERPRET")))

-- it is found first; then screen 0 is refused
abbrev pub by_interpret : (entry : ℕ) → Whole → Disk → (from to ticks : ℕ) → Result ℕ LoadFault → Loaded
by_interpret entry s d from to ticks (Err c) = refused c d
by_interpret entry s d from to ticks (Ok word) =
    if (from == 0) && nat_le from to then refused (Fault BLOCK_ZERO) d
    else by_out entry s.memory (screens word (to + 1 - from) from ticks s d)

-- screens are loaded with so many ticks by a machine of these parts, to which an image with this entry was loaded
abbrev pub loaded_on : (entry : ℕ) → Whole → Disk → (from to ticks : ℕ) → Loaded
loaded_on entry s d from to ticks = by_interpret entry s d from to ticks (interpret_in s.memory)

-- they are loaded on an image
abbrev pub loaded_by_machine : Contents → Disk → (from to ticks : ℕ) → Loaded
loaded_by_machine image d from to ticks =
    loaded_on image.entry (loaded_state image (length d.blocks)).parts d from to ticks

-- this is answered, or that memory was not found
abbrev pub IsSaved : Result Contents LoadFault → Result Contents LoadFault → Type 0
IsSaved answer (Err OutOfMemory) = Unit {0}
IsSaved answer result = result ≡ answer

-- the same of loading from this device, which is then as the rounds leave it; if memory was not found, it is as it was, or so
abbrev pub IsLoaded : Disk → Loaded → Result Contents LoadFault → Option Disk → Type 0
IsLoaded d o (Err OutOfMemory) disk = (disk ≡ Some d) ⊎ (disk ≡ Some o.disk)
IsLoaded d o result disk = (result ≡ o.answer) × (disk ≡ Some o.disk)

-- the image has the memory n up to HERE, but that another vocabulary may be searched first; else it is as the old one
pub record IsLaidAs (old : Contents) (n : List ℕ) (context : ℕ) (image : Contents) : Type 0 where
  pub buffers_are : image.buffers ≡ old.buffers
  pub entry_is : image.entry ≡ old.entry
  pub size : length image.bytes ≡ cell n DP
  pub here : cell image.bytes DP ≡ cell n DP
  pub context_is : cell image.bytes CONTEXT ≡ context
  pub same : (i : ℕ) → i < cell n DP → i / 2 ≢ 14 → i / 2 ≢ 16 → byte image.bytes i ≡ byte n i

-- that image, or too few ticks
abbrev pub IsLaidOr : (old : Contents) → (n : List ℕ) → (context : ℕ) → Result Contents LoadFault → Type 0
IsLaidOr old n context (Ok image) = IsLaidAs old n context image
IsLaidOr old n context (Err c) = c ≡ Limit
