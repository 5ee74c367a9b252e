-- The text of screens of a disk.
use Rattle.std.specs.Prelude.{All, ◌≡◌, ◌⊎◌, ◌<◌, ℕ, zero, suc, ◌+◌, Vec, List, [], ◌∷◌, ◌++◌, length, true, Result, Ok, Err, if◌then◌else◌}
use Rattle.std.specs.List.{list_all}
use Rattle.block_buffers.specs.DeviceCalls.{DeviceCall, WasRead}
use Rattle.block_buffers.specs.Disks.{Disk, succeeds, block_at, called}
use Rattle.block_buffers.specs.ReadPages.{AreReadFrom}
use Rattle.screen_text.specs.Escapes.{is_byte}
use Rattle.screen_text.specs.Screens.{Screen, screen_text}
use Rattle.device_text.specs.declared.pages.PageCause.TheVariants.{Device, OutOfMemory}
use Rattle.device_text.specs.declared.pages.Unprinted.{Unprinted}

-- the text of a screen of a disk, if it can be read
unfoldable pub page : Disk → (screen : ℕ) → Result (List ℕ) Unprinted
page d screen =
    if succeeds d screen then Ok (screen_text screen (block_at d.blocks screen)) else Err (record { screen = screen; line = 0; cause = Device })

-- two texts, one after the other: the first that is refused decides
abbrev pub joined : Result (List ℕ) Unprinted → Result (List ℕ) Unprinted → Result (List ℕ) Unprinted
joined (Err why) rest = Err why
joined (Ok text) (Err why) = Err why
joined (Ok text) (Ok rest) = Ok (text ++ rest)

-- the text of n screens of a disk, of which each is read once
unfoldable pub pages : Disk → (screen n : ℕ) → Result (List ℕ) Unprinted
pages d screen zero = Ok []
pages d screen (suc n) = joined (page d screen) (pages (called d) (screen + 1) n)

-- the text of these pages, the first of which is the screen of this number
unfoldable pub printed : (from : ℕ) → (read : List (List ℕ)) → List ℕ
printed from [] = []
printed from (bytes ∷ read) = screen_text from bytes ++ printed (from + 1) read

-- n screens from a number on were read, and the text is that of their pages
pub record IsTextOfRead (from n count : ℕ) (text : List ℕ) (calls calls' : List DeviceCall) : Type 0 where
  pub are : AreReadFrom from n count calls calls'
  pub is : text ≡ printed from are.pages

-- a screen that the device has was read, and this is its text; or it stopped there, after some calls
abbrev pub Asks : {A : Type 0} → (screen count : ℕ) → Result (Vec ℕ A) Unprinted → (calls calls' : List DeviceCall) → Type 0
Asks screen count (Ok text) calls calls' =
    (bytes : List ℕ) × (calls' ≡ calls ++ WasRead screen bytes ∷ []) × (screen < count) × (text.items ≡ screen_text screen bytes)
Asks screen count (Err why) calls calls' = (made : List DeviceCall) × (calls' ≡ calls ++ made)

-- so many screens of a device's blocks, from one on
unfoldable pub screens_at : (blocks : List (List ℕ)) → (screen n : ℕ) → List Screen
screens_at blocks screen zero = []
screens_at blocks screen (suc n) = record { number = screen; bytes = block_at blocks screen } ∷ screens_at blocks (screen + 1) n

-- each block has 1,024 bytes
pub record IsBlock (block : List ℕ) : Type 0 where
  pub size : length block ≡ 1024
  pub bytes : list_all is_byte block ≡ true

abbrev pub AreBlocks : List (List ℕ) → Type 0
AreBlocks blocks = All IsBlock blocks

-- this is why they aren't printed, or memory ran out
abbrev pub IsWhy : Result (List ℕ) Unprinted → Unprinted → Type 0
IsWhy r why = (r ≡ Err why) ⊎ (why.cause ≡ OutOfMemory)
