-- A screen that holds one colon definition: that there are such sources.
use Rattle.std.specs.Prelude.{◌≡◌, false, ℕ, List, ◌++◌, codes, replicate}
use Rattle.memory.specs.Bytes.{cell}
use Rattle.memory.specs.declared.system.TheConstants.{CURRENT}
use Rattle.dictionary.specs.Header.{is_immediate, compilation_address}
use Rattle.dictionary.specs.Search.{Found, sought_from}
use Rattle.colon_bodies.specs.Tree.{Simple, Empty, Call}
use Rattle.metacompiler.specs.Sources.{ColonDefinition}

-- `: SQ DUP * ;`, and blanks up to 1,024 bytes
unfoldable pub square_screen : List ℕ
square_screen = codes ": SQ DUP * ;" ++ replicate 1012 32

-- a name is found from the current vocabulary, not immediate, with this compilation address
pub record IsCalled (m : List ℕ) (name : List ℕ) (address : ℕ) : Type 0 where
  pub link : ℕ
  pub found : sought_from m (cell m CURRENT) name ≡ Found link
  pub plain : is_immediate m link ≡ false
  pub address_is : compilation_address m link ≡ address

-- the definition of SQ, if DUP and * have these compilation addresses
abbrev pub square : (screen dup times : ℕ) → ColonDefinition
square screen dup times = record { screen = screen; title = codes "SQ"; body = Simple (Call (Call Empty false dup) false times) }
