-- Screens in a block file.
use Rattle.std.specs.Prelude.{ℕ, ◌+◌, ◌*◌, List, ◌++◌, take, drop, fold}
use Rattle.screen_text.specs.Bytes.{padded}
use Rattle.screen_text.specs.Screens.{Screen}

-- a block file with the bytes of this screen; it grows with blanks, if it must
unfoldable pub with_screen : (file : List ℕ) → Screen → List ℕ
with_screen file s =
    let grown = padded (1024 * (s.number + 1)) file in take (1024 * s.number) grown ++ (s.bytes ++ drop (1024 * (s.number + 1)) grown)

unfoldable pub with_screens : (file : List ℕ) → List Screen → List ℕ
with_screens file screens = fold with_screen file screens
