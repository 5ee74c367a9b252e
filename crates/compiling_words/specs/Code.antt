-- What compiling words write: the compilation addresses of control primitives, and what comes after them.
use Rattle.std.specs.Prelude.{ℕ, ◌+◌, ◌*◌, List, ◌∷◌, ◌++◌, length}
use Rattle.memory.specs.Bytes.{cell, cell_bytes}
use Rattle.memory.specs.Controls.{number_of}
use Rattle.memory.specs.declared.controls.Control.TheVariants as ctl
use Rattle.memory.specs.declared.system.TheConstants.{RUNTIME_CELLS}
use Rattle.compiling_words.specs.declared.text.TextWord.{TextWord}
use Rattle.compiling_words.specs.declared.text.TextWord.TheVariants.{Show, Abort}

-- runtime cell k: the compilation address of control primitive k
abbrev pub runtime : List ℕ → ℕ → ℕ
runtime m k = cell m (RUNTIME_CELLS + 2 * k)

-- control primitive k, and the cell that it takes from after it
abbrev pub control_code : List ℕ → ℕ → ℕ → List ℕ
control_code m k x = cell_bytes (runtime m k) ++ cell_bytes x

-- the code of a literal: (LIT) and the cell
abbrev pub literal_code : List ℕ → ℕ → List ℕ
literal_code m x = control_code m (number_of ctl.Literal) x

-- the row of what writes a text: (.") or (ABORT")
abbrev pub text_number : TextWord → ℕ
text_number Show = number_of ctl.ShowText
text_number Abort = number_of ctl.AbortText

-- a token, a count byte and the text
unfoldable pub text_code : ℕ → List ℕ → List ℕ
text_code token text = cell_bytes token ++ length text ∷ text
