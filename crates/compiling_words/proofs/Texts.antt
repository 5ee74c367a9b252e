-- A text in the thread, written piece by piece.
use Rattle.std.proofs.Common.{◌≡◌, ℕ, ◌+◌, List, length, refl, arith}
use Rattle.cells.specs.Cell.{wrap}
use Rattle.memory.specs.Bytes.{put_byte, put_cell, put_bytes, cell_bytes}
use Rattle.compiling_words.specs.Code.{text_code}

pub length-text_code : (token : ℕ) (text : List ℕ) → length (text_code token text) ≡ 3 + length text
unfolding text_code cell_bytes
length-text_code token text = omega arith

pub text_pieces : (m : List ℕ) (token a a2 a3 : ℕ) (text : List ℕ) → a2 ≡ wrap (a + 2) → a3 ≡ wrap (a + 3)
    → put_bytes (put_byte (put_cell m a token) a2 (length text)) a3 text ≡ put_bytes m a (text_code token text)
unfolding text_code put_cell put_bytes cell_bytes
text_pieces m token a a2 a3 text e2 e3 =
    let f2 : a2 ≡ wrap (wrap (a + 1) + 1) = omega arith in
    let f3 : a3 ≡ wrap (wrap (wrap (a + 1) + 1) + 1) = omega arith in
    rw (f2, f3) refl

pub ruleset texts = (length-text_code, text_pieces)
