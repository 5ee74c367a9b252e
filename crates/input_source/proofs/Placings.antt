use Rattle.std.proofs.Common.{◌≡◌, ℕ, ◌+◌, List, [], ◌∷◌, length, arith}
use Rattle.cells.specs.Cell.{wrap}
use Rattle.memory.specs.Bytes.{put_byte, put_bytes}
use Rattle.memory.proofs.Puts.{put_bytes_on}
use Rattle.input_source.specs.Placing.{counted}

-- the count, the bytes and the blank, written in turn
pub counted_pieces : (m : List ℕ) (a n : ℕ) (bs : List ℕ) → n ≡ wrap (wrap (a + 1) + length bs) →
    put_byte (put_bytes (put_byte m a (length bs)) (wrap (a + 1)) bs) n 32 ≡ put_bytes m a (counted bs)
unfolding counted put_bytes
counted_pieces m a n bs e = put_bytes_on (put_byte m a (length bs)) (wrap (a + 1)) n bs (32 ∷ []) (omega arith) e
