use Rattle.std.specs.Prelude.{ℕ, ◌+◌, List}
use Rattle.std.specs.Int.RustNames.{bit_and, bit_or}
use Rattle.cells.specs.Cell.{wrap}
use Rattle.memory.specs.Bytes.{byte, cell, put_byte}
use Rattle.memory.specs.declared.system.TheConstants.{LAST}

-- where the count byte of the newest header is, which LAST names
unfoldable pub newest_count : List ℕ → ℕ
newest_count m = wrap (cell m LAST + 2)

-- a count byte with bit 5 cleared
unfoldable pub revealed : ℕ → ℕ
revealed count = bit_and count 223

-- a count byte with bit 6 set
unfoldable pub made_immediate : ℕ → ℕ
made_immediate count = bit_or count 64

-- memory in which the newest header isn't hidden
unfoldable pub with_revealed : List ℕ → List ℕ
with_revealed m = put_byte m (newest_count m) (revealed (byte m (newest_count m)))

-- memory in which the newest header is immediate
unfoldable pub with_immediate : List ℕ → List ℕ
with_immediate m = put_byte m (newest_count m) (made_immediate (byte m (newest_count m)))
