-- The input stream.
use Rattle.std.specs.Prelude.{◌≡◌, ℕ, List, ◌==◌, not, ◌&&◌, Bool, if◌then◌else◌, min, Result, Ok, Err, IsTrue, IsFalse}
use Rattle.memory.specs.Bytes.{cell}
use Rattle.memory.specs.declared.system.TheConstants.{TO_IN, BLK, NUMBER_TIB, TIB}
use Rattle.block_buffers.specs.declared.entry.Entry.{Entry}
use Rattle.block_buffers.specs.Entries.{holds, address_of, slot_of}
use Rattle.input_source.specs.declared.words.Stream.{Stream}
use Rattle.input_source.specs.declared.streams.NeedsBlock.{NeedsBlock}

-- BLK names a block that no buffer has
unfoldable pub needs_block : List ℕ → List Entry → Bool
needs_block m b = not (cell m BLK == 0) && not (holds b (cell m BLK))

-- BLK 0 is the terminal's buffer
unfoldable pub stream_at : List ℕ → List Entry → ℕ
stream_at m b = if cell m BLK == 0 then TIB else address_of b (slot_of b (cell m BLK))

unfoldable pub stream_size : List ℕ → ℕ
stream_size m = if cell m BLK == 0 then cell m NUMBER_TIB else 1024

abbrev pub stream_of : List ℕ → List Entry → Stream
stream_of m b = record { at = stream_at m b; size = stream_size m; place = min (cell m TO_IN) (stream_size m) }

abbrev pub IsStream : List ℕ → List Entry → Result Stream NeedsBlock → Type 0
IsStream m b (Ok s) = IsFalse (needs_block m b) × (s ≡ stream_of m b)
IsStream m b (Err _) = IsTrue (needs_block m b)
