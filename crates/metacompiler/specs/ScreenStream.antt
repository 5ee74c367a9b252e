-- The stream of a machine that reads a screen which is in a buffer.
use Rattle.std.specs.Prelude.{◌≡◌, ◌<◌, ◌≤◌, ◌==◌, ℕ, List, true, false, nat_lt, length}
use Rattle.block_buffers.specs.Entries.{holds, slot_of, moved_front, address_of}
use Rattle.input_source.specs.declared.words.Word.{Word}
use Rattle.input_source.specs.declared.words.Stream.{Stream}
use Rattle.input_source.specs.Words.{word_at, bytes_of}
use Rattle.memory.specs.Bytes.{IsCount, cell, bytes}
use Rattle.memory.specs.declared.system.TheConstants.{BLK, TO_IN}
use Rattle.machine_parts.specs.Whole.{Whole}

-- screen b is in a buffer, and was referenced last; its text is read from p on
pub record Reading (u : Whole) (b p : ℕ) (text : List ℕ) : Type 0 where
  pub blk : cell u.memory BLK ≡ b
  pub some : (b == 0) ≡ false
  pub available : nat_lt b u.block_count ≡ true
  pub held : holds u.buffers b ≡ true
  pub front : moved_front (slot_of u.buffers b) u.buffers ≡ u.buffers
  pub count : IsCount (length u.buffers)
  pub slot : slot_of u.buffers b < length u.buffers
  pub there : bytes u.memory (address_of u.buffers (slot_of u.buffers b)) 1024 ≡ text
  pub place : cell u.memory TO_IN ≡ p
  pub within : p ≤ 1024
  pub all : length u.memory ≡ 65536

abbrev pub stream : Whole → ℕ → ℕ → Stream
stream u b p = record { at = address_of u.buffers (slot_of u.buffers b); size = 1024; place = p }

-- the next word of a text, and its bytes
abbrev pub next : List ℕ → ℕ → Word
next text p = word_at text p 32

abbrev pub name : List ℕ → ℕ → List ℕ
name text p = bytes_of text (next text p)
