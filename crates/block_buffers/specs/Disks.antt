-- A device that reports its blocks.
use Rattle.std.specs.Prelude.{ℕ, Bool, false, not, List, [], ◌∷◌, length, drop, slice_set, slice_index_or, nat_lt, ◌&&◌}

-- the blocks, each a list of 1,024 bytes, and for each coming call whether it fails
pub record Disk : Type 0 where
  pub blocks : List (List ℕ)
  pub coming : List Bool

-- whether the next call fails; if no result is left, it doesn't
abbrev pub next_fails : List Bool → Bool
next_fails [] = false
next_fails (fails ∷ later) = fails

-- a call for a block succeeds: there is such a block, and the next result is no failure
abbrev pub succeeds : Disk → ℕ → Bool
succeeds disk block = nat_lt block (length disk.blocks) && not (next_fails disk.coming)

abbrev pub block_at : List (List ℕ) → ℕ → List ℕ
block_at blocks n = slice_index_or blocks n []

-- the disk after a call that changes no block: the next result is used up
abbrev pub called : Disk → Disk
called disk = record { blocks = disk.blocks; coming = drop 1 disk.coming }

-- the disk after a write: that block alone is the bytes handed in
abbrev pub with_block : Disk → ℕ → List ℕ → Disk
with_block disk block page = record { blocks = slice_set disk.blocks block page; coming = drop 1 disk.coming }
