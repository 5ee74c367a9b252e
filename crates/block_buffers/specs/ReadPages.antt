-- Blocks that were read one after another, by the pages that they gave.
use Rattle.std.specs.Prelude.{◌≡◌, ◌<◌, ◌≤◌, ◌+◌, ℕ, List, [], ◌∷◌, ◌++◌, length}
use Rattle.block_buffers.specs.DeviceCalls.{DeviceCall, WasRead}

-- the calls that read these pages, the first of which is the block of this number
unfoldable pub reads_of : (from : ℕ) → (pages : List (List ℕ)) → List DeviceCall
reads_of from [] = []
reads_of from (page ∷ pages) = WasRead from page ∷ reads_of (from + 1) pages

-- n blocks from a number on, all of which the device has, were read once each, in order, and nothing else was asked of it
pub record AreReadFrom (from n count : ℕ) (calls calls' : List DeviceCall) : Type 0 where
  pub pages : List (List ℕ)
  pub all : length pages ≡ n
  pub there : 0 < n → from + n ≤ count
  pub read : calls' ≡ calls ++ reads_of from pages
