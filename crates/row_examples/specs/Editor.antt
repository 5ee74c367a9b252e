-- Written by tools/make-row-examples from tests/cases/conformance/data/examples.txt.
use Rattle.std.specs.Prelude.{◌≡◌, ℕ, [], ◌∷◌, Some, None, false}
use Rattle.block_buffers.specs.Entries.{start}
use Rattle.machine_parts.specs.Whole.{Whole}
use Rattle.machine_parts.specs.declared.parts.Outcome.TheVariants.{Done, Fault, Ask}
use Rattle.machine_parts.specs.declared.parts.Request.TheVariants as request
use Rattle.primitives.specs.Table.{row}
use Rattle.stacks.specs.Cells.{◌▸◌}

pub record EditorExamples : Type 0 where
  -- 200 LINE ( 3 -- 61632 64 )
  pub line_1 : (w : ℕ) (s : Whole) → row 200 w (record s { values = [] ▸ 3; memory = 0 ∷ 0 ∷ 0 ∷ 0 ∷ 0 ∷ 0 ∷ 0 ∷ 0 ∷ 0 ∷ 0 ∷ 0 ∷ 0 ∷ 0 ∷ 0 ∷ 0 ∷ 0 ∷ 0 ∷ 0 ∷ 0 ∷ 0 ∷ 0 ∷ 0 ∷ 0 ∷ 0 ∷ 0 ∷ 0 ∷ 0 ∷ 0 ∷ 0 ∷ 0 ∷ 0 ∷ 0 ∷ 0 ∷ 0 ∷ 0 ∷ 0 ∷ 0 ∷ 0 ∷ 5 ∷ []; buffers = record { slot = 0; block = Some 5; updated = false } ∷ record { slot = 3; block = None; updated = false } ∷ record { slot = 2; block = None; updated = false } ∷ record { slot = 1; block = None; updated = false } ∷ []; block_count = 9 }) ≡ (record s { values = [] ▸ 61632 ▸ 64; memory = 0 ∷ 0 ∷ 0 ∷ 0 ∷ 0 ∷ 0 ∷ 0 ∷ 0 ∷ 0 ∷ 0 ∷ 0 ∷ 0 ∷ 0 ∷ 0 ∷ 0 ∷ 0 ∷ 0 ∷ 0 ∷ 0 ∷ 0 ∷ 0 ∷ 0 ∷ 0 ∷ 0 ∷ 0 ∷ 0 ∷ 0 ∷ 0 ∷ 0 ∷ 0 ∷ 0 ∷ 0 ∷ 0 ∷ 0 ∷ 0 ∷ 0 ∷ 0 ∷ 0 ∷ 5 ∷ []; buffers = record { slot = 0; block = Some 5; updated = false } ∷ record { slot = 3; block = None; updated = false } ∷ record { slot = 2; block = None; updated = false } ∷ record { slot = 1; block = None; updated = false } ∷ []; block_count = 9 }, Done)
  -- 200 LINE ( 3 -- same ) asks read 6
  pub line_2 : (w : ℕ) (s : Whole) → row 200 w (record s { values = [] ▸ 3; memory = 0 ∷ 0 ∷ 0 ∷ 0 ∷ 0 ∷ 0 ∷ 0 ∷ 0 ∷ 0 ∷ 0 ∷ 0 ∷ 0 ∷ 0 ∷ 0 ∷ 0 ∷ 0 ∷ 0 ∷ 0 ∷ 0 ∷ 0 ∷ 0 ∷ 0 ∷ 0 ∷ 0 ∷ 0 ∷ 0 ∷ 0 ∷ 0 ∷ 0 ∷ 0 ∷ 0 ∷ 0 ∷ 0 ∷ 0 ∷ 0 ∷ 0 ∷ 0 ∷ 0 ∷ 6 ∷ []; buffers = record { slot = 0; block = Some 5; updated = false } ∷ record { slot = 3; block = None; updated = false } ∷ record { slot = 2; block = None; updated = false } ∷ record { slot = 1; block = None; updated = false } ∷ []; block_count = 9 }) ≡ (record s { values = [] ▸ 3; memory = 0 ∷ 0 ∷ 0 ∷ 0 ∷ 0 ∷ 0 ∷ 0 ∷ 0 ∷ 0 ∷ 0 ∷ 0 ∷ 0 ∷ 0 ∷ 0 ∷ 0 ∷ 0 ∷ 0 ∷ 0 ∷ 0 ∷ 0 ∷ 0 ∷ 0 ∷ 0 ∷ 0 ∷ 0 ∷ 0 ∷ 0 ∷ 0 ∷ 0 ∷ 0 ∷ 0 ∷ 0 ∷ 0 ∷ 0 ∷ 0 ∷ 0 ∷ 0 ∷ 0 ∷ 6 ∷ []; buffers = record { slot = 0; block = Some 5; updated = false } ∷ record { slot = 3; block = None; updated = false } ∷ record { slot = 2; block = None; updated = false } ∷ record { slot = 1; block = None; updated = false } ∷ []; block_count = 9 }, Ask (request.Read 6))
  -- 201 PUT ( 3 -- same ) asks read 6
  pub put_1 : (w : ℕ) (s : Whole) → row 201 w (record s { values = [] ▸ 3; memory = 0 ∷ 0 ∷ 0 ∷ 0 ∷ 0 ∷ 0 ∷ 0 ∷ 0 ∷ 0 ∷ 0 ∷ 0 ∷ 0 ∷ 0 ∷ 0 ∷ 0 ∷ 0 ∷ 0 ∷ 0 ∷ 0 ∷ 0 ∷ 0 ∷ 0 ∷ 0 ∷ 0 ∷ 0 ∷ 0 ∷ 0 ∷ 0 ∷ 0 ∷ 0 ∷ 0 ∷ 0 ∷ 0 ∷ 0 ∷ 0 ∷ 0 ∷ 0 ∷ 0 ∷ 6 ∷ []; buffers = record { slot = 0; block = Some 5; updated = false } ∷ record { slot = 3; block = None; updated = false } ∷ record { slot = 2; block = None; updated = false } ∷ record { slot = 1; block = None; updated = false } ∷ []; block_count = 9 }) ≡ (record s { values = [] ▸ 3; memory = 0 ∷ 0 ∷ 0 ∷ 0 ∷ 0 ∷ 0 ∷ 0 ∷ 0 ∷ 0 ∷ 0 ∷ 0 ∷ 0 ∷ 0 ∷ 0 ∷ 0 ∷ 0 ∷ 0 ∷ 0 ∷ 0 ∷ 0 ∷ 0 ∷ 0 ∷ 0 ∷ 0 ∷ 0 ∷ 0 ∷ 0 ∷ 0 ∷ 0 ∷ 0 ∷ 0 ∷ 0 ∷ 0 ∷ 0 ∷ 0 ∷ 0 ∷ 0 ∷ 0 ∷ 6 ∷ []; buffers = record { slot = 0; block = Some 5; updated = false } ∷ record { slot = 3; block = None; updated = false } ∷ record { slot = 2; block = None; updated = false } ∷ record { slot = 1; block = None; updated = false } ∷ []; block_count = 9 }, Ask (request.Read 6))
  -- 202 INSERT ( 3 -- same ) asks read 6
  pub insert_1 : (w : ℕ) (s : Whole) → row 202 w (record s { values = [] ▸ 3; memory = 0 ∷ 0 ∷ 0 ∷ 0 ∷ 0 ∷ 0 ∷ 0 ∷ 0 ∷ 0 ∷ 0 ∷ 0 ∷ 0 ∷ 0 ∷ 0 ∷ 0 ∷ 0 ∷ 0 ∷ 0 ∷ 0 ∷ 0 ∷ 0 ∷ 0 ∷ 0 ∷ 0 ∷ 0 ∷ 0 ∷ 0 ∷ 0 ∷ 0 ∷ 0 ∷ 0 ∷ 0 ∷ 0 ∷ 0 ∷ 0 ∷ 0 ∷ 0 ∷ 0 ∷ 6 ∷ []; buffers = record { slot = 0; block = Some 5; updated = false } ∷ record { slot = 3; block = None; updated = false } ∷ record { slot = 2; block = None; updated = false } ∷ record { slot = 1; block = None; updated = false } ∷ []; block_count = 9 }) ≡ (record s { values = [] ▸ 3; memory = 0 ∷ 0 ∷ 0 ∷ 0 ∷ 0 ∷ 0 ∷ 0 ∷ 0 ∷ 0 ∷ 0 ∷ 0 ∷ 0 ∷ 0 ∷ 0 ∷ 0 ∷ 0 ∷ 0 ∷ 0 ∷ 0 ∷ 0 ∷ 0 ∷ 0 ∷ 0 ∷ 0 ∷ 0 ∷ 0 ∷ 0 ∷ 0 ∷ 0 ∷ 0 ∷ 0 ∷ 0 ∷ 0 ∷ 0 ∷ 0 ∷ 0 ∷ 0 ∷ 0 ∷ 6 ∷ []; buffers = record { slot = 0; block = Some 5; updated = false } ∷ record { slot = 3; block = None; updated = false } ∷ record { slot = 2; block = None; updated = false } ∷ record { slot = 1; block = None; updated = false } ∷ []; block_count = 9 }, Ask (request.Read 6))
  -- 203 DELETE ( 3 -- same ) asks read 6
  pub delete_1 : (w : ℕ) (s : Whole) → row 203 w (record s { values = [] ▸ 3; memory = 0 ∷ 0 ∷ 0 ∷ 0 ∷ 0 ∷ 0 ∷ 0 ∷ 0 ∷ 0 ∷ 0 ∷ 0 ∷ 0 ∷ 0 ∷ 0 ∷ 0 ∷ 0 ∷ 0 ∷ 0 ∷ 0 ∷ 0 ∷ 0 ∷ 0 ∷ 0 ∷ 0 ∷ 0 ∷ 0 ∷ 0 ∷ 0 ∷ 0 ∷ 0 ∷ 0 ∷ 0 ∷ 0 ∷ 0 ∷ 0 ∷ 0 ∷ 0 ∷ 0 ∷ 6 ∷ []; buffers = record { slot = 0; block = Some 5; updated = false } ∷ record { slot = 3; block = None; updated = false } ∷ record { slot = 2; block = None; updated = false } ∷ record { slot = 1; block = None; updated = false } ∷ []; block_count = 9 }) ≡ (record s { values = [] ▸ 3; memory = 0 ∷ 0 ∷ 0 ∷ 0 ∷ 0 ∷ 0 ∷ 0 ∷ 0 ∷ 0 ∷ 0 ∷ 0 ∷ 0 ∷ 0 ∷ 0 ∷ 0 ∷ 0 ∷ 0 ∷ 0 ∷ 0 ∷ 0 ∷ 0 ∷ 0 ∷ 0 ∷ 0 ∷ 0 ∷ 0 ∷ 0 ∷ 0 ∷ 0 ∷ 0 ∷ 0 ∷ 0 ∷ 0 ∷ 0 ∷ 0 ∷ 0 ∷ 0 ∷ 0 ∷ 6 ∷ []; buffers = record { slot = 0; block = Some 5; updated = false } ∷ record { slot = 3; block = None; updated = false } ∷ record { slot = 2; block = None; updated = false } ∷ record { slot = 1; block = None; updated = false } ∷ []; block_count = 9 }, Ask (request.Read 6))
  -- 204 WIPE ( -- ) asks read 6
  pub wipe_1 : (w : ℕ) (s : Whole) → row 204 w (record s { values = []; memory = 0 ∷ 0 ∷ 0 ∷ 0 ∷ 0 ∷ 0 ∷ 0 ∷ 0 ∷ 0 ∷ 0 ∷ 0 ∷ 0 ∷ 0 ∷ 0 ∷ 0 ∷ 0 ∷ 0 ∷ 0 ∷ 0 ∷ 0 ∷ 0 ∷ 0 ∷ 0 ∷ 0 ∷ 0 ∷ 0 ∷ 0 ∷ 0 ∷ 0 ∷ 0 ∷ 0 ∷ 0 ∷ 0 ∷ 0 ∷ 0 ∷ 0 ∷ 0 ∷ 0 ∷ 6 ∷ []; buffers = record { slot = 0; block = Some 5; updated = false } ∷ record { slot = 3; block = None; updated = false } ∷ record { slot = 2; block = None; updated = false } ∷ record { slot = 1; block = None; updated = false } ∷ []; block_count = 9 }) ≡ (record s { values = []; memory = 0 ∷ 0 ∷ 0 ∷ 0 ∷ 0 ∷ 0 ∷ 0 ∷ 0 ∷ 0 ∷ 0 ∷ 0 ∷ 0 ∷ 0 ∷ 0 ∷ 0 ∷ 0 ∷ 0 ∷ 0 ∷ 0 ∷ 0 ∷ 0 ∷ 0 ∷ 0 ∷ 0 ∷ 0 ∷ 0 ∷ 0 ∷ 0 ∷ 0 ∷ 0 ∷ 0 ∷ 0 ∷ 0 ∷ 0 ∷ 0 ∷ 0 ∷ 0 ∷ 0 ∷ 6 ∷ []; buffers = record { slot = 0; block = Some 5; updated = false } ∷ record { slot = 3; block = None; updated = false } ∷ record { slot = 2; block = None; updated = false } ∷ record { slot = 1; block = None; updated = false } ∷ []; block_count = 9 }, Ask (request.Read 6))
  -- 201 PUT ( 3 -- same ) fault 7
  pub put_2 : (w : ℕ) (s : Whole) → row 201 w (record s { values = [] ▸ 3; memory = 0 ∷ 0 ∷ 0 ∷ 0 ∷ 0 ∷ 0 ∷ 0 ∷ 0 ∷ 0 ∷ 0 ∷ 0 ∷ 0 ∷ 0 ∷ 0 ∷ 0 ∷ 0 ∷ 0 ∷ 0 ∷ 0 ∷ 0 ∷ 0 ∷ 0 ∷ 0 ∷ 0 ∷ 0 ∷ 0 ∷ 0 ∷ 0 ∷ 0 ∷ 0 ∷ 0 ∷ 0 ∷ 0 ∷ 0 ∷ 0 ∷ 0 ∷ 0 ∷ 0 ∷ 12 ∷ []; buffers = record { slot = 0; block = Some 5; updated = false } ∷ record { slot = 3; block = None; updated = false } ∷ record { slot = 2; block = None; updated = false } ∷ record { slot = 1; block = None; updated = false } ∷ []; block_count = 9 }) ≡ (record s { values = [] ▸ 3; memory = 0 ∷ 0 ∷ 0 ∷ 0 ∷ 0 ∷ 0 ∷ 0 ∷ 0 ∷ 0 ∷ 0 ∷ 0 ∷ 0 ∷ 0 ∷ 0 ∷ 0 ∷ 0 ∷ 0 ∷ 0 ∷ 0 ∷ 0 ∷ 0 ∷ 0 ∷ 0 ∷ 0 ∷ 0 ∷ 0 ∷ 0 ∷ 0 ∷ 0 ∷ 0 ∷ 0 ∷ 0 ∷ 0 ∷ 0 ∷ 0 ∷ 0 ∷ 0 ∷ 0 ∷ 12 ∷ []; buffers = record { slot = 0; block = Some 5; updated = false } ∷ record { slot = 3; block = None; updated = false } ∷ record { slot = 2; block = None; updated = false } ∷ record { slot = 1; block = None; updated = false } ∷ []; block_count = 9 }, Fault 7)
  -- 202 INSERT ( 3 -- same ) fault 7
  pub insert_2 : (w : ℕ) (s : Whole) → row 202 w (record s { values = [] ▸ 3; memory = 0 ∷ 0 ∷ 0 ∷ 0 ∷ 0 ∷ 0 ∷ 0 ∷ 0 ∷ 0 ∷ 0 ∷ 0 ∷ 0 ∷ 0 ∷ 0 ∷ 0 ∷ 0 ∷ 0 ∷ 0 ∷ 0 ∷ 0 ∷ 0 ∷ 0 ∷ 0 ∷ 0 ∷ 0 ∷ 0 ∷ 0 ∷ 0 ∷ 0 ∷ 0 ∷ 0 ∷ 0 ∷ 0 ∷ 0 ∷ 0 ∷ 0 ∷ 0 ∷ 0 ∷ 12 ∷ []; buffers = record { slot = 0; block = Some 5; updated = false } ∷ record { slot = 3; block = None; updated = false } ∷ record { slot = 2; block = None; updated = false } ∷ record { slot = 1; block = None; updated = false } ∷ []; block_count = 9 }) ≡ (record s { values = [] ▸ 3; memory = 0 ∷ 0 ∷ 0 ∷ 0 ∷ 0 ∷ 0 ∷ 0 ∷ 0 ∷ 0 ∷ 0 ∷ 0 ∷ 0 ∷ 0 ∷ 0 ∷ 0 ∷ 0 ∷ 0 ∷ 0 ∷ 0 ∷ 0 ∷ 0 ∷ 0 ∷ 0 ∷ 0 ∷ 0 ∷ 0 ∷ 0 ∷ 0 ∷ 0 ∷ 0 ∷ 0 ∷ 0 ∷ 0 ∷ 0 ∷ 0 ∷ 0 ∷ 0 ∷ 0 ∷ 12 ∷ []; buffers = record { slot = 0; block = Some 5; updated = false } ∷ record { slot = 3; block = None; updated = false } ∷ record { slot = 2; block = None; updated = false } ∷ record { slot = 1; block = None; updated = false } ∷ []; block_count = 9 }, Fault 7)
  -- 203 DELETE ( 3 -- same ) fault 7
  pub delete_2 : (w : ℕ) (s : Whole) → row 203 w (record s { values = [] ▸ 3; memory = 0 ∷ 0 ∷ 0 ∷ 0 ∷ 0 ∷ 0 ∷ 0 ∷ 0 ∷ 0 ∷ 0 ∷ 0 ∷ 0 ∷ 0 ∷ 0 ∷ 0 ∷ 0 ∷ 0 ∷ 0 ∷ 0 ∷ 0 ∷ 0 ∷ 0 ∷ 0 ∷ 0 ∷ 0 ∷ 0 ∷ 0 ∷ 0 ∷ 0 ∷ 0 ∷ 0 ∷ 0 ∷ 0 ∷ 0 ∷ 0 ∷ 0 ∷ 0 ∷ 0 ∷ 12 ∷ []; buffers = record { slot = 0; block = Some 5; updated = false } ∷ record { slot = 3; block = None; updated = false } ∷ record { slot = 2; block = None; updated = false } ∷ record { slot = 1; block = None; updated = false } ∷ []; block_count = 9 }) ≡ (record s { values = [] ▸ 3; memory = 0 ∷ 0 ∷ 0 ∷ 0 ∷ 0 ∷ 0 ∷ 0 ∷ 0 ∷ 0 ∷ 0 ∷ 0 ∷ 0 ∷ 0 ∷ 0 ∷ 0 ∷ 0 ∷ 0 ∷ 0 ∷ 0 ∷ 0 ∷ 0 ∷ 0 ∷ 0 ∷ 0 ∷ 0 ∷ 0 ∷ 0 ∷ 0 ∷ 0 ∷ 0 ∷ 0 ∷ 0 ∷ 0 ∷ 0 ∷ 0 ∷ 0 ∷ 0 ∷ 0 ∷ 12 ∷ []; buffers = record { slot = 0; block = Some 5; updated = false } ∷ record { slot = 3; block = None; updated = false } ∷ record { slot = 2; block = None; updated = false } ∷ record { slot = 1; block = None; updated = false } ∷ []; block_count = 9 }, Fault 7)
  -- 204 WIPE ( -- ) fault 7
  pub wipe_2 : (w : ℕ) (s : Whole) → row 204 w (record s { values = []; memory = 0 ∷ 0 ∷ 0 ∷ 0 ∷ 0 ∷ 0 ∷ 0 ∷ 0 ∷ 0 ∷ 0 ∷ 0 ∷ 0 ∷ 0 ∷ 0 ∷ 0 ∷ 0 ∷ 0 ∷ 0 ∷ 0 ∷ 0 ∷ 0 ∷ 0 ∷ 0 ∷ 0 ∷ 0 ∷ 0 ∷ 0 ∷ 0 ∷ 0 ∷ 0 ∷ 0 ∷ 0 ∷ 0 ∷ 0 ∷ 0 ∷ 0 ∷ 0 ∷ 0 ∷ 12 ∷ []; buffers = record { slot = 0; block = Some 5; updated = false } ∷ record { slot = 3; block = None; updated = false } ∷ record { slot = 2; block = None; updated = false } ∷ record { slot = 1; block = None; updated = false } ∷ []; block_count = 9 }) ≡ (record s { values = []; memory = 0 ∷ 0 ∷ 0 ∷ 0 ∷ 0 ∷ 0 ∷ 0 ∷ 0 ∷ 0 ∷ 0 ∷ 0 ∷ 0 ∷ 0 ∷ 0 ∷ 0 ∷ 0 ∷ 0 ∷ 0 ∷ 0 ∷ 0 ∷ 0 ∷ 0 ∷ 0 ∷ 0 ∷ 0 ∷ 0 ∷ 0 ∷ 0 ∷ 0 ∷ 0 ∷ 0 ∷ 0 ∷ 0 ∷ 0 ∷ 0 ∷ 0 ∷ 0 ∷ 0 ∷ 12 ∷ []; buffers = record { slot = 0; block = Some 5; updated = false } ∷ record { slot = 3; block = None; updated = false } ∷ record { slot = 2; block = None; updated = false } ∷ record { slot = 1; block = None; updated = false } ∷ []; block_count = 9 }, Fault 7)
  -- 201 PUT ( -- ) fault 1
  pub put_3 : (w : ℕ) (s : Whole) → row 201 w (record s { values = []; memory = 0 ∷ 0 ∷ 0 ∷ 0 ∷ 0 ∷ 0 ∷ 0 ∷ 0 ∷ 0 ∷ 0 ∷ 0 ∷ 0 ∷ 0 ∷ 0 ∷ 0 ∷ 0 ∷ 0 ∷ 0 ∷ 0 ∷ 0 ∷ 0 ∷ 0 ∷ 0 ∷ 0 ∷ 0 ∷ 0 ∷ 0 ∷ 0 ∷ 0 ∷ 0 ∷ 0 ∷ 0 ∷ 0 ∷ 0 ∷ 0 ∷ 0 ∷ 0 ∷ 0 ∷ 12 ∷ []; buffers = record { slot = 0; block = Some 5; updated = false } ∷ record { slot = 3; block = None; updated = false } ∷ record { slot = 2; block = None; updated = false } ∷ record { slot = 1; block = None; updated = false } ∷ []; block_count = 9 }) ≡ (record s { values = []; memory = 0 ∷ 0 ∷ 0 ∷ 0 ∷ 0 ∷ 0 ∷ 0 ∷ 0 ∷ 0 ∷ 0 ∷ 0 ∷ 0 ∷ 0 ∷ 0 ∷ 0 ∷ 0 ∷ 0 ∷ 0 ∷ 0 ∷ 0 ∷ 0 ∷ 0 ∷ 0 ∷ 0 ∷ 0 ∷ 0 ∷ 0 ∷ 0 ∷ 0 ∷ 0 ∷ 0 ∷ 0 ∷ 0 ∷ 0 ∷ 0 ∷ 0 ∷ 0 ∷ 0 ∷ 12 ∷ []; buffers = record { slot = 0; block = Some 5; updated = false } ∷ record { slot = 3; block = None; updated = false } ∷ record { slot = 2; block = None; updated = false } ∷ record { slot = 1; block = None; updated = false } ∷ []; block_count = 9 }, Fault 1)
  -- 202 INSERT ( -- ) fault 1
  pub insert_3 : (w : ℕ) (s : Whole) → row 202 w (record s { values = []; memory = 0 ∷ 0 ∷ 0 ∷ 0 ∷ 0 ∷ 0 ∷ 0 ∷ 0 ∷ 0 ∷ 0 ∷ 0 ∷ 0 ∷ 0 ∷ 0 ∷ 0 ∷ 0 ∷ 0 ∷ 0 ∷ 0 ∷ 0 ∷ 0 ∷ 0 ∷ 0 ∷ 0 ∷ 0 ∷ 0 ∷ 0 ∷ 0 ∷ 0 ∷ 0 ∷ 0 ∷ 0 ∷ 0 ∷ 0 ∷ 0 ∷ 0 ∷ 0 ∷ 0 ∷ 12 ∷ []; buffers = record { slot = 0; block = Some 5; updated = false } ∷ record { slot = 3; block = None; updated = false } ∷ record { slot = 2; block = None; updated = false } ∷ record { slot = 1; block = None; updated = false } ∷ []; block_count = 9 }) ≡ (record s { values = []; memory = 0 ∷ 0 ∷ 0 ∷ 0 ∷ 0 ∷ 0 ∷ 0 ∷ 0 ∷ 0 ∷ 0 ∷ 0 ∷ 0 ∷ 0 ∷ 0 ∷ 0 ∷ 0 ∷ 0 ∷ 0 ∷ 0 ∷ 0 ∷ 0 ∷ 0 ∷ 0 ∷ 0 ∷ 0 ∷ 0 ∷ 0 ∷ 0 ∷ 0 ∷ 0 ∷ 0 ∷ 0 ∷ 0 ∷ 0 ∷ 0 ∷ 0 ∷ 0 ∷ 0 ∷ 12 ∷ []; buffers = record { slot = 0; block = Some 5; updated = false } ∷ record { slot = 3; block = None; updated = false } ∷ record { slot = 2; block = None; updated = false } ∷ record { slot = 1; block = None; updated = false } ∷ []; block_count = 9 }, Fault 1)
  -- 203 DELETE ( -- ) fault 1
  pub delete_3 : (w : ℕ) (s : Whole) → row 203 w (record s { values = []; memory = 0 ∷ 0 ∷ 0 ∷ 0 ∷ 0 ∷ 0 ∷ 0 ∷ 0 ∷ 0 ∷ 0 ∷ 0 ∷ 0 ∷ 0 ∷ 0 ∷ 0 ∷ 0 ∷ 0 ∷ 0 ∷ 0 ∷ 0 ∷ 0 ∷ 0 ∷ 0 ∷ 0 ∷ 0 ∷ 0 ∷ 0 ∷ 0 ∷ 0 ∷ 0 ∷ 0 ∷ 0 ∷ 0 ∷ 0 ∷ 0 ∷ 0 ∷ 0 ∷ 0 ∷ 12 ∷ []; buffers = record { slot = 0; block = Some 5; updated = false } ∷ record { slot = 3; block = None; updated = false } ∷ record { slot = 2; block = None; updated = false } ∷ record { slot = 1; block = None; updated = false } ∷ []; block_count = 9 }) ≡ (record s { values = []; memory = 0 ∷ 0 ∷ 0 ∷ 0 ∷ 0 ∷ 0 ∷ 0 ∷ 0 ∷ 0 ∷ 0 ∷ 0 ∷ 0 ∷ 0 ∷ 0 ∷ 0 ∷ 0 ∷ 0 ∷ 0 ∷ 0 ∷ 0 ∷ 0 ∷ 0 ∷ 0 ∷ 0 ∷ 0 ∷ 0 ∷ 0 ∷ 0 ∷ 0 ∷ 0 ∷ 0 ∷ 0 ∷ 0 ∷ 0 ∷ 0 ∷ 0 ∷ 0 ∷ 0 ∷ 12 ∷ []; buffers = record { slot = 0; block = Some 5; updated = false } ∷ record { slot = 3; block = None; updated = false } ∷ record { slot = 2; block = None; updated = false } ∷ record { slot = 1; block = None; updated = false } ∷ []; block_count = 9 }, Fault 1)
  -- 200 LINE ( -- ) fault 1
  pub line_3 : (w : ℕ) (s : Whole) → row 200 w (record s { values = [] }) ≡ (record s { values = [] }, Fault 1)
  -- 204 WIPE ( 1 -- 1 ) asks read 8
  pub wipe_3 : (w : ℕ) (s : Whole) → row 204 w (record s { values = [] ▸ 1; memory = 0 ∷ 0 ∷ 0 ∷ 0 ∷ 0 ∷ 0 ∷ 0 ∷ 0 ∷ 0 ∷ 0 ∷ 0 ∷ 0 ∷ 0 ∷ 0 ∷ 0 ∷ 0 ∷ 0 ∷ 0 ∷ 0 ∷ 0 ∷ 0 ∷ 0 ∷ 0 ∷ 0 ∷ 0 ∷ 0 ∷ 0 ∷ 0 ∷ 0 ∷ 0 ∷ 0 ∷ 0 ∷ 0 ∷ 0 ∷ 0 ∷ 0 ∷ 0 ∷ 0 ∷ 8 ∷ []; buffers = start 4; block_count = 9 }) ≡ (record s { values = [] ▸ 1; memory = 0 ∷ 0 ∷ 0 ∷ 0 ∷ 0 ∷ 0 ∷ 0 ∷ 0 ∷ 0 ∷ 0 ∷ 0 ∷ 0 ∷ 0 ∷ 0 ∷ 0 ∷ 0 ∷ 0 ∷ 0 ∷ 0 ∷ 0 ∷ 0 ∷ 0 ∷ 0 ∷ 0 ∷ 0 ∷ 0 ∷ 0 ∷ 0 ∷ 0 ∷ 0 ∷ 0 ∷ 0 ∷ 0 ∷ 0 ∷ 0 ∷ 0 ∷ 0 ∷ 0 ∷ 8 ∷ []; buffers = start 4; block_count = 9 }, Ask (request.Read 8))
