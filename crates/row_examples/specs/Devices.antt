-- Written by tools/make-row-examples from tests/cases/conformance/data/examples.txt.
use Rattle.std.specs.Prelude.{◌≡◌, ℕ, [], ◌∷◌, Some, None, true, false}
use Rattle.block_buffers.specs.Entries.{start}
use Rattle.machine_parts.specs.Whole.{Whole}
use Rattle.machine_parts.specs.declared.parts.Outcome.TheVariants.{Done, Fault, Show, Byte, Ask}
use Rattle.machine_parts.specs.declared.parts.Request.TheVariants as request
use Rattle.primitives.specs.Table.{row}
use Rattle.stacks.specs.Cells.{◌▸◌}

pub record DevicesExamples : Type 0 where
  -- 112 BLOCK ( 5 -- 61440 )
  pub block_1 : (w : ℕ) (s : Whole) → row 112 w (record s { values = [] ▸ 5; buffers = record { slot = 0; block = Some 5; updated = false } ∷ record { slot = 3; block = None; updated = false } ∷ record { slot = 2; block = None; updated = false } ∷ record { slot = 1; block = None; updated = false } ∷ []; block_count = 9 }) ≡ (record s { values = [] ▸ 61440; buffers = record { slot = 0; block = Some 5; updated = false } ∷ record { slot = 3; block = None; updated = false } ∷ record { slot = 2; block = None; updated = false } ∷ record { slot = 1; block = None; updated = false } ∷ []; block_count = 9 }, Done)
  -- 112 BLOCK ( 5 -- same ) asks read 5
  pub block_2 : (w : ℕ) (s : Whole) → row 112 w (record s { values = [] ▸ 5; buffers = start 4; block_count = 9 }) ≡ (record s { values = [] ▸ 5; buffers = start 4; block_count = 9 }, Ask (request.Read 5))
  -- 112 BLOCK ( 5 -- same ) fault 7
  pub block_3 : (w : ℕ) (s : Whole) → row 112 w (record s { values = [] ▸ 5; block_count = 3 }) ≡ (record s { values = [] ▸ 5; block_count = 3 }, Fault 7)
  -- 113 BUFFER ( 5 -- 61440 )
  pub buffer_1 : (w : ℕ) (s : Whole) → row 113 w (record s { values = [] ▸ 5; buffers = start 4; block_count = 9 }) ≡ (record s { values = [] ▸ 61440; buffers = record { slot = 0; block = Some 5; updated = false } ∷ record { slot = 3; block = None; updated = false } ∷ record { slot = 2; block = None; updated = false } ∷ record { slot = 1; block = None; updated = false } ∷ []; block_count = 9 }, Done)
  -- 113 BUFFER ( 5 -- same ) fault 7
  pub buffer_2 : (w : ℕ) (s : Whole) → row 113 w (record s { values = [] ▸ 5; block_count = 3 }) ≡ (record s { values = [] ▸ 5; block_count = 3 }, Fault 7)
  -- 114 UPDATE ( -- )
  pub update_1 : (w : ℕ) (s : Whole) → row 114 w (record s { values = []; buffers = record { slot = 0; block = Some 5; updated = false } ∷ record { slot = 3; block = None; updated = false } ∷ record { slot = 2; block = None; updated = false } ∷ record { slot = 1; block = None; updated = false } ∷ []; block_count = 9 }) ≡ (record s { values = []; buffers = record { slot = 0; block = Some 5; updated = true } ∷ record { slot = 3; block = None; updated = false } ∷ record { slot = 2; block = None; updated = false } ∷ record { slot = 1; block = None; updated = false } ∷ []; block_count = 9 }, Done)
  -- 115 SAVE-BUFFERS ( 1 -- 1 )
  pub save_buffers_1 : (w : ℕ) (s : Whole) → row 115 w (record s { values = [] ▸ 1; buffers = record { slot = 0; block = Some 5; updated = false } ∷ record { slot = 3; block = None; updated = false } ∷ record { slot = 2; block = None; updated = false } ∷ record { slot = 1; block = None; updated = false } ∷ []; block_count = 9 }) ≡ (record s { values = [] ▸ 1; buffers = record { slot = 0; block = Some 5; updated = false } ∷ record { slot = 3; block = None; updated = false } ∷ record { slot = 2; block = None; updated = false } ∷ record { slot = 1; block = None; updated = false } ∷ []; block_count = 9 }, Done)
  -- 116 FLUSH ( -- )
  pub flush_1 : (w : ℕ) (s : Whole) → row 116 w (record s { values = []; buffers = record { slot = 0; block = Some 5; updated = false } ∷ record { slot = 3; block = None; updated = false } ∷ record { slot = 2; block = None; updated = false } ∷ record { slot = 1; block = None; updated = false } ∷ []; block_count = 9 }) ≡ (record s { values = []; buffers = record { slot = 0; block = None; updated = false } ∷ record { slot = 3; block = None; updated = false } ∷ record { slot = 2; block = None; updated = false } ∷ record { slot = 1; block = None; updated = false } ∷ []; block_count = 9 }, Done)
  -- 117 EMPTY-BUFFERS ( -- )
  pub empty_buffers_1 : (w : ℕ) (s : Whole) → row 117 w (record s { values = []; buffers = record { slot = 0; block = Some 5; updated = false } ∷ record { slot = 3; block = None; updated = false } ∷ record { slot = 2; block = None; updated = false } ∷ record { slot = 1; block = None; updated = false } ∷ []; block_count = 9 }) ≡ (record s { values = []; buffers = record { slot = 0; block = None; updated = false } ∷ record { slot = 3; block = None; updated = false } ∷ record { slot = 2; block = None; updated = false } ∷ record { slot = 1; block = None; updated = false } ∷ []; block_count = 9 }, Done)
  -- 118 KEY ( 1 -- 1 ) asks key
  pub key_1 : (w : ℕ) (s : Whole) → row 118 w (record s { values = [] ▸ 1 }) ≡ (record s { values = [] ▸ 1 }, Ask request.Key)
  -- 119 EXPECT ( 300 5 -- same ) asks line 5
  pub expect_1 : (w : ℕ) (s : Whole) → row 119 w (record s { values = [] ▸ 300 ▸ 5 }) ≡ (record s { values = [] ▸ 300 ▸ 5 }, Ask (request.Line 5))
  -- 119 EXPECT ( 300 0 -- )
  pub expect_2 : (w : ℕ) (s : Whole) → row 119 w (record s { values = [] ▸ 300 ▸ 0; memory = 0 ∷ 0 ∷ 0 ∷ 0 ∷ 0 ∷ 0 ∷ 0 ∷ 0 ∷ 0 ∷ 0 ∷ 0 ∷ 0 ∷ 0 ∷ 0 ∷ 0 ∷ 0 ∷ 0 ∷ 0 ∷ 0 ∷ 0 ∷ 0 ∷ 0 ∷ 0 ∷ 0 ∷ 0 ∷ 0 ∷ 7 ∷ [] }) ≡ (record s { values = []; memory = 0 ∷ 0 ∷ 0 ∷ 0 ∷ 0 ∷ 0 ∷ 0 ∷ 0 ∷ 0 ∷ 0 ∷ 0 ∷ 0 ∷ 0 ∷ 0 ∷ 0 ∷ 0 ∷ 0 ∷ 0 ∷ 0 ∷ 0 ∷ 0 ∷ 0 ∷ 0 ∷ 0 ∷ 0 ∷ 0 ∷ 0 ∷ [] }, Done)
  -- 120 EMIT ( 65 -- ) shows byte 65
  pub emit_1 : (w : ℕ) (s : Whole) → row 120 w (record s { values = [] ▸ 65; memory = 0 ∷ 0 ∷ 0 ∷ 0 ∷ 0 ∷ 0 ∷ 0 ∷ 0 ∷ 0 ∷ 0 ∷ 0 ∷ 0 ∷ 0 ∷ 0 ∷ 0 ∷ 0 ∷ 0 ∷ 0 ∷ 0 ∷ 0 ∷ 0 ∷ 0 ∷ 0 ∷ 0 ∷ 0 ∷ 0 ∷ 7 ∷ [] }) ≡ (record s { values = []; memory = 0 ∷ 0 ∷ 0 ∷ 0 ∷ 0 ∷ 0 ∷ 0 ∷ 0 ∷ 0 ∷ 0 ∷ 0 ∷ 0 ∷ 0 ∷ 0 ∷ 0 ∷ 0 ∷ 0 ∷ 0 ∷ 0 ∷ 0 ∷ 0 ∷ 0 ∷ 0 ∷ 0 ∷ 0 ∷ 0 ∷ 7 ∷ [] }, Byte 65)
  -- 120 EMIT ( $141 -- ) shows byte 65
  pub emit_2 : (w : ℕ) (s : Whole) → row 120 w (record s { values = [] ▸ 321; memory = 0 ∷ 0 ∷ 0 ∷ 0 ∷ 0 ∷ 0 ∷ 0 ∷ 0 ∷ 0 ∷ 0 ∷ 0 ∷ 0 ∷ 0 ∷ 0 ∷ 0 ∷ 0 ∷ 0 ∷ 0 ∷ 0 ∷ 0 ∷ 0 ∷ 0 ∷ 0 ∷ 0 ∷ 0 ∷ 0 ∷ 7 ∷ [] }) ≡ (record s { values = []; memory = 0 ∷ 0 ∷ 0 ∷ 0 ∷ 0 ∷ 0 ∷ 0 ∷ 0 ∷ 0 ∷ 0 ∷ 0 ∷ 0 ∷ 0 ∷ 0 ∷ 0 ∷ 0 ∷ 0 ∷ 0 ∷ 0 ∷ 0 ∷ 0 ∷ 0 ∷ 0 ∷ 0 ∷ 0 ∷ 0 ∷ 7 ∷ [] }, Byte 65)
  -- 121 TYPE ( 300 5 -- ) shows 300 5
  pub type_out_1 : (w : ℕ) (s : Whole) → row 121 w (record s { values = [] ▸ 300 ▸ 5; memory = 0 ∷ 0 ∷ 0 ∷ 0 ∷ 0 ∷ 0 ∷ 0 ∷ 0 ∷ 0 ∷ 0 ∷ 0 ∷ 0 ∷ 0 ∷ 0 ∷ 0 ∷ 0 ∷ 0 ∷ 0 ∷ 0 ∷ 0 ∷ 0 ∷ 0 ∷ 0 ∷ 0 ∷ 0 ∷ 0 ∷ 7 ∷ [] }) ≡ (record s { values = []; memory = 0 ∷ 0 ∷ 0 ∷ 0 ∷ 0 ∷ 0 ∷ 0 ∷ 0 ∷ 0 ∷ 0 ∷ 0 ∷ 0 ∷ 0 ∷ 0 ∷ 0 ∷ 0 ∷ 0 ∷ 0 ∷ 0 ∷ 0 ∷ 0 ∷ 0 ∷ 0 ∷ 0 ∷ 0 ∷ 0 ∷ 7 ∷ [] }, Show (record { at = 300; len = 5 }))
  -- 121 TYPE ( 5 -- same ) fault 1
  pub type_out_2 : (w : ℕ) (s : Whole) → row 121 w (record s { values = [] ▸ 5; memory = 0 ∷ 0 ∷ 0 ∷ 0 ∷ 0 ∷ 0 ∷ 0 ∷ 0 ∷ 0 ∷ 0 ∷ 0 ∷ 0 ∷ 0 ∷ 0 ∷ 0 ∷ 0 ∷ 0 ∷ 0 ∷ 0 ∷ 0 ∷ 0 ∷ 0 ∷ 0 ∷ 0 ∷ 0 ∷ 0 ∷ 7 ∷ [] }) ≡ (record s { values = [] ▸ 5; memory = 0 ∷ 0 ∷ 0 ∷ 0 ∷ 0 ∷ 0 ∷ 0 ∷ 0 ∷ 0 ∷ 0 ∷ 0 ∷ 0 ∷ 0 ∷ 0 ∷ 0 ∷ 0 ∷ 0 ∷ 0 ∷ 0 ∷ 0 ∷ 0 ∷ 0 ∷ 0 ∷ 0 ∷ 0 ∷ 0 ∷ 7 ∷ [] }, Fault 1)
  -- 113 BUFFER ( 5 -- 61440 )
  pub buffer_3 : (w : ℕ) (s : Whole) → row 113 w (record s { values = [] ▸ 5; buffers = record { slot = 0; block = Some 5; updated = false } ∷ record { slot = 3; block = None; updated = false } ∷ record { slot = 2; block = None; updated = false } ∷ record { slot = 1; block = None; updated = false } ∷ []; block_count = 9 }) ≡ (record s { values = [] ▸ 61440; buffers = record { slot = 0; block = Some 5; updated = false } ∷ record { slot = 3; block = None; updated = false } ∷ record { slot = 2; block = None; updated = false } ∷ record { slot = 1; block = None; updated = false } ∷ []; block_count = 9 }, Done)
  -- 114 UPDATE ( 1 -- 1 )
  pub update_2 : (w : ℕ) (s : Whole) → row 114 w (record s { values = [] ▸ 1; buffers = start 4 }) ≡ (record s { values = [] ▸ 1; buffers = start 4 }, Done)
  -- 114 UPDATE ( -- )
  pub update_3 : (w : ℕ) (s : Whole) → row 114 w (record s { values = []; buffers = record { slot = 1; block = Some 6; updated = false } ∷ record { slot = 0; block = Some 5; updated = false } ∷ record { slot = 3; block = None; updated = false } ∷ record { slot = 2; block = None; updated = false } ∷ []; block_count = 9 }) ≡ (record s { values = []; buffers = record { slot = 1; block = Some 6; updated = true } ∷ record { slot = 0; block = Some 5; updated = false } ∷ record { slot = 3; block = None; updated = false } ∷ record { slot = 2; block = None; updated = false } ∷ []; block_count = 9 }, Done)
  -- 115 SAVE-BUFFERS ( -- )
  pub save_buffers_2 : (w : ℕ) (s : Whole) → row 115 w (record s { values = []; buffers = record { slot = 0; block = Some 5; updated = false } ∷ record { slot = 3; block = None; updated = false } ∷ record { slot = 2; block = None; updated = false } ∷ record { slot = 1; block = None; updated = false } ∷ []; block_count = 9 }) ≡ (record s { values = []; buffers = record { slot = 0; block = Some 5; updated = false } ∷ record { slot = 3; block = None; updated = false } ∷ record { slot = 2; block = None; updated = false } ∷ record { slot = 1; block = None; updated = false } ∷ []; block_count = 9 }, Done)
  -- 115 SAVE-BUFFERS ( 1 -- 1 ) asks write 5
  pub save_buffers_3 : (w : ℕ) (s : Whole) → row 115 w (record s { values = [] ▸ 1; buffers = record { slot = 0; block = Some 5; updated = true } ∷ record { slot = 3; block = None; updated = false } ∷ record { slot = 2; block = None; updated = false } ∷ record { slot = 1; block = None; updated = false } ∷ []; block_count = 9 }) ≡ (record s { values = [] ▸ 1; buffers = record { slot = 0; block = Some 5; updated = true } ∷ record { slot = 3; block = None; updated = false } ∷ record { slot = 2; block = None; updated = false } ∷ record { slot = 1; block = None; updated = false } ∷ []; block_count = 9 }, Ask (request.Write 5))
  -- 116 FLUSH ( 1 -- 1 )
  pub flush_2 : (w : ℕ) (s : Whole) → row 116 w (record s { values = [] ▸ 1; buffers = record { slot = 0; block = Some 5; updated = false } ∷ record { slot = 3; block = None; updated = false } ∷ record { slot = 2; block = None; updated = false } ∷ record { slot = 1; block = None; updated = false } ∷ []; block_count = 9 }) ≡ (record s { values = [] ▸ 1; buffers = record { slot = 0; block = None; updated = false } ∷ record { slot = 3; block = None; updated = false } ∷ record { slot = 2; block = None; updated = false } ∷ record { slot = 1; block = None; updated = false } ∷ []; block_count = 9 }, Done)
  -- 116 FLUSH ( -- ) asks write 5
  pub flush_3 : (w : ℕ) (s : Whole) → row 116 w (record s { values = []; buffers = record { slot = 0; block = Some 5; updated = true } ∷ record { slot = 3; block = None; updated = false } ∷ record { slot = 2; block = None; updated = false } ∷ record { slot = 1; block = None; updated = false } ∷ []; block_count = 9 }) ≡ (record s { values = []; buffers = record { slot = 0; block = Some 5; updated = true } ∷ record { slot = 3; block = None; updated = false } ∷ record { slot = 2; block = None; updated = false } ∷ record { slot = 1; block = None; updated = false } ∷ []; block_count = 9 }, Ask (request.Write 5))
  -- 117 EMPTY-BUFFERS ( -- )
  pub empty_buffers_2 : (w : ℕ) (s : Whole) → row 117 w (record s { values = []; buffers = record { slot = 1; block = Some 6; updated = false } ∷ record { slot = 0; block = Some 5; updated = false } ∷ record { slot = 3; block = None; updated = false } ∷ record { slot = 2; block = None; updated = false } ∷ []; block_count = 9 }) ≡ (record s { values = []; buffers = record { slot = 1; block = None; updated = false } ∷ record { slot = 0; block = None; updated = false } ∷ record { slot = 3; block = None; updated = false } ∷ record { slot = 2; block = None; updated = false } ∷ []; block_count = 9 }, Done)
  -- 117 EMPTY-BUFFERS ( 1 -- 1 )
  pub empty_buffers_3 : (w : ℕ) (s : Whole) → row 117 w (record s { values = [] ▸ 1; buffers = record { slot = 0; block = Some 5; updated = true } ∷ record { slot = 3; block = None; updated = false } ∷ record { slot = 2; block = None; updated = false } ∷ record { slot = 1; block = None; updated = false } ∷ []; block_count = 9 }) ≡ (record s { values = [] ▸ 1; buffers = record { slot = 0; block = None; updated = false } ∷ record { slot = 3; block = None; updated = false } ∷ record { slot = 2; block = None; updated = false } ∷ record { slot = 1; block = None; updated = false } ∷ []; block_count = 9 }, Done)
  -- 118 KEY ( -- ) asks key
  pub key_2 : (w : ℕ) (s : Whole) → row 118 w (record s { values = []; buffers = record { slot = 0; block = Some 5; updated = true } ∷ record { slot = 3; block = None; updated = false } ∷ record { slot = 2; block = None; updated = false } ∷ record { slot = 1; block = None; updated = false } ∷ []; block_count = 9 }) ≡ (record s { values = []; buffers = record { slot = 0; block = Some 5; updated = true } ∷ record { slot = 3; block = None; updated = false } ∷ record { slot = 2; block = None; updated = false } ∷ record { slot = 1; block = None; updated = false } ∷ []; block_count = 9 }, Ask request.Key)
  -- 118 KEY ( 1 2 3 -- 1 2 3 ) asks key
  pub key_3 : (w : ℕ) (s : Whole) → row 118 w (record s { values = [] ▸ 1 ▸ 2 ▸ 3; buffers = record { slot = 0; block = Some 5; updated = true } ∷ record { slot = 3; block = None; updated = false } ∷ record { slot = 2; block = None; updated = false } ∷ record { slot = 1; block = None; updated = false } ∷ []; block_count = 9 }) ≡ (record s { values = [] ▸ 1 ▸ 2 ▸ 3; buffers = record { slot = 0; block = Some 5; updated = true } ∷ record { slot = 3; block = None; updated = false } ∷ record { slot = 2; block = None; updated = false } ∷ record { slot = 1; block = None; updated = false } ∷ []; block_count = 9 }, Ask request.Key)
  -- 119 EXPECT ( 5 -- same ) fault 1
  pub expect_3 : (w : ℕ) (s : Whole) → row 119 w (record s { values = [] ▸ 5; buffers = record { slot = 0; block = Some 5; updated = true } ∷ record { slot = 3; block = None; updated = false } ∷ record { slot = 2; block = None; updated = false } ∷ record { slot = 1; block = None; updated = false } ∷ []; block_count = 9 }) ≡ (record s { values = [] ▸ 5; buffers = record { slot = 0; block = Some 5; updated = true } ∷ record { slot = 3; block = None; updated = false } ∷ record { slot = 2; block = None; updated = false } ∷ record { slot = 1; block = None; updated = false } ∷ []; block_count = 9 }, Fault 1)
  -- 120 EMIT ( -- ) fault 1
  pub emit_3 : (w : ℕ) (s : Whole) → row 120 w (record s { values = []; buffers = record { slot = 0; block = Some 5; updated = true } ∷ record { slot = 3; block = None; updated = false } ∷ record { slot = 2; block = None; updated = false } ∷ record { slot = 1; block = None; updated = false } ∷ []; block_count = 9 }) ≡ (record s { values = []; buffers = record { slot = 0; block = Some 5; updated = true } ∷ record { slot = 3; block = None; updated = false } ∷ record { slot = 2; block = None; updated = false } ∷ record { slot = 1; block = None; updated = false } ∷ []; block_count = 9 }, Fault 1)
  -- 121 TYPE ( 1 300 0 -- 1 ) shows 300 0
  pub type_out_3 : (w : ℕ) (s : Whole) → row 121 w (record s { values = [] ▸ 1 ▸ 300 ▸ 0; buffers = record { slot = 0; block = Some 5; updated = true } ∷ record { slot = 3; block = None; updated = false } ∷ record { slot = 2; block = None; updated = false } ∷ record { slot = 1; block = None; updated = false } ∷ []; block_count = 9 }) ≡ (record s { values = [] ▸ 1; buffers = record { slot = 0; block = Some 5; updated = true } ∷ record { slot = 3; block = None; updated = false } ∷ record { slot = 2; block = None; updated = false } ∷ record { slot = 1; block = None; updated = false } ∷ []; block_count = 9 }, Show (record { at = 300; len = 0 }))
