-- Written by tools/make-row-examples from tests/cases/conformance/data/examples.txt.
use Rattle.std.specs.Prelude.{◌≡◌, ℕ, []}
use Rattle.machine_parts.specs.Whole.{Whole}
use Rattle.machine_parts.specs.declared.parts.Outcome.TheVariants.{Done, Fault}
use Rattle.primitives.specs.Table.{row}
use Rattle.stacks.specs.Cells.{◌▸◌}

pub record StackExamples : Type 0 where
  -- 32 DUP ( 1 -- 1 1 )
  pub dup_1 : (w : ℕ) (s : Whole) → row 32 w (record s { values = [] ▸ 1 }) ≡ (record s { values = [] ▸ 1 ▸ 1 }, Done)
  -- 32 DUP ( 5 -1 -- 5 -1 -1 )
  pub dup_2 : (w : ℕ) (s : Whole) → row 32 w (record s { values = [] ▸ 5 ▸ 65535 }) ≡ (record s { values = [] ▸ 5 ▸ 65535 ▸ 65535 }, Done)
  -- 32 DUP ( -- ) fault 1
  pub dup_3 : (w : ℕ) (s : Whole) → row 32 w (record s { values = [] }) ≡ (record s { values = [] }, Fault 1)
  -- 33 DROP ( 1 2 -- 1 )
  pub drop_cell_1 : (w : ℕ) (s : Whole) → row 33 w (record s { values = [] ▸ 1 ▸ 2 }) ≡ (record s { values = [] ▸ 1 }, Done)
  -- 33 DROP ( -- ) fault 1
  pub drop_cell_2 : (w : ℕ) (s : Whole) → row 33 w (record s { values = [] }) ≡ (record s { values = [] }, Fault 1)
  -- 34 SWAP ( 1 2 -- 2 1 )
  pub swap_1 : (w : ℕ) (s : Whole) → row 34 w (record s { values = [] ▸ 1 ▸ 2 }) ≡ (record s { values = [] ▸ 2 ▸ 1 }, Done)
  -- 34 SWAP ( 3 1 2 -- 3 2 1 )
  pub swap_2 : (w : ℕ) (s : Whole) → row 34 w (record s { values = [] ▸ 3 ▸ 1 ▸ 2 }) ≡ (record s { values = [] ▸ 3 ▸ 2 ▸ 1 }, Done)
  -- 34 SWAP ( 1 -- same ) fault 1
  pub swap_3 : (w : ℕ) (s : Whole) → row 34 w (record s { values = [] ▸ 1 }) ≡ (record s { values = [] ▸ 1 }, Fault 1)
  -- 35 OVER ( 1 2 -- 1 2 1 )
  pub over_1 : (w : ℕ) (s : Whole) → row 35 w (record s { values = [] ▸ 1 ▸ 2 }) ≡ (record s { values = [] ▸ 1 ▸ 2 ▸ 1 }, Done)
  -- 35 OVER ( 1 -- same ) fault 1
  pub over_2 : (w : ℕ) (s : Whole) → row 35 w (record s { values = [] ▸ 1 }) ≡ (record s { values = [] ▸ 1 }, Fault 1)
  -- 36 ROT ( 1 2 3 -- 2 3 1 )
  pub rot_1 : (w : ℕ) (s : Whole) → row 36 w (record s { values = [] ▸ 1 ▸ 2 ▸ 3 }) ≡ (record s { values = [] ▸ 2 ▸ 3 ▸ 1 }, Done)
  -- 36 ROT ( 0 1 2 3 -- 0 2 3 1 )
  pub rot_2 : (w : ℕ) (s : Whole) → row 36 w (record s { values = [] ▸ 0 ▸ 1 ▸ 2 ▸ 3 }) ≡ (record s { values = [] ▸ 0 ▸ 2 ▸ 3 ▸ 1 }, Done)
  -- 36 ROT ( 1 2 -- same ) fault 1
  pub rot_3 : (w : ℕ) (s : Whole) → row 36 w (record s { values = [] ▸ 1 ▸ 2 }) ≡ (record s { values = [] ▸ 1 ▸ 2 }, Fault 1)
  -- 37 PICK ( 7 8 9 0 -- 7 8 9 9 )
  pub pick_1 : (w : ℕ) (s : Whole) → row 37 w (record s { values = [] ▸ 7 ▸ 8 ▸ 9 ▸ 0 }) ≡ (record s { values = [] ▸ 7 ▸ 8 ▸ 9 ▸ 9 }, Done)
  -- 37 PICK ( 7 8 9 2 -- 7 8 9 7 )
  pub pick_2 : (w : ℕ) (s : Whole) → row 37 w (record s { values = [] ▸ 7 ▸ 8 ▸ 9 ▸ 2 }) ≡ (record s { values = [] ▸ 7 ▸ 8 ▸ 9 ▸ 7 }, Done)
  -- 37 PICK ( 7 8 9 3 -- same ) fault 1
  pub pick_3 : (w : ℕ) (s : Whole) → row 37 w (record s { values = [] ▸ 7 ▸ 8 ▸ 9 ▸ 3 }) ≡ (record s { values = [] ▸ 7 ▸ 8 ▸ 9 ▸ 3 }, Fault 1)
  -- 38 ROLL ( 7 8 9 0 -- 7 8 9 )
  pub roll_1 : (w : ℕ) (s : Whole) → row 38 w (record s { values = [] ▸ 7 ▸ 8 ▸ 9 ▸ 0 }) ≡ (record s { values = [] ▸ 7 ▸ 8 ▸ 9 }, Done)
  -- 38 ROLL ( 7 8 9 2 -- 8 9 7 )
  pub roll_2 : (w : ℕ) (s : Whole) → row 38 w (record s { values = [] ▸ 7 ▸ 8 ▸ 9 ▸ 2 }) ≡ (record s { values = [] ▸ 8 ▸ 9 ▸ 7 }, Done)
  -- 38 ROLL ( 7 8 9 3 -- same ) fault 1
  pub roll_3 : (w : ℕ) (s : Whole) → row 38 w (record s { values = [] ▸ 7 ▸ 8 ▸ 9 ▸ 3 }) ≡ (record s { values = [] ▸ 7 ▸ 8 ▸ 9 ▸ 3 }, Fault 1)
  -- 39 ?DUP ( 7 -- 7 7 )
  pub question_dup_1 : (w : ℕ) (s : Whole) → row 39 w (record s { values = [] ▸ 7 }) ≡ (record s { values = [] ▸ 7 ▸ 7 }, Done)
  -- 39 ?DUP ( 0 -- 0 )
  pub question_dup_2 : (w : ℕ) (s : Whole) → row 39 w (record s { values = [] ▸ 0 }) ≡ (record s { values = [] ▸ 0 }, Done)
  -- 39 ?DUP ( -- ) fault 1
  pub question_dup_3 : (w : ℕ) (s : Whole) → row 39 w (record s { values = [] }) ≡ (record s { values = [] }, Fault 1)
  -- 40 DEPTH ( -- 0 )
  pub depth_1 : (w : ℕ) (s : Whole) → row 40 w (record s { values = [] }) ≡ (record s { values = [] ▸ 0 }, Done)
  -- 40 DEPTH ( 7 8 9 -- 7 8 9 3 )
  pub depth_2 : (w : ℕ) (s : Whole) → row 40 w (record s { values = [] ▸ 7 ▸ 8 ▸ 9 }) ≡ (record s { values = [] ▸ 7 ▸ 8 ▸ 9 ▸ 3 }, Done)
  -- 41 2DROP ( 1 2 3 -- 1 )
  pub two_drop_1 : (w : ℕ) (s : Whole) → row 41 w (record s { values = [] ▸ 1 ▸ 2 ▸ 3 }) ≡ (record s { values = [] ▸ 1 }, Done)
  -- 41 2DROP ( 1 -- same ) fault 1
  pub two_drop_2 : (w : ℕ) (s : Whole) → row 41 w (record s { values = [] ▸ 1 }) ≡ (record s { values = [] ▸ 1 }, Fault 1)
  -- 42 2DUP ( 1 2 -- 1 2 1 2 )
  pub two_dup_1 : (w : ℕ) (s : Whole) → row 42 w (record s { values = [] ▸ 1 ▸ 2 }) ≡ (record s { values = [] ▸ 1 ▸ 2 ▸ 1 ▸ 2 }, Done)
  -- 42 2DUP ( 1 -- same ) fault 1
  pub two_dup_2 : (w : ℕ) (s : Whole) → row 42 w (record s { values = [] ▸ 1 }) ≡ (record s { values = [] ▸ 1 }, Fault 1)
  -- 43 2OVER ( 1 2 3 4 -- 1 2 3 4 1 2 )
  pub two_over_1 : (w : ℕ) (s : Whole) → row 43 w (record s { values = [] ▸ 1 ▸ 2 ▸ 3 ▸ 4 }) ≡ (record s { values = [] ▸ 1 ▸ 2 ▸ 3 ▸ 4 ▸ 1 ▸ 2 }, Done)
  -- 43 2OVER ( 1 2 3 -- same ) fault 1
  pub two_over_2 : (w : ℕ) (s : Whole) → row 43 w (record s { values = [] ▸ 1 ▸ 2 ▸ 3 }) ≡ (record s { values = [] ▸ 1 ▸ 2 ▸ 3 }, Fault 1)
  -- 44 2ROT ( 1 2 3 4 5 6 -- 3 4 5 6 1 2 )
  pub two_rot_1 : (w : ℕ) (s : Whole) → row 44 w (record s { values = [] ▸ 1 ▸ 2 ▸ 3 ▸ 4 ▸ 5 ▸ 6 }) ≡ (record s { values = [] ▸ 3 ▸ 4 ▸ 5 ▸ 6 ▸ 1 ▸ 2 }, Done)
  -- 44 2ROT ( 1 2 3 4 5 -- same ) fault 1
  pub two_rot_2 : (w : ℕ) (s : Whole) → row 44 w (record s { values = [] ▸ 1 ▸ 2 ▸ 3 ▸ 4 ▸ 5 }) ≡ (record s { values = [] ▸ 1 ▸ 2 ▸ 3 ▸ 4 ▸ 5 }, Fault 1)
  -- 45 2SWAP ( 1 2 3 4 -- 3 4 1 2 )
  pub two_swap_1 : (w : ℕ) (s : Whole) → row 45 w (record s { values = [] ▸ 1 ▸ 2 ▸ 3 ▸ 4 }) ≡ (record s { values = [] ▸ 3 ▸ 4 ▸ 1 ▸ 2 }, Done)
  -- 45 2SWAP ( 1 2 3 -- same ) fault 1
  pub two_swap_2 : (w : ℕ) (s : Whole) → row 45 w (record s { values = [] ▸ 1 ▸ 2 ▸ 3 }) ≡ (record s { values = [] ▸ 1 ▸ 2 ▸ 3 }, Fault 1)
  -- 33 DROP ( 5 -- )
  pub drop_cell_3 : (w : ℕ) (s : Whole) → row 33 w (record s { values = [] ▸ 5 }) ≡ (record s { values = [] }, Done)
  -- 35 OVER ( 7 5 6 -- 7 5 6 5 )
  pub over_3 : (w : ℕ) (s : Whole) → row 35 w (record s { values = [] ▸ 7 ▸ 5 ▸ 6 }) ≡ (record s { values = [] ▸ 7 ▸ 5 ▸ 6 ▸ 5 }, Done)
  -- 40 DEPTH ( 5 -- 5 1 )
  pub depth_3 : (w : ℕ) (s : Whole) → row 40 w (record s { values = [] ▸ 5 }) ≡ (record s { values = [] ▸ 5 ▸ 1 }, Done)
  -- 41 2DROP ( 1 2 -- )
  pub two_drop_3 : (w : ℕ) (s : Whole) → row 41 w (record s { values = [] ▸ 1 ▸ 2 }) ≡ (record s { values = [] }, Done)
  -- 42 2DUP ( 9 0 -1 -- 9 0 -1 0 -1 )
  pub two_dup_3 : (w : ℕ) (s : Whole) → row 42 w (record s { values = [] ▸ 9 ▸ 0 ▸ 65535 }) ≡ (record s { values = [] ▸ 9 ▸ 0 ▸ 65535 ▸ 0 ▸ 65535 }, Done)
  -- 43 2OVER ( 9 1 2 3 4 -- 9 1 2 3 4 1 2 )
  pub two_over_3 : (w : ℕ) (s : Whole) → row 43 w (record s { values = [] ▸ 9 ▸ 1 ▸ 2 ▸ 3 ▸ 4 }) ≡ (record s { values = [] ▸ 9 ▸ 1 ▸ 2 ▸ 3 ▸ 4 ▸ 1 ▸ 2 }, Done)
  -- 44 2ROT ( 0 1 2 3 4 5 6 -- 0 3 4 5 6 1 2 )
  pub two_rot_3 : (w : ℕ) (s : Whole) → row 44 w (record s { values = [] ▸ 0 ▸ 1 ▸ 2 ▸ 3 ▸ 4 ▸ 5 ▸ 6 }) ≡ (record s { values = [] ▸ 0 ▸ 3 ▸ 4 ▸ 5 ▸ 6 ▸ 1 ▸ 2 }, Done)
  -- 45 2SWAP ( 9 1 2 3 4 -- 9 3 4 1 2 )
  pub two_swap_3 : (w : ℕ) (s : Whole) → row 45 w (record s { values = [] ▸ 9 ▸ 1 ▸ 2 ▸ 3 ▸ 4 }) ≡ (record s { values = [] ▸ 9 ▸ 3 ▸ 4 ▸ 1 ▸ 2 }, Done)
