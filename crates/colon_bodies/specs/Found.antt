-- A definition found again in its bytes.
use Rattle.std.specs.Prelude.{Bool, true, false, cond, ℕ, ◌+◌, ◌*◌, List, [], ◌∷◌, length, map, take, drop, Option, Some, None}
use Rattle.std.proofs.Common.{zero, suc}
use Rattle.std.proofs.Math.Dec.{eqb}
use Rattle.memory.specs.Controls.{number_of}
use Rattle.memory.specs.declared.controls.Control.TheVariants as ctl
use Rattle.colon_bodies.specs.Tree.{Empty, Definition}
use Rattle.colon_bodies.specs.Instructions.{Instr, ICall, INum, ICompile, IText, IQuery, IBranch, IDo, ILoop, IDoes}
use Rattle.colon_bodies.specs.Structures.{FTop, run}

-- one instruction off the front
pub data Front : Type 0 where
  Off : Front
  First : Instr → List ℕ → Front

pub data Peeled : Type 0 where
  Short : Peeled
  Peel : ℕ → List ℕ → Peeled

abbrev pub peel : List ℕ → Peeled
peel (a ∷ b ∷ rest) = Peel (a + 256 * b) rest
peel _ = Short

abbrev pub with_cell : (ℕ → Instr) → Peeled → Front
with_cell f Short = Off
with_cell f (Peel x rest) = First (f x) rest

abbrev pub with_text : Bool → List ℕ → Front
with_text k [] = Off
with_text k (n ∷ rest) = First (IText k (take n rest)) (drop n rest)

-- which control's cell this is
abbrev pub is_cell : (ℕ → ℕ) → ℕ → ℕ → Bool
is_cell rt k c = cond (eqb c 0) false (eqb c (rt k))

abbrev pub pick : (ℕ → ℕ) → ℕ → List ℕ → Option ℕ
pick rt c [] = None
pick rt c (k ∷ ks) = cond (is_cell rt k c) (Some k) (pick rt c ks)

abbrev pub controls : List ℕ
controls =
    map number_of (ctl.Literal ∷ ctl.ShowText ∷ ctl.AbortText ∷ ctl.ZeroBranch ∷ ctl.Branch ∷ ctl.Do ∷ ctl.Loop ∷ ctl.PlusLoop ∷ ctl.Does ∷ ctl.Compile ∷ [])

abbrev pub of_control : ℕ → List ℕ → Front
of_control k rest =
    cond (eqb k (number_of ctl.Literal)) (with_cell INum (peel rest))
    (cond (eqb k (number_of ctl.ShowText)) (with_text false rest)
    (cond (eqb k (number_of ctl.AbortText)) (with_text true rest)
    (cond (eqb k (number_of ctl.ZeroBranch)) (with_cell IQuery (peel rest))
    (cond (eqb k (number_of ctl.Branch)) (with_cell IBranch (peel rest))
    (cond (eqb k (number_of ctl.Do)) (with_cell IDo (peel rest))
    (cond (eqb k (number_of ctl.Loop)) (with_cell (ILoop false) (peel rest))
    (cond (eqb k (number_of ctl.PlusLoop)) (with_cell (ILoop true) (peel rest))
    (cond (eqb k (number_of ctl.Does)) (First IDoes rest) (with_cell ICompile (peel rest))))))))))

abbrev pub chosen : ℕ → List ℕ → Option ℕ → Front
chosen c rest None = First (ICall c) rest
chosen c rest (Some k) = of_control k rest

abbrev pub off : (ℕ → ℕ) → Peeled → Front
off rt Short = Off
off rt (Peel c rest) = chosen c rest (pick rt c controls)

abbrev pub first : (ℕ → ℕ) → List ℕ → Front
first rt bs = off rt (peel bs)

-- all instructions; the number of bytes is more than enough
abbrev pub with_first : Instr → Option (List Instr) → Option (List Instr)
with_first i None = None
with_first i (Some is) = Some (i ∷ is)

abbrev pub and_more : Front → (List ℕ → Option (List Instr)) → Option (List Instr)
and_more Off go = None
and_more (First i rest) go = with_first i (go rest)

abbrev pub instrs : (ℕ → ℕ) → ℕ → List ℕ → Option (List Instr)
instrs rt n [] = Some []
instrs rt zero (b ∷ bs) = None
instrs rt (suc n) (b ∷ bs) = and_more (first rt (b ∷ bs)) (instrs rt n)

-- those before the last, if that is EXIT
abbrev pub if_exit : ℕ → Instr → Option (List Instr)
if_exit e (ICall w) = cond (eqb w e) (Some []) None
if_exit e _ = None

abbrev pub before_exit : ℕ → List Instr → Option (List Instr)
before_exit e [] = None
before_exit e (i ∷ []) = if_exit e i
before_exit e (i ∷ j ∷ is) = with_first i (before_exit e (j ∷ is))

abbrev pub before_last : ℕ → Option (List Instr) → Option (List Instr)
before_last e None = None
before_last e (Some is) = before_exit e is

abbrev pub built_of : ℕ → Option (List Instr) → Option Definition
built_of at None = None
built_of at (Some is) = run is FTop Empty at

-- the definition whose thread these bytes may be
abbrev pub found : (ℕ → ℕ) → List ℕ → (at : ℕ) → Option Definition
found rt bs at = built_of at (before_last (rt (number_of ctl.Exit)) (instrs rt (length bs) bs))
