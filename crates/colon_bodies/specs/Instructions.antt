-- A body as a list of instructions.
use Rattle.std.specs.Prelude.{ℕ, Bool, ◌+◌, ◌/◌, ◌%◌, List, [], ◌∷◌, ◌++◌, length}
use Rattle.colon_bodies.specs.Tree.{Body, Definition, Empty, Call, Literal, Double, Tick, Pair, IfThen, IfElse, Until, Again, While, Loop, Text, Simple, Doing}
use Rattle.colon_bodies.specs.Code.{size}

pub data Instr : Type 0 where
  ICall : (w : ℕ) → Instr
  INum : (n : ℕ) → Instr
  ICompile : (w : ℕ) → Instr
  IText : (aborts : Bool) → (bytes : List ℕ) → Instr
  IQuery : (to : ℕ) → Instr
  IBranch : (to : ℕ) → Instr
  IDo : (to : ℕ) → Instr
  ILoop : (plus : Bool) → (to : ℕ) → Instr
  IDoes : Instr

abbrev pub len : Instr → ℕ
len (ICall w) = 2
len (INum n) = 4
len (ICompile w) = 4
len (IText k bs) = 3 + length bs
len (IQuery l) = 4
len (IBranch l) = 4
len (IDo l) = 4
len (ILoop k l) = 4
len IDoes = 2

abbrev pub flat : Body → ℕ → List Instr
flat Empty at = []
flat (Call t f w) at = flat t at ++ ICall w ∷ []
flat (Literal t n) at = flat t at ++ INum n ∷ []
flat (Double t n) at = flat t at ++ INum (n % 65536) ∷ INum (n / 65536) ∷ []
flat (Tick t w) at = flat t at ++ INum w ∷ []
flat (Pair t f w) at = flat t at ++ ICompile w ∷ []
flat (IfThen t a) at =
    let p = at + size t in
    flat t at ++ (IQuery (p + (4 + size a)) ∷ flat a (p + 4))
flat (IfElse t a b) at =
    let p = at + size t in
    flat t at ++ (IQuery (p + (8 + size a)) ∷ (flat a (p + 4) ++ (IBranch (p + (8 + size a + size b)) ∷ flat b (p + (8 + size a)))))
flat (Until t a) at =
    let p = at + size t in
    flat t at ++ (flat a p ++ IQuery p ∷ [])
flat (Again t a) at =
    let p = at + size t in
    flat t at ++ (flat a p ++ IBranch p ∷ [])
flat (While t a b) at =
    let p = at + size t in
    flat t at ++ (flat a p ++ (IQuery (p + (8 + size a + size b)) ∷ (flat b (p + (size a + 4)) ++ IBranch p ∷ [])))
flat (Loop t a k) at =
    let p = at + size t in
    flat t at ++ (IDo (p + (8 + size a)) ∷ (flat a (p + 4) ++ ILoop k (p + 4) ∷ []))
flat (Text t k bs) at = flat t at ++ IText k bs ∷ []

abbrev pub flat_all : Definition → ℕ → List Instr
flat_all (Simple t) at = flat t at
flat_all (Doing t a) at = flat t at ++ (IDoes ∷ flat a (at + (size t + 2)))
