-- How the structures of a body are found again in its instructions.
use Rattle.std.specs.Prelude.{ℕ, Bool, false, ◌+◌, List, [], ◌∷◌, length, Option, Some, None, ◌-◌, cond}
use Rattle.std.proofs.Common.{zero, suc}
use Rattle.std.proofs.Math.Dec.{ltb}
use Rattle.colon_bodies.specs.Tree.{Body, Definition, Empty, Call, Literal, Double, Tick, Pair, IfThen, IfElse, Until, Again, While, Loop, Text, Simple, Doing}
use Rattle.colon_bodies.specs.Code.{size}
use Rattle.colon_bodies.specs.Instructions.{Instr, len, ICall, INum, ICompile, IQuery, IBranch, IDo, ILoop, IText, IDoes}

-- one body after another
abbrev pub join : Body → Body → Body
join c Empty = c
join c (Call t f w) = Call (join c t) f w
join c (Tick t w) = Tick (join c t) w
join c (Pair t f w) = Pair (join c t) f w
join c (Literal t n) = Literal (join c t) n
join c (Double t n) = Double (join c t) n
join c (Text t k bs) = Text (join c t) k bs
join c (IfThen t a) = IfThen (join c t) a
join c (IfElse t a b) = IfElse (join c t) a b
join c (Until t a) = Until (join c t) a
join c (Again t a) = Again (join c t) a
join c (While t a b) = While (join c t) a b
join c (Loop t a k) = Loop (join c t) a k

-- the last n bytes of a body, if it can be cut there
pub data Cut : Type 0 where
  Nowhere : Cut
  Between : (front back : Body) → Cut

abbrev pub onto : (Body → Body) → Cut → Cut
onto f Nowhere = Nowhere
onto f (Between c a) = Between c (f a)

abbrev pub cut_last : ℕ → ℕ → Body → (Body → Body) → (ℕ → Cut) → Cut
cut_last zero k whole f go = Between whole Empty
cut_last (suc n) k whole f go = cond (ltb (suc n) k) Nowhere (onto f (go (suc n - k)))

abbrev pub split : Body → ℕ → Cut
split Empty n = cut_last n 0 Empty (λ c. c) (λ m. Nowhere)
split (Call t f w) n = cut_last n 2 (Call t f w) (λ c. Call c f w) (split t)
split (Tick t w) n = cut_last n 4 (Tick t w) (λ c. Tick c w) (split t)
split (Pair t f w) n = cut_last n 4 (Pair t f w) (λ c. Pair c f w) (split t)
split (Literal t w) n = cut_last n 4 (Literal t w) (λ c. Literal c w) (split t)
split (Double t w) n = cut_last n 8 (Double t w) (λ c. Double c w) (split t)
split (Text t k bs) n = cut_last n (3 + length bs) (Text t k bs) (λ c. Text c k bs) (split t)
split (IfThen t a) n = cut_last n (4 + size a) (IfThen t a) (λ c. IfThen c a) (split t)
split (IfElse t a b) n = cut_last n (8 + size a + size b) (IfElse t a b) (λ c. IfElse c a b) (split t)
split (Until t a) n = cut_last n (size a + 4) (Until t a) (λ c. Until c a) (split t)
split (Again t a) n = cut_last n (size a + 4) (Again t a) (λ c. Again c a) (split t)
split (While t a b) n = cut_last n (8 + size a + size b) (While t a b) (λ c. While c a b) (split t)
split (Loop t a k) n = cut_last n (8 + size a) (Loop t a k) (λ c. Loop c a k) (split t)

-- The machine: the open structures, of which a BEGIN is none, with their targets.
pub data Frames : Type 0 where
  FTop : Frames
  FPast : Body → Frames
  FIf : Frames → Body → (to : ℕ) → Frames
  FElse : Frames → Body → Body → (to : ℕ) → Frames
  FDo : Frames → Body → Frames

pub data Shape : Type 0 where
  In : Frames → Body → Shape

-- structures that end here
abbrev pub shut : Frames → Body → ℕ → Shape
shut FTop c here = In FTop c
shut (FPast t) c here = In (FPast t) c
shut (FIf f t to) c here = cond (ltb here to) (In (FIf f t to) c) (shut f (IfThen t c) here)
shut (FElse f t a to) c here = cond (ltb here to) (In (FElse f t a to) c) (shut f (IfElse t a c) here)
shut (FDo f t) c here = In (FDo f t) c

abbrev pub until_at : Frames → Cut → Option Shape
until_at f Nowhere = None
until_at f (Between c a) = Some (In f (Until c a))

abbrev pub again_at : Frames → Cut → Option Shape
again_at f Nowhere = None
again_at f (Between c a) = Some (In f (Again c a))

abbrev pub while_at : Frames → Body → Cut → Option Shape
while_at f b Nowhere = None
while_at f b (Between c a) = Some (In f (While c a b))

abbrev pub else_at : Frames → Body → ℕ → Option Shape
else_at (FIf f t l) a to = Some (In (FElse f t a to) Empty)
else_at _ a to = None

-- a jump back over the start of the innermost body ends a WHILE
abbrev pub repeat_at : Frames → Body → ℕ → ℕ → Option Shape
repeat_at (FIf f t l) b here to = while_at f b (split t (here - (size b + 4) - to))
repeat_at _ b here to = None

abbrev pub loop_at : Frames → Body → (plus : Bool) → Option Shape
loop_at (FDo f t) a k = Some (In f (Loop t a k))
loop_at _ a k = None

abbrev pub does_at : Frames → Body → Option Shape
does_at FTop c = Some (In (FPast c) Empty)
does_at _ c = None

abbrev pub step : Frames → Body → ℕ → Instr → Option Shape
step f c here (ICall w) = Some (In f (Call c false w))
step f c here (ICompile w) = Some (In f (Pair c false w))
step f c here (INum n) = Some (In f (Literal c n))
step f c here (IText k bs) = Some (In f (Text c k bs))
step f c here (IQuery to) = cond (ltb here to) (Some (In (FIf f c to) Empty)) (until_at f (split c (here - to)))
step f c here (IBranch to) =
    cond (ltb here to) (else_at f c to) (cond (ltb to (here - size c)) (repeat_at f c here to) (again_at f (split c (here - to))))
step f c here (IDo to) = Some (In (FDo f c) Empty)
step f c here (ILoop k to) = loop_at f c k
step f c here IDoes = does_at f c

abbrev pub went : Option Shape → (Frames → Body → Option Definition) → Option Definition
went None go = None
went (Some (In f c)) go = go f c

abbrev pub onward : Shape → ℕ → Instr → (Frames → Body → Option Definition) → Option Definition
onward (In f c) here i go = went (step f c here i) go

abbrev pub done : Shape → Option Definition
done (In FTop c) = Some (Simple c)
done (In (FPast t) c) = Some (Doing t c)
done _ = None

abbrev pub run : List Instr → Frames → Body → ℕ → Option Definition
run [] f c here = done (shut f c here)
run (i ∷ is) f c here = onward (shut f c here) here i (λ g d. run is g d (here + len i))
