-- The flat instructions of a body, and how the structures are found in them again.
use Rattle.std.proofs.Common.{◌≡◌, false, ℕ, ◌+◌, ◌-◌, ◌<◌, ◌≤◌, cond, List, [], ◌∷◌, ◌++◌, length, Some, refl, sym, ap, ◌∙◌, arith, append_assoc, append-nil}
use Rattle.std.proofs.lemmas.Bool.{le-ltb, lt-ltb}
use Rattle.colon_bodies.specs.Tree.{Body, Empty, Call, Pair, Literal, Text, IfThen, IfElse, Until, Again, While, Loop, Definition, Simple, Doing}
use Rattle.colon_bodies.specs.Code.{size}
use Rattle.colon_bodies.specs.Plain.{IsPlainBody, IsPlainDefinition}
use Rattle.colon_bodies.specs.Instructions.{Instr, ICall, INum, ICompile, IText, IQuery, IBranch, IDo, ILoop, IDoes, len, flat, flat_all}
use Rattle.colon_bodies.specs.Structures.{join, Cut, Between, cut_last, split, Frames, FTop, FPast, FIf, FElse, FDo, In, shut, until_at, step, onward, done, run}
use Rattle.colon_bodies.proofs.Parts.{by_parts}

pub join-empty : (t : Body) → join Empty t ≡ t
join-empty = by_parts (λ t. join Empty t ≡ t) (elim [ Empty ↦ λ ih. refl | t ↦ λ ih. grind (arith, ih) ])

split_zero : (c : Body) → split c 0 ≡ Between c Empty
split_zero Empty = refl
split_zero _ = refl

cut_at : (n m k : ℕ) (whole : Body) (f : Body → Body) (go : ℕ → Cut) (c a : Body) → n ≡ m + k → 0 < k → go m ≡ Between c a → cut_last n k whole f go ≡ Between c (f a)
cut_at n m k whole f go c a e h g = grind (arith, le-ltb)

pub split_join : (c a : Body) → split (join c a) (size a) ≡ Between c a
split_join c = by_parts (λ a. split (join c a) (size a) ≡ Between c a) (elim [ Empty ↦ λ ih. split_zero c | a ↦ λ ih. grind (arith, cut_at, split_zero, ih) ])

-- nothing ends before an address
abbrev Clear : Frames → ℕ → Type 0
Clear FTop n = Unit {0}
Clear (FPast t) n = Unit {0}
Clear (FIf f t to) n = n ≤ to
Clear (FElse f t a to) n = n ≤ to
Clear (FDo f t) n = Unit {0}

clear_less : (f : Frames) (m n : ℕ) → m ≤ n → Clear f n → Clear f m
clear_less f m n h c = grind arith

-- one instruction
takes : (i : Instr) (is : List Instr) (f g : Frames) (c d : Body) (here n m : ℕ) → here < n → Clear f n → step f c here i ≡ Some (In g d) → here + len i ≡ m → run (i ∷ is) f c here ≡ run is g d m
takes i is f g c d here n m h k e l = grind (arith, lt-ltb)

-- a structure that ends
ends : (is : List Instr) (f g : Frames) (c d : Body) (here : ℕ) → shut f c here ≡ shut g d here → run is f c here ≡ run is g d here
ends [] f g c d here e = ap done e
ends (i ∷ is) f g c d here e = ap (λ s. onward s here i (λ g d. run is g d (here + len i))) e

shut_if : (f : Frames) (t c : Body) (here : ℕ) → shut (FIf f t here) c here ≡ shut f (IfThen t c) here
shut_if f t c here = ap (λ b. cond b (In (FIf f t here) c) (shut f (IfThen t c) here)) (le-ltb here here (omega arith))

shut_else : (f : Frames) (t a c : Body) (here : ℕ) → shut (FElse f t a here) c here ≡ shut f (IfElse t a c) here
shut_else f t a c here = ap (λ b. cond b (In (FElse f t a here) c) (shut f (IfElse t a c) here)) (le-ltb here here (omega arith))

size-join : (c t : Body) → size (join c t) ≡ size c + size t
size-join c = by_parts (λ t. size (join c t) ≡ size c + size t) (elim [ Empty ↦ λ ih. omega arith | t ↦ λ ih. grind (arith, ih) ])

-- each jump, if it is in code
step_forward : (f : Frames) (c : Body) (here to : ℕ) → here < to → step f c here (IQuery to) ≡ Some (In (FIf f c to) Empty)
step_forward f c here to h = ap (λ b. cond b (Some (In (FIf f c to) Empty)) (until_at f (split c (here - to)))) (lt-ltb here to h)

step_else : (f : Frames) (t a : Body) (l here to : ℕ) → here < to → step (FIf f t l) a here (IBranch to) ≡ Some (In (FElse f t a to) Empty)
step_else f t a l here to h = grind (arith, lt-ltb)

cut_here : (c a : Body) (q p : ℕ) → q ≡ p + size a → split (join c a) (q - p) ≡ Between c a
cut_here c a q p e = let n : q - p ≡ size a = omega arith in ap (split (join c a)) n ∙ split_join c a

step_until : (f : Frames) (c a : Body) (q p : ℕ) → q ≡ p + size a → step f (join c a) q (IQuery p) ≡ Some (In f (Until c a))
step_until f c a q p e = grind (arith, le-ltb, cut_here)

step_again : (f : Frames) (c a : Body) (q p : ℕ) → q ≡ p + size a → step f (join c a) q (IBranch p) ≡ Some (In f (Again c a))
step_again f c a q p e = grind (arith, le-ltb, size-join, cut_here)

step_repeat : (f : Frames) (c a b : Body) (l q p : ℕ) → q ≡ p + (size a + 4) + size b → step (FIf f (join c a) l) b q (IBranch p) ≡ Some (In f (While c a b))
step_repeat f c a b l q p e = grind (arith, le-ltb, lt-ltb, cut_here)

pub run_flat : (rt : ℕ → ℕ) (t : Body) (f : Frames) (c : Body) (here : ℕ) (rest : List Instr) → IsPlainBody rt t → Clear f (here + size t) → run (flat t here ++ rest) f c here ≡ run rest f (join c t) (here + size t)
run_flat rt (Call t false w) f c here rest pl k =
    let n = here + (size t + 2) in
    ap (λ l. run l f c here) (append_assoc (flat t here) (ICall w ∷ []) rest)
    ∙ run_flat rt t f c here (ICall w ∷ rest) pl.0 (clear_less f (here + size t) n (omega arith) k)
    ∙ takes (ICall w) rest f f (join c t) (Call (join c t) false w) (here + size t) n n (omega arith) k refl (omega arith)
run_flat rt (Pair t false w) f c here rest pl k =
    let n = here + (size t + 4) in
    ap (λ l. run l f c here) (append_assoc (flat t here) (ICompile w ∷ []) rest)
    ∙ run_flat rt t f c here (ICompile w ∷ rest) pl.0 (clear_less f (here + size t) n (omega arith) k)
    ∙ takes (ICompile w) rest f f (join c t) (Pair (join c t) false w) (here + size t) n n (omega arith) k refl (omega arith)
run_flat rt (Literal t w) f c here rest pl k =
    let n = here + (size t + 4) in
    ap (λ l. run l f c here) (append_assoc (flat t here) (INum w ∷ []) rest)
    ∙ run_flat rt t f c here (INum w ∷ rest) pl.0 (clear_less f (here + size t) n (omega arith) k)
    ∙ takes (INum w) rest f f (join c t) (Literal (join c t) w) (here + size t) n n (omega arith) k refl (omega arith)
run_flat rt (Text t x bs) f c here rest pl k =
    let n = here + (size t + (3 + length bs)) in
    ap (λ l. run l f c here) (append_assoc (flat t here) (IText x bs ∷ []) rest)
    ∙ run_flat rt t f c here (IText x bs ∷ rest) pl.0 (clear_less f (here + size t) n (omega arith) k)
    ∙ takes (IText x bs) rest f f (join c t) (Text (join c t) x bs) (here + size t) n n (omega arith) k refl (omega arith)
run_flat rt (IfThen t a) f c here rest pl k =
    let p = here + size t in
    let n = here + (size t + (4 + size a)) in
    let to = p + (4 + size a) in
    let x = join c t in
    let g = FIf f x to in
    let e : p + 4 + size a ≡ to = omega arith in
    let z : to ≡ n = omega arith in
    ap (λ l. run l f c here) (append_assoc (flat t here) (IQuery to ∷ flat a (p + 4)) rest)
    ∙ run_flat rt t f c here (IQuery to ∷ (flat a (p + 4) ++ rest)) pl.0 (clear_less f p n (omega arith) k)
    ∙ takes (IQuery to) (flat a (p + 4) ++ rest) f g x Empty p n (p + 4) (omega arith) k (step_forward f x p to (omega arith)) refl
    ∙ run_flat rt a g Empty (p + 4) rest pl.2 (omega arith)
    ∙ ap (λ u. run rest g u (p + 4 + size a)) (join-empty a)
    ∙ ap (run rest g a) e
    ∙ ends rest g f a (IfThen x a) to (shut_if f x a to)
    ∙ ap (run rest f (IfThen x a)) z
run_flat rt (IfElse t a b) f c here rest pl k =
    let p = here + size t in
    let n = here + (size t + (8 + size a + size b)) in
    let to1 = p + (8 + size a) in
    let to2 = p + (8 + size a + size b) in
    let x = join c t in
    let g = FIf f x to1 in
    let h = FElse f x a to2 in
    let q = p + 4 + size a in
    let e : to1 + size b ≡ to2 = omega arith in
    let z : to2 ≡ n = omega arith in
    ap (λ l. run l f c here) (append_assoc (flat t here) (IQuery to1 ∷ (flat a (p + 4) ++ (IBranch to2 ∷ flat b to1))) rest)
    ∙ run_flat rt t f c here (IQuery to1 ∷ ((flat a (p + 4) ++ (IBranch to2 ∷ flat b to1)) ++ rest)) pl.0 (clear_less f p n (omega arith) k)
    ∙ takes (IQuery to1) ((flat a (p + 4) ++ (IBranch to2 ∷ flat b to1)) ++ rest) f g x Empty p n (p + 4) (omega arith) k (step_forward f x p to1 (omega arith)) refl
    ∙ ap (λ l. run l g Empty (p + 4)) (append_assoc (flat a (p + 4)) (IBranch to2 ∷ flat b to1) rest)
    ∙ run_flat rt a g Empty (p + 4) (IBranch to2 ∷ (flat b to1 ++ rest)) pl.2 (omega arith)
    ∙ ap (λ u. run (IBranch to2 ∷ (flat b to1 ++ rest)) g u q) (join-empty a)
    ∙ takes (IBranch to2) (flat b to1 ++ rest) g h a Empty q to1 to1 (omega arith) (omega arith) (step_else f x a to1 q to2 (omega arith)) (omega arith)
    ∙ run_flat rt b h Empty to1 rest pl.4 (omega arith)
    ∙ ap (λ u. run rest h u (to1 + size b)) (join-empty b)
    ∙ ap (run rest h b) e
    ∙ ends rest h f b (IfElse x a b) to2 (shut_else f x a b to2)
    ∙ ap (run rest f (IfElse x a b)) z
run_flat rt (Until t a) f c here rest pl k =
    let p = here + size t in
    let n = here + (size t + (size a + 4)) in
    let x = join c t in
    let q = p + size a in
    ap (λ l. run l f c here) (append_assoc (flat t here) (flat a p ++ IQuery p ∷ []) rest)
    ∙ run_flat rt t f c here ((flat a p ++ IQuery p ∷ []) ++ rest) pl.0 (clear_less f p n (omega arith) k)
    ∙ ap (λ l. run l f x p) (append_assoc (flat a p) (IQuery p ∷ []) rest)
    ∙ run_flat rt a f x p (IQuery p ∷ rest) pl.1 (clear_less f q n (omega arith) k)
    ∙ takes (IQuery p) rest f f (join x a) (Until x a) q n n (omega arith) k (step_until f x a q p refl) (omega arith)
run_flat rt (Again t a) f c here rest pl k =
    let p = here + size t in
    let n = here + (size t + (size a + 4)) in
    let x = join c t in
    let q = p + size a in
    ap (λ l. run l f c here) (append_assoc (flat t here) (flat a p ++ IBranch p ∷ []) rest)
    ∙ run_flat rt t f c here ((flat a p ++ IBranch p ∷ []) ++ rest) pl.0 (clear_less f p n (omega arith) k)
    ∙ ap (λ l. run l f x p) (append_assoc (flat a p) (IBranch p ∷ []) rest)
    ∙ run_flat rt a f x p (IBranch p ∷ rest) pl.1 (clear_less f q n (omega arith) k)
    ∙ takes (IBranch p) rest f f (join x a) (Again x a) q n n (omega arith) k (step_again f x a q p refl) (omega arith)
run_flat rt (While t a b) f c here rest pl k =
    let p = here + size t in
    let n = here + (size t + (8 + size a + size b)) in
    let to = p + (8 + size a + size b) in
    let x = join c t in
    let y = join x a in
    let g = FIf f y to in
    let q = p + size a in
    let r = p + (size a + 4) in
    let s = r + size b in
    ap (λ l. run l f c here) (append_assoc (flat t here) (flat a p ++ (IQuery to ∷ (flat b r ++ IBranch p ∷ []))) rest)
    ∙ run_flat rt t f c here ((flat a p ++ (IQuery to ∷ (flat b r ++ IBranch p ∷ []))) ++ rest) pl.0 (clear_less f p n (omega arith) k)
    ∙ ap (λ l. run l f x p) (append_assoc (flat a p) (IQuery to ∷ (flat b r ++ IBranch p ∷ [])) rest)
    ∙ run_flat rt a f x p (IQuery to ∷ ((flat b r ++ IBranch p ∷ []) ++ rest)) pl.1 (clear_less f q n (omega arith) k)
    ∙ takes (IQuery to) ((flat b r ++ IBranch p ∷ []) ++ rest) f g y Empty q n r (omega arith) k (step_forward f y q to (omega arith)) (omega arith)
    ∙ ap (λ l. run l g Empty r) (append_assoc (flat b r) (IBranch p ∷ []) rest)
    ∙ run_flat rt b g Empty r (IBranch p ∷ rest) pl.3 (omega arith)
    ∙ ap (λ u. run (IBranch p ∷ rest) g u s) (join-empty b)
    ∙ takes (IBranch p) rest g f b (While x a b) s to n (omega arith) (omega arith) (step_repeat f x a b to s p refl) (omega arith)
run_flat rt (Loop t a y) f c here rest pl k =
    let p = here + size t in
    let n = here + (size t + (8 + size a)) in
    let to = p + (8 + size a) in
    let x = join c t in
    let g = FDo f x in
    let q = p + 4 + size a in
    ap (λ l. run l f c here) (append_assoc (flat t here) (IDo to ∷ (flat a (p + 4) ++ ILoop y (p + 4) ∷ [])) rest)
    ∙ run_flat rt t f c here (IDo to ∷ ((flat a (p + 4) ++ ILoop y (p + 4) ∷ []) ++ rest)) pl.0 (clear_less f p n (omega arith) k)
    ∙ takes (IDo to) ((flat a (p + 4) ++ ILoop y (p + 4) ∷ []) ++ rest) f g x Empty p n (p + 4) (omega arith) k refl refl
    ∙ ap (λ l. run l g Empty (p + 4)) (append_assoc (flat a (p + 4)) (ILoop y (p + 4) ∷ []) rest)
    ∙ run_flat rt a g Empty (p + 4) (ILoop y (p + 4) ∷ rest) pl.2 tt
    ∙ ap (λ u. run (ILoop y (p + 4) ∷ rest) g u q) (join-empty a)
    ∙ takes (ILoop y (p + 4)) rest g f a (Loop x a y) q n n (omega arith) tt refl (omega arith)
run_flat rt t f c here rest pl k = grind (arith, append_assoc, clear_less, takes, step_forward, join-empty, ends, shut_if, step_else, shut_else, step_until, step_again, step_repeat)

-- the whole definition comes out again
pub run_all : (rt : ℕ → ℕ) (d : Definition) (at : ℕ) → IsPlainDefinition rt d → run (flat_all d at) FTop Empty at ≡ Some d
run_all rt (Simple t) at h =
    ap (λ l. run l FTop Empty at) (sym (append-nil (flat t at))) ∙ run_flat rt t FTop Empty at [] h tt ∙ ap (λ u. Some (Simple u)) (join-empty t)
run_all rt (Doing t a) at h =
    let p = at + (size t + 2) in
    run_flat rt t FTop Empty at (IDoes ∷ flat a p) h.0 tt
    ∙ ap (λ u. run (IDoes ∷ flat a p) FTop u (at + size t)) (join-empty t)
    ∙ takes IDoes (flat a p) FTop (FPast t) t Empty (at + size t) (at + size t + 1) p (omega arith) tt refl (omega arith)
    ∙ ap (λ l. run l (FPast t) Empty p) (sym (append-nil (flat a p)))
    ∙ run_flat rt a (FPast t) Empty p [] h.2 tt
    ∙ ap (λ u. Some (Doing t u)) (join-empty a)

-- No two definitions have the same instructions.
pub one_tree : (rt : ℕ → ℕ) (t u : Definition) (at : ℕ) → IsPlainDefinition rt t → IsPlainDefinition rt u → flat_all t at ≡ flat_all u at → t ≡ u
one_tree rt t u at k l e = let h : Some t ≡ Some u = sym (run_all rt t at k) ∙ ap (λ l. run l FTop Empty at) e ∙ run_all rt u at l in cc
