-- One instruction after another.
use Rattle.std.proofs.Common.{◌≡◌, Bool, ℕ, ◌+◌, ◌<◌, cond, List, [], ◌∷◌, length, take, drop, Option, Some, IfSome, zero, suc, refl, sym, ap, ◌∙◌, arith, append_assoc}
use Rattle.std.specs.Prelude.{slice_index, replicate}
use Rattle.std.proofs.lemmas.Bool.{cases_lt}
use Rattle.std.proofs.lemmas.List.{get_or-replicate, get_or_past, length-replicate}
use Rattle.colon_bodies.specs.Tokens.{Token}
use Rattle.colon_bodies.specs.Tree.{Body, Empty, Definition, all_words}
use Rattle.colon_bodies.specs.Instructions.{Instr, len}
use Rattle.colon_bodies.specs.Structures.{Frames, FTop, Shape, In, shut, step, went, onward, done, run}
use Rattle.colon_bodies.specs.Found.{Front, Off, First, with_text, of_control, first, with_first, and_more, instrs, before_exit, before_last, built_of, found}
use Rattle.see.specs.declared.front.Taken.{Taken}
use Rattle.see.specs.declared.structures.Frame.{Frame}
use Rattle.see.specs.Apart.{instr, front}
use Rattle.see.specs.Places.{IsSketch, AreUnforced}
use Rattle.see.specs.Seen.{Seen}

-- how long what is taken off is
abbrev Lengths : ℕ → Front → Type 0
Lengths n Off = Unit {0}
Lengths n (First i r) = len i + length r ≡ n

taken_dropped : (n : ℕ) (bs : List ℕ) → length (take n bs) + length (drop n bs) ≡ length bs
taken_dropped (suc n) (b ∷ bs) = omega (arith, taken_dropped n bs)
taken_dropped n bs = grind arith

text_length : (k : Bool) (bs : List ℕ) → Lengths (2 + length bs) (with_text k bs)
text_length k bs = grind (arith, taken_dropped)

either : (n : ℕ) (b : Bool) (x y : Front) → Lengths n x → Lengths n y → Lengths n (cond b x y)
either n b x y h k = grind arith

control_length : (k : ℕ) (bs : List ℕ) → Lengths (2 + length bs) (of_control k bs)
control_length k bs = grind (arith, either, text_length)

pub off_length : (k : ℕ) (bs : List ℕ) (o : Option Taken) (n : ℕ) → front o ≡ of_control k bs → n ≡ 2 + length bs → IfSome o (λ t. len (instr t.first) + length t.rest.now ≡ n)
off_length k bs o n e h = grind (arith, control_length)

-- a definition that is found, read so far
pub record Walk (rt : ℕ → ℕ) (t : Definition) (bs : List ℕ) (f : Frames) (c : Body) (here : ℕ) : Type 0 where
  pub fuel : ℕ
  pub is : List Instr
  pub js : List Instr
  pub read : instrs rt fuel bs ≡ Some is
  pub cut : before_exit (rt 5) is ≡ Some js
  pub runs : run js f c here ≡ Some t

built_is : (at : ℕ) (t : Definition) (o : Option (List Instr)) → built_of at o ≡ Some t → (js : List Instr) × (o ≡ Some js) × (run js FTop Empty at ≡ Some t)
built_is at t o e = grind arith

last_is : (x : ℕ) (js : List Instr) (o : Option (List Instr)) → before_last x o ≡ Some js → (is : List Instr) × (o ≡ Some is) × (before_exit x is ≡ Some js)
last_is x js o e = grind arith

pub walk_start : (rt : ℕ → ℕ) (t : Definition) (bs : List ℕ) (at : ℕ) → found rt bs at ≡ Some t → Walk rt t bs FTop Empty at
walk_start rt t bs at e =
    let b = built_is at t (before_last (rt 5) (instrs rt (length bs) bs)) e in
    grind (arith, last_is (rt 5) b.0 (instrs rt (length bs) bs) b.1)

-- the instruction at its front
record Opened (rt : ℕ → ℕ) (t : Definition) (bs : List ℕ) (f : Frames) (c : Body) (here : ℕ) : Type 0 where
  i : Instr
  rest : List ℕ
  fuel : ℕ
  is : List Instr
  js : List Instr
  first_is : first rt bs ≡ First i rest
  read : instrs rt fuel rest ≡ Some is
  cut : before_exit (rt 5) (i ∷ is) ≡ Some js
  runs : run js f c here ≡ Some t

with_is : (i : Instr) (o : Option (List Instr)) (is : List Instr) → with_first i o ≡ Some is → (js : List Instr) × (o ≡ Some js) × (i ∷ js ≡ is)
with_is i o is e = grind arith

opened : (rt : ℕ → ℕ) (t : Definition) (bs : List ℕ) (f : Frames) (c : Body) (here : ℕ) → Walk rt t bs f c here → Opened rt t bs f c here
opened rt t [] f c here w = absurd (none w.is w.read w.cut)
  where
    none : (is : List Instr) → ◌≡◌ {A = Option (List Instr)} (Some []) (Some is) → before_exit (rt 5) is ≡ Some w.js → ⊥
    none [] e k = cc
    none (i ∷ is) e k = cc
opened rt t (b ∷ bs) f c here w = by w.fuel w.read
  where
    after : (n : ℕ) (x : Front) → first rt (b ∷ bs) ≡ x → and_more x (instrs rt n) ≡ Some w.is → Opened rt t (b ∷ bs) f c here
    after n Off e k = cc
    after n (First i rest) e k =
        let r = with_is i (instrs rt n rest) w.is k in
        record { i = i; rest = rest; fuel = n; is = r.0; js = w.js; first_is = e; read = r.1; cut = ap (before_exit (rt 5)) r.2 ∙ w.cut; runs = w.runs }

    by : (n : ℕ) → instrs rt n (b ∷ bs) ≡ Some w.is → Opened rt t (b ∷ bs) f c here
    by zero e = cc
    by (suc n) e = after n (first rt (b ∷ bs)) refl e

-- one instruction more
pub record Onward (rt : ℕ → ℕ) (t : Definition) (f : Frames) (c : Body) (here : ℕ) (i : Instr) (rest : List ℕ) : Type 0 where
  pub frame : Frames
  pub body : Body
  pub shuts : shut f c here ≡ In frame body
  pub next_frame : Frames
  pub next_body : Body
  pub steps : step frame body here i ≡ Some (In next_frame next_body)
  pub walk : Walk rt t rest next_frame next_body (here + len i)

shape_is : (s : Shape) → (f : Frames) × (c : Body) × (s ≡ In f c)
shape_is (In f c) = (f, c, refl)

went_is : (s : Option Shape) (go : Frames → Body → Option Definition) (t : Definition) → went s go ≡ Some t → (f : Frames) × (c : Body) × (s ≡ Some (In f c)) × (go f c ≡ Some t)
went_is s go t e = grind arith

no_rest : (rt : ℕ → ℕ) (n : ℕ) (rest : List ℕ) → 0 < length rest → instrs rt n rest ≡ Some [] → ⊥
no_rest rt n rest h e = grind (arith, with_is)

pub walk_on : (rt : ℕ → ℕ) (t : Definition) (bs : List ℕ) (f : Frames) (c : Body) (here : ℕ) (i : Instr) (rest : List ℕ) → Walk rt t bs f c here → first rt bs ≡ First i rest → 0 < length rest → Onward rt t f c here i rest
walk_on rt t bs f c here i rest w e h =
    let o = opened rt t bs f c here w in
    let q : First o.i o.rest ≡ First i rest = sym o.first_is ∙ e in
    let a : o.i ≡ i = cc in
    let b : o.rest ≡ rest = cc in
    by o.is o.fuel o.js (ap (instrs rt o.fuel) (sym b) ∙ o.read) (ap (λ j. before_exit (rt 5) (j ∷ o.is)) (sym a) ∙ o.cut) o.runs
  where
    by : (is : List Instr) (n : ℕ) (js : List Instr) → instrs rt n rest ≡ Some is → before_exit (rt 5) (i ∷ is) ≡ Some js → run js f c here ≡ Some t → Onward rt t f c here i rest
    by [] n js r k u = absurd (no_rest rt n rest h r)
    by (j ∷ is) n js r k u =
        let x = with_is i (before_exit (rt 5) (j ∷ is)) js k in
        let s = shape_is (shut f c here) in
        let g : Frames → Body → Option Definition = λ p d. run x.0 p d (here + len i) in
        let y = went_is (step s.0 s.1 here i) g t (ap (λ v. onward v here i g) (sym s.2) ∙ ap (λ l. run l f c here) x.2 ∙ u) in
        record {
          frame = s.0;
          body = s.1;
          shuts = s.2;
          next_frame = y.0;
          next_body = y.1;
          steps = y.2;
          walk = record { fuel = n; is = j ∷ is; js = x.0; read = r; cut = x.1; runs = y.3 };
        }

-- the last instruction
pub record Last (t : Definition) (f : Frames) (c : Body) (here : ℕ) : Type 0 where
  pub frame : Frames
  pub body : Body
  pub shuts : shut f c here ≡ In frame body
  pub ends : done (In frame body) ≡ Some t

no_length : (xs : List ℕ) → length xs ≡ 0 → xs ≡ []
no_length [] h = refl
no_length (x ∷ xs) h = absurd (omega arith)

pub walk_end : (rt : ℕ → ℕ) (t : Definition) (bs : List ℕ) (f : Frames) (c : Body) (here : ℕ) (i : Instr) (rest : List ℕ) → Walk rt t bs f c here → first rt bs ≡ First i rest → length rest ≡ 0 → Last t f c here
walk_end rt t bs f c here i rest w e h = grind (arith, no_length, opened, shape_is)

-- zeros
zeros : (n p : ℕ) → slice_index (replicate n 0) p ≡ 0
zeros n p = grind (arith, cases_lt, get_or-replicate, get_or_past, length-replicate)

-- all the words
pub done_words : (at : ℕ) (t : Definition) (f : Frames) (c : Body) (here : ℕ) (seen : List Token) (counts : List ℕ) (frames : List Frame) → Seen at f c here seen counts frames → done (In f c) ≡ Some t → IsSketch (all_words t) seen counts × AreUnforced (all_words t)
done_words at t f c here seen counts frames s e = grind (arith, append_assoc)

-- the words so far, of a definition that is found
pub record Going (rt : ℕ → ℕ) (t : Definition) (at : ℕ) (left : List ℕ) (here : ℕ) (seen : List Token) (counts : List ℕ) (frames : List Frame) : Type 0 where
  pub frame : Frames
  pub body : Body
  pub walk : Walk rt t left frame body here
  pub is : Seen at frame body here seen counts frames

pub going_start : (rt : ℕ → ℕ) (t : Definition) (bs : List ℕ) (at n : ℕ) (seen : List Token) (counts : List ℕ) (frames : List Frame) → seen ≡ [] → counts ≡ replicate n 0 → frames ≡ [] → found rt bs at ≡ Some t → Going rt t at bs at seen counts frames
going_start rt t bs at n seen counts frames a z b e =
    record {
      frame = FTop;
      body = Empty;
      walk = walk_start rt t bs at e;
      is = record { sketch = record { words_are = a; counts_are = none }; unforced = tt; few = λ p. omega (arith, none p); frames_are = b; here_is = omega arith };
    }
  where
    none : (p : ℕ) → slice_index counts p ≡ 0
    none p = ap (λ l. slice_index l p) z ∙ zeros n p

pub some_length : (xs : List ℕ) → (length xs ≡ 0 → ⊥) → 0 < length xs
some_length xs h = omega (arith, λ (q : length xs ≡ 0). h q)

-- an instruction has bytes
pub some_bytes : (i : Instr) → 0 < len i
some_bytes i = grind arith
