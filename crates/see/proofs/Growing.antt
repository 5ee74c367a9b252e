-- The words seen so far: one more, a BEGIN before some, a structure that ends.
use Rattle.std.proofs.Common.{◌≡◌, ℕ, ◌+◌, ◌-◌, ◌<◌, ◌≤◌, Bool, false, cond, List, ◌++◌, length, zero, suc, Some, refl, sym, ap, ◌∙◌, arith, append_assoc, append-nil, [], ◌∷◌, map, min, subst, length-append, Option}
use Rattle.std.proofs.Math.Dec.{ltb}
use Rattle.std.proofs.lemmas.Bool.{le-ltb, lt-ltb, ltb-false, cases_eq}
use Rattle.colon_bodies.specs.Tokens.{Token, laid, FORCE, IF, ELSE, BEGIN, WHILE, REPEAT, DO, LOOP, DOES, THEN}
use Rattle.colon_bodies.specs.Tree.{Body, Empty, Call, Tick, Pair, Literal, Double, Text, IfThen, IfElse, Until, Again, While, Loop, words}
use Rattle.colon_bodies.specs.Code.{size}
use Rattle.colon_bodies.specs.Structures.{Cut, Nowhere, Between, onto, cut_last, split, Frames, FTop, FPast, FIf, FElse, FDo, In, until_at, again_at, while_at, repeat_at, Shape, else_at, loop_at, does_at, shut, step}
use Rattle.colon_bodies.proofs.Taking.{laid-words, laid-append}
use Rattle.std.proofs.lemmas.List.{get_or-set_same, get_or-set_other}
use Rattle.std.specs.Prelude.{slice_index, slice_set}
use Rattle.see.specs.declared.structures.Frame.{Frame}
use Rattle.see.specs.declared.structures.Frame.TheVariants as k
use Rattle.see.specs.Places.{without_begins, begins, IsSketch, AreUnforced}
use Rattle.see.specs.Seen.{frame_words, start, frames_of, beneath, Seen, top_frame, begins_at, EndsHere}
use Rattle.colon_bodies.proofs.Whole.{map_length}
use Rattle.see.proofs.Sketching.{without-append, begins-append, unforced-append, unforced_parts, once_elsewhere, map_snoc}
use Rattle.colon_bodies.specs.Instructions.{IBranch}

-- Where a body is cut, its words are cut.

-- one cut
pub record Cuts (c : Body) (n : ℕ) (x y : Body) : Type 0 where
  pub words_are : words c ≡ words x ++ words y
  pub size_is : size y ≡ n

onto_is : (g : Cut) (f : Body → Body) (x y : Body) → onto f g ≡ Between x y → (v : Body) × (g ≡ Between x v) × (f v ≡ y)
onto_is g f x y e = grind arith

cond_is : (b : Bool) (g : Cut) (x y : Body) → cond b Nowhere g ≡ Between x y → (b ≡ false) × (g ≡ Between x y)
cond_is b g x y e = grind arith

piece : (n k : ℕ) (t x y : Body) (f : Body → Body) (tail : List Token) → ((u : Body) → words (f u) ≡ words u ++ tail) → ((u : Body) → size (f u) ≡ size u + k) → ((m : ℕ) (v : Body) → split t m ≡ Between x v → Cuts t m x v) → cut_last n k (f t) f (split t) ≡ Between x y → Cuts (f t) n x y
piece zero k t x y f tail w s ih e = search (arith, append-nil)
piece (suc n) k t x y f tail w s ih e =
    let c = cond_is (ltb (suc n) k) (onto f (split t (suc n - k))) x y e in
    let le = ltb-false (suc n) k c.0 in
    let o = onto_is (split t (suc n - k)) f x y c.1 in
    let r = ih (suc n - k) o.0 o.1 in
    grind (arith, append_assoc)

pub split_words : (c : Body) (n : ℕ) (x y : Body) → split c n ≡ Between x y → Cuts c n x y
split_words (Call t f w) n x y e = piece n 2 t x y (λ u. Call u f w) _ (λ u. refl) (λ u. refl) (λ m v. split_words t m x v) e
split_words (Tick t w) n x y e = piece n 4 t x y (λ u. Tick u w) _ (λ u. refl) (λ u. refl) (λ m v. split_words t m x v) e
split_words (Pair t f w) n x y e = piece n 4 t x y (λ u. Pair u f w) _ (λ u. refl) (λ u. refl) (λ m v. split_words t m x v) e
split_words (Double t w) n x y e = piece n 8 t x y (λ u. Double u w) _ (λ u. refl) (λ u. refl) (λ m v. split_words t m x v) e
split_words (Literal t w) n x y e = piece n 4 t x y (λ u. Literal u w) _ (λ u. refl) (λ u. refl) (λ m v. split_words t m x v) e
split_words (Text t k bs) n x y e = piece n (3 + length bs) t x y (λ u. Text u k bs) _ (λ u. refl) (λ u. refl) (λ m v. split_words t m x v) e
split_words (IfThen t a) n x y e = piece n (4 + size a) t x y (λ u. IfThen u a) _ (λ u. refl) (λ u. refl) (λ m v. split_words t m x v) e
split_words (IfElse t a b) n x y e = piece n (8 + size a + size b) t x y (λ u. IfElse u a b) _ (λ u. refl) (λ u. refl) (λ m v. split_words t m x v) e
split_words (Until t a) n x y e = piece n (size a + 4) t x y (λ u. Until u a) _ (λ u. refl) (λ u. refl) (λ m v. split_words t m x v) e
split_words (Again t a) n x y e = piece n (size a + 4) t x y (λ u. Again u a) _ (λ u. refl) (λ u. refl) (λ m v. split_words t m x v) e
split_words (While t a b) n x y e = piece n (8 + size a + size b) t x y (λ u. While u a b) _ (λ u. refl) (λ u. refl) (λ m v. split_words t m x v) e
split_words (Loop t a k) n x y e = piece n (8 + size a) t x y (λ u. Loop u a k) _ (λ u. refl) (λ u. refl) (λ m v. split_words t m x v) e
split_words c n x y e = grind (arith, append-nil, cond_is, piece)

pub cut_size : (c : Body) (n : ℕ) (x y : Body) → Cuts c n x y → size c ≡ size x + n
cut_size c n x y k = let e = ap laid k.words_are in let z = k.size_is in omega (arith, laid-append (words x) (words y), laid-words c, laid-words x, laid-words y)

until_is : (s : Cut) (f g : Frames) (d : Body) → until_at f s ≡ Some (In g d) → (x : Body) × (y : Body) × (s ≡ Between x y) × (f ≡ g) × (Until x y ≡ d)
until_is s f g d e = grind arith

-- IF and UNTIL
pub if_cut : (f g : Frames) (c d : Body) (here to : ℕ) → here < to → cond (ltb here to) (Some (In (FIf f c to) Empty)) (until_at f (split c (here - to))) ≡ Some (In g d) → Some (In (FIf f c to) Empty) ≡ Some (In g d)
if_cut f g c d here to lt e = sym (ap (λ b. cond b (Some (In (FIf f c to) Empty)) (until_at f (split c (here - to)))) (lt-ltb here to lt)) ∙ e

pub until_cut : (f g : Frames) (c d : Body) (here to : ℕ) → to ≤ here → cond (ltb here to) (Some (In (FIf f c to) Empty)) (until_at f (split c (here - to))) ≡ Some (In g d) → (x : Body) × (y : Body) × Cuts c (here - to) x y × (f ≡ g) × (Until x y ≡ d)
until_cut f g c d here to le e =
    let k = sym (ap (λ b. cond b (Some (In (FIf f c to) Empty)) (until_at f (split c (here - to)))) (le-ltb here to le)) ∙ e in
    let u = until_is (split c (here - to)) f g d k in
    (u.0, u.1, split_words c (here - to) u.0 u.1 u.2, u.3, u.4)

-- AGAIN
again_is : (s : Cut) (f g : Frames) (d : Body) → again_at f s ≡ Some (In g d) → (x : Body) × (y : Body) × (s ≡ Between x y) × (f ≡ g) × (Again x y ≡ d)
again_is s f g d e = grind arith

pub again_cut : (f g : Frames) (c d : Body) (n : ℕ) → again_at f (split c n) ≡ Some (In g d) → (x : Body) × (y : Body) × Cuts c n x y × (f ≡ g) × (Again x y ≡ d)
again_cut f g c d n e =
    let u = again_is (split c n) f g d e in
    (u.0, u.1, split_words c n u.0 u.1 u.2, u.3, u.4)

-- REPEAT
while_is : (s : Cut) (f g : Frames) (b d : Body) → while_at f b s ≡ Some (In g d) → (x : Body) × (y : Body) × (s ≡ Between x y) × (f ≡ g) × (While x y b ≡ d)
while_is s f g b d e = grind arith

pub record Repeats (f g : Frames) (b d : Body) (here to : ℕ) : Type 0 where
  pub outside : Frames
  pub test : Body
  pub ends : ℕ
  pub front : Body
  pub back : Body
  pub is : f ≡ FIf outside test ends
  pub cuts : Cuts test (here - (size b + 4) - to) front back
  pub goes : outside ≡ g
  pub makes : While front back b ≡ d

pub repeat_cut : (f g : Frames) (b d : Body) (here to : ℕ) → repeat_at f b here to ≡ Some (In g d) → Repeats f g b d here to
repeat_cut (FIf f t l) g b d here to e =
    let u = while_is (split t (here - (size b + 4) - to)) f g b d e in
    record { outside = f; test = t; ends = l; front = u.0; back = u.1; is = refl; cuts = split_words t (here - (size b + 4) - to) u.0 u.1 u.2; goes = u.3; makes = u.4 }
repeat_cut _ g b d here to e = cc

-- One word more, or a BEGIN at words that are there already.

-- neither BEGIN nor FORCE
abbrev pub AreOther : List Token → Type 0
AreOther [] = Unit {0}
AreOther (BEGIN ∷ ws) = ⊥
AreOther (FORCE ∷ ws) = ⊥
AreOther (w ∷ ws) = AreOther ws

others_without : (ws : List Token) → AreOther ws → without_begins ws ≡ ws
others_without [] h = refl
others_without (BEGIN ∷ ws) h = absurd h
others_without (FORCE ∷ ws) h = absurd h
others_without (w ∷ ws) h = ap (λ l. w ∷ l) (others_without ws h)

others_begins : (ws : List Token) → AreOther ws → (n p : ℕ) → begins ws n p ≡ 0
others_begins [] h n p = refl
others_begins (BEGIN ∷ ws) h n p = absurd h
others_begins (FORCE ∷ ws) h n p = absurd h
others_begins (w ∷ ws) h n p = others_begins ws h _ p

others_unforced : (ws : List Token) → AreOther ws → AreUnforced ws
others_unforced [] h = tt
others_unforced (BEGIN ∷ ws) h = absurd h
others_unforced (FORCE ∷ ws) h = absurd h
others_unforced (w ∷ ws) h = others_unforced ws h

-- what the words so far are, by a shape
abbrev pub SeenAs : ℕ → ℕ → List Token → List ℕ → List Frame → Shape → Type 0
SeenAs at here seen counts frames (In f c) = Seen at f c here seen counts frames

-- words after those that were seen
pub sketch_more : {X : Type 0} (tok : X → Token) (whole more : List Token) (seen seen1 : List X) (counts : List ℕ) → IsSketch whole (map tok seen) counts → AreOther more → map tok seen1 ≡ map tok seen ++ more → IsSketch (whole ++ more) (map tok seen1) counts
sketch_more tok whole more seen seen1 counts s o e = grind (arith, others_without, without-append, begins-append, others_begins)

pub grown : {X : Type 0} (tok : X → Token) (at : ℕ) (f g h : Frames) (c d e : Body) (here there : ℕ) (seen seen1 : List X) (more : List Token) (counts : List ℕ) (frames frames1 : List Frame) → Seen at f c here (map tok seen) counts frames → AreOther more → map tok seen1 ≡ map tok seen ++ more → frame_words g ++ words d ≡ (frame_words f ++ words c) ++ more → frames1 ≡ frames_of at g → there ≡ start at g + size d → here ≤ there → Some (In g d) ≡ Some (In h e) → Seen at h e there (map tok seen1) counts frames1
grown tok at f g h c d e here there seen seen1 more counts frames frames1 s o e1 e2 k t le same =
    let whole = frame_words f ++ words c in
    let q : In g d ≡ In h e = cc in
    subst (SeenAs at there (map tok seen1) counts frames1) q (record {
      sketch = subst (λ l. IsSketch l (map tok seen1) counts) (sym e2) (sketch_more tok whole more seen seen1 counts s.sketch o e1);
      unforced = subst (λ l. AreUnforced l) (sym e2) (unforced-append whole more s.unforced (others_unforced more o));
      few = λ p. omega (arith, s.few p, le);
      frames_are = k;
      here_is = t;
    })

pub one_more : {X : Type 0} (tok : X → Token) (at : ℕ) (f g h : Frames) (c d e : Body) (here there : ℕ) (seen seen1 : List X) (x : X) (w : Token) (counts : List ℕ) (frames frames1 : List Frame) → Seen at f c here (map tok seen) counts frames → AreOther (w ∷ []) → tok x ≡ w → seen1 ≡ seen ++ x ∷ [] → frame_words g ++ words d ≡ (frame_words f ++ words c) ++ w ∷ [] → frames1 ≡ frames_of at g → there ≡ start at g + size d → here ≤ there → Some (In g d) ≡ Some (In h e) → Seen at h e there (map tok seen1) counts frames1
one_more tok at f g h c d e here there seen seen1 x w counts frames frames1 s o tw e1 e2 k t le same =
    grown tok at f g h c d e here there seen seen1 (w ∷ []) counts frames frames1 s o (ap (map tok) e1 ∙ map_snoc tok seen x ∙ ap (λ v. map tok seen ++ v ∷ []) tw) e2 k t le same

-- a BEGIN before some words, and the word that ends its loop after them
pub begun : {X : Type 0} (tok : X → Token) (at : ℕ) (g h : Frames) (d e : Body) (here there place : ℕ) (front rest : List Token) (seen seen1 : List X) (x : X) (w : Token) (counts counts1 : List ℕ) (frames1 : List Frame) → IsSketch (front ++ rest) (map tok seen) counts → AreUnforced (front ++ rest) → ((p : ℕ) → slice_index counts p ≤ here) → here < there → AreOther (w ∷ []) → tok x ≡ w → seen1 ≡ seen ++ x ∷ [] → place ≡ laid front → place < length counts → counts1 ≡ slice_set counts place (slice_index counts place + 1) → frame_words g ++ words d ≡ front ++ (BEGIN ∷ (rest ++ w ∷ [])) → frames1 ≡ frames_of at g → there ≡ start at g + size d → Some (In g d) ≡ Some (In h e) → Seen at h e there (map tok seen1) counts1 frames1
begun tok at g h d e here there place front rest seen seen1 x w counts counts1 frames1 s u few lt o tw e1 pl within c1 e2 k t same = grind (arith, unforced_parts, map_snoc, without-append, append_assoc, others_without, unforced-append, others_unforced, get_or-set_same, get_or-set_other, cases_eq, begins-append, others_begins, once_elsewhere)

-- where the innermost body begins, by what is written before it
pub start_is : (at : ℕ) (f : Frames) → start at f ≡ at + laid (frame_words f)
start_is at (FIf f t to) = omega (arith, start_is at f, laid-append (frame_words f) (words t ++ IF ∷ []), laid-append (words t) (IF ∷ []), laid-words t)
start_is at (FElse f t a to) = omega (arith, start_is at f, laid-append (frame_words f) (words t ++ (IF ∷ (words a ++ ELSE ∷ []))), laid-append (words t) (IF ∷ (words a ++ ELSE ∷ [])), laid-append (words a) (ELSE ∷ []), laid-words t, laid-words a)
start_is at (FDo f t) = omega (arith, start_is at f, laid-append (frame_words f) (words t ++ DO ∷ []), laid-append (words t) (DO ∷ []), laid-words t)
start_is at f = grind (arith, laid-append, laid-words)

-- what opens a structure
pub if_seen : {X : Type 0} (tok : X → Token) (at : ℕ) (f g : Frames) (c d : Body) (here to n m : ℕ) (seen seen1 : List X) (x : X) (counts : List ℕ) (frames frames1 : List Frame) → tok x ≡ IF → Seen at f c here (map tok seen) counts frames → n ≡ length seen → m ≡ here + 4 → seen1 ≡ seen ++ x ∷ [] → frames1 ≡ frames ++ k.If n to m ∷ [] → Some (In (FIf f c to) Empty) ≡ Some (In g d) → Seen at g d (here + 4) (map tok seen1) counts frames1
if_seen tok at f g c d here to n m seen seen1 x counts frames frames1 tw s i j e1 e2 same =
    let whole = frame_words f ++ words c in
    let count : n ≡ length (without_begins whole) = i ∙ sym (map_length tok seen) ∙ ap length s.sketch.words_are in
    let place : m ≡ start at f + (size c + 4) = omega (arith, s.here_is, j) in
    let opens : frames1 ≡ frames_of at (FIf f c to) =
    e2 ∙ ap (λ l. l ++ k.If n to m ∷ []) s.frames_are ∙ ap (λ v. frames_of at f ++ k.If v to m ∷ []) count ∙ ap (λ v. frames_of at f ++ k.If (length (without_begins whole)) to v ∷ []) place in
    one_more tok at f (FIf f c to) g c Empty d here (here + 4) seen seen1 x IF counts frames frames1 s tt tw e1 (simp (append_assoc, append-nil)) opens (omega (arith, s.here_is)) (omega arith) same

pub else_seen : {X : Type 0} (tok : X → Token) (at : ℕ) (f g : Frames) (c d : Body) (here to m : ℕ) (seen seen1 : List X) (x : X) (counts : List ℕ) (frames frames1 frames2 : List Frame) → tok x ≡ ELSE → Seen at f c here (map tok seen) counts frames → m ≡ here + 4 → seen1 ≡ seen ++ x ∷ [] → frames1 ≡ frames_of at (beneath f) → frames2 ≡ frames1 ++ k.Else to m ∷ [] → else_at f c to ≡ Some (In g d) → Seen at g d (here + 4) (map tok seen1) counts frames2
else_seen tok at (FIf f t l) g c d here to m seen seen1 x counts frames frames1 frames2 tw s j e1 e2 e3 same =
    let place : m ≡ start at f + (size t + (8 + size c)) = omega (arith, s.here_is, j) in
    let opens : frames2 ≡ frames_of at (FElse f t c to) = e3 ∙ ap (λ l. l ++ k.Else to m ∷ []) e2 ∙ ap (λ v. frames_of at f ++ k.Else to v ∷ []) place in
    one_more tok at (FIf f t l) (FElse f t c to) g c Empty d here (here + 4) seen seen1 x ELSE counts frames frames2 s tt tw e1 (simp (append_assoc, append-nil)) opens (omega (arith, s.here_is)) (omega arith) same
else_seen tok at _ g c d here to m seen seen1 x counts frames frames1 frames2 tw s j e1 e2 e3 same = cc

pub do_seen : {X : Type 0} (tok : X → Token) (at : ℕ) (f g : Frames) (c d : Body) (here m : ℕ) (seen seen1 : List X) (x : X) (counts : List ℕ) (frames frames1 : List Frame) → tok x ≡ DO → Seen at f c here (map tok seen) counts frames → m ≡ here + 4 → seen1 ≡ seen ++ x ∷ [] → frames1 ≡ frames ++ k.Do m ∷ [] → Some (In (FDo f c) Empty) ≡ Some (In g d) → Seen at g d (here + 4) (map tok seen1) counts frames1
do_seen tok at f g c d here m seen seen1 x counts frames frames1 tw s j e1 e2 same =
    let place : m ≡ start at f + (size c + 4) = omega (arith, s.here_is, j) in
    let opens : frames1 ≡ frames_of at (FDo f c) = e2 ∙ ap (λ l. l ++ k.Do m ∷ []) s.frames_are ∙ ap (λ v. frames_of at f ++ k.Do v ∷ []) place in
    one_more tok at f (FDo f c) g c Empty d here (here + 4) seen seen1 x DO counts frames frames1 s tt tw e1 (simp (append_assoc, append-nil)) opens (omega (arith, s.here_is)) (omega arith) same

pub loop_seen : {X : Type 0} (tok : X → Token) (at : ℕ) (f g : Frames) (c d : Body) (here : ℕ) (plus : Bool) (seen seen1 : List X) (x : X) (counts : List ℕ) (frames frames1 : List Frame) → tok x ≡ LOOP plus → Seen at f c here (map tok seen) counts frames → seen1 ≡ seen ++ x ∷ [] → frames1 ≡ frames_of at (beneath f) → loop_at f c plus ≡ Some (In g d) → Seen at g d (here + 4) (map tok seen1) counts frames1
loop_seen tok at (FDo f t) g c d here plus seen seen1 x counts frames frames1 tw s e1 e2 same =
    one_more tok at (FDo f t) f g c (Loop t c plus) d here (here + 4) seen seen1 x (LOOP plus) counts frames frames1 s tt tw e1 (simp append_assoc) e2 (omega (arith, s.here_is)) (omega arith) same
loop_seen tok at _ g c d here plus seen seen1 x counts frames frames1 tw s e1 e2 same = cc

pub does_seen : {X : Type 0} (tok : X → Token) (at : ℕ) (f g : Frames) (c d : Body) (here m : ℕ) (seen seen1 : List X) (x : X) (counts : List ℕ) (frames frames1 : List Frame) → tok x ≡ DOES → Seen at f c here (map tok seen) counts frames → m ≡ here + 2 → seen1 ≡ seen ++ x ∷ [] → frames1 ≡ frames ++ k.Past m ∷ [] → does_at f c ≡ Some (In g d) → Seen at g d (here + 2) (map tok seen1) counts frames1
does_seen tok at FTop g c d here m seen seen1 x counts frames frames1 tw s j e1 e2 same =
    let place : m ≡ at + (size c + 2) = omega (arith, s.here_is, j) in
    let opens : frames1 ≡ frames_of at (FPast c) = e2 ∙ ap (λ l. l ++ k.Past m ∷ []) s.frames_are ∙ ap (λ v. k.Past v ∷ []) place in
    one_more tok at FTop (FPast c) g c Empty d here (here + 2) seen seen1 x DOES counts frames frames1 s tt tw e1 (append-nil (words c ++ DOES ∷ [])) opens (omega (arith, s.here_is)) (omega arith) same
does_seen tok at _ g c d here m seen seen1 x counts frames frames1 tw s j e1 e2 same = cc

-- UNTIL and AGAIN
pub back_place : (at : ℕ) (f : Frames) (c x y : Body) (here to : ℕ) (seen : List Token) (counts : List ℕ) (frames : List Frame) → to ≤ here → Seen at f c here seen counts frames → Cuts c (here - to) x y → to ≡ at + laid (frame_words f ++ words x)
back_place at f c x y here to seen counts frames le s cut = grind (arith, cut_size, start_is, laid-append, laid-words)

pub back_seen : {X : Type 0} (tok : X → Token) (at : ℕ) (f g : Frames) (c d x y turned : Body) (here to : ℕ) (seen seen1 : List X) (v : X) (w : Token) (counts counts1 : List ℕ) (frames : List Frame) → to ≤ here → AreOther (w ∷ []) → tok v ≡ w → words turned ≡ words x ++ (BEGIN ∷ (words y ++ w ∷ [])) → size turned ≡ size x + (size y + 4) → Seen at f c here (map tok seen) counts frames → here < at + length counts → Cuts c (here - to) x y → f ≡ g → turned ≡ d → seen1 ≡ seen ++ v ∷ [] → counts1 ≡ slice_set counts (laid (frame_words f ++ words x)) (slice_index counts (laid (frame_words f ++ words x)) + 1) → Seen at g d (here + 4) (map tok seen1) counts1 frames
back_seen tok at f g c d x y turned here to seen seen1 v w counts counts1 frames le o tw tws ts s within cut fg td e1 c1 =
    let front = frame_words f ++ words x in
    let p = back_place at f c x y here to (map tok seen) counts frames le s cut in
    let whole : frame_words f ++ words c ≡ front ++ words y = ap (λ l. frame_words f ++ l) cut.words_are ∙ sym (append_assoc (frame_words f) (words x) (words y)) in
    let same : Some (In f turned) ≡ Some (In g d) = cc in
    begun tok at f g turned d here (here + 4) (laid front) front (words y) seen seen1 v w counts counts1 frames
    (subst (λ l. IsSketch l (map tok seen) counts) whole s.sketch) (subst (λ l. AreUnforced l) whole s.unforced) s.few (omega arith) o tw e1 refl (omega (arith, p, within)) c1
    (ap (λ l. frame_words f ++ l) tws ∙ sym (append_assoc (frame_words f) (words x) (BEGIN ∷ (words y ++ w ∷ [])))) s.frames_are
    (omega (arith, s.here_is, ts, cut_size c (here - to) x y cut, cut.size_is)) same

-- REPEAT
set_seen : {X : Type 0} (tok : X → Token) (xs : List X) (x : X) (w : Token) (front rest : List Token) → map tok xs ≡ front ++ (w ∷ rest) → map tok (slice_set xs (length front) x) ≡ front ++ (tok x ∷ rest)
set_seen tok [] x w [] rest e = cc
set_seen tok (a ∷ xs) x w [] rest e = let t : map tok xs ≡ rest = cc in ap (λ l. tok x ∷ l) t
set_seen tok [] x w (g ∷ front) rest e = cc
set_seen tok (a ∷ xs) x w (g ∷ front) rest e =
    let h : tok a ≡ g = cc in
    let t : map tok xs ≡ front ++ (w ∷ rest) = cc in
    ap (λ l. tok a ∷ l) (set_seen tok xs x w front rest t) ∙ ap (λ b. b ∷ (front ++ (tok x ∷ rest))) h

-- what was read as IF is a WHILE
while_sketch : {X : Type 0} (tok : X → Token) (front rest : List Token) (seen : List X) (x : X) (index : ℕ) (counts : List ℕ) → tok x ≡ WHILE → index ≡ length (without_begins front) → IsSketch (front ++ (IF ∷ rest)) (map tok seen) counts → IsSketch (front ++ (WHILE ∷ rest)) (map tok (slice_set seen index x)) counts
while_sketch tok front rest seen x index counts tw i s = grind (arith, set_seen, without-append, begins-append)

while_unforced : (front rest : List Token) → AreUnforced (front ++ (IF ∷ rest)) → AreUnforced (front ++ (WHILE ∷ rest))
while_unforced front rest u = let p = unforced_parts front (IF ∷ rest) u in unforced-append front (WHILE ∷ rest) p.0 p.1

pub repeat_place : (at : ℕ) (f g : Frames) (b d : Body) (here to start_of : ℕ) (seen : List Token) (counts : List ℕ) (frames : List Frame) → (r : Repeats f g b d here to) → Seen at f b here seen counts frames → start_of ≡ start at r.outside + (size r.test + 4) → min to (start_of - 4) ≡ at + laid (frame_words r.outside ++ words r.front)
repeat_place at f g b d here to start_of seen counts frames r s e = grind (arith, cut_size, start_is, laid-append, laid-words)

pub if_within : {X : Type 0} (tok : X → Token) (at : ℕ) (f g : Frames) (b d : Body) (here to index : ℕ) (seen : List X) (counts : List ℕ) (frames : List Frame) → (r : Repeats f g b d here to) → Seen at f b here (map tok seen) counts frames → index ≡ length (without_begins (frame_words r.outside ++ words r.test)) → index < length seen
if_within tok at f g b d here to index seen counts frames r s i = grind (arith, append_assoc, map_length, without-append, length-append)

pub repeat_seen : {X : Type 0} (tok : X → Token) (at : ℕ) (f g : Frames) (b d : Body) (here to index place : ℕ) (seen seen1 seen2 : List X) (x y : X) (counts counts1 : List ℕ) (frames frames1 : List Frame) → (r : Repeats f g b d here to) → tok x ≡ WHILE → tok y ≡ REPEAT → Seen at f b here (map tok seen) counts frames → place ≡ laid (frame_words r.outside ++ words r.front) → place < length counts → index ≡ length (without_begins (frame_words r.outside ++ words r.test)) → seen1 ≡ slice_set seen index x → seen2 ≡ seen1 ++ y ∷ [] → counts1 ≡ slice_set counts place (slice_index counts place + 1) → frames1 ≡ frames_of at r.outside → Seen at g d (here + 4) (map tok seen2) counts1 frames1
repeat_seen tok at f g b d here to index place seen seen1 seen2 x y counts counts1 frames frames1 r tx ty s pl within i e1 e2 c1 k =
    let o = frame_words r.outside in
    let read : frame_words f ++ words b ≡ (o ++ words r.test) ++ (IF ∷ words b) = ap (λ q. frame_words q ++ words b) r.is ∙ simp append_assoc in
    let cut : (o ++ words r.test) ++ (WHILE ∷ words b) ≡ (o ++ words r.front) ++ (words r.back ++ (WHILE ∷ words b)) = ap (λ l. (o ++ l) ++ (WHILE ∷ words b)) r.cuts.words_are ∙ simp append_assoc in
    let w = while_sketch tok (o ++ words r.test) (words b) seen x index counts tx i (subst (λ l. IsSketch l (map tok seen) counts) read s.sketch) in
    let u = while_unforced (o ++ words r.test) (words b) (subst (λ l. AreUnforced l) read s.unforced) in
    let h : here ≡ start at r.outside + (size r.test + 4) + size b = s.here_is ∙ ap (λ q. start at q + size b) r.is in
    let z = cut_size r.test (here - (size b + 4) - to) r.front r.back r.cuts in
    let goes = r.goes in
    let makes = r.makes in
    let same : Some (In r.outside (While r.front r.back b)) ≡ Some (In g d) = cc in
    begun tok at r.outside g (While r.front r.back b) d here (here + 4) place (o ++ words r.front) (words r.back ++ (WHILE ∷ words b)) seen1 seen2 y REPEAT counts counts1 frames1
    (subst (λ l. IsSketch l (map tok seen1) counts) cut (subst (λ l. IsSketch ((o ++ words r.test) ++ (WHILE ∷ words b)) (map tok l) counts) (sym e1) w)) (subst (λ l. AreUnforced l) cut u)
    s.few (omega arith) tt ty e2 pl within c1 (simp append_assoc) k (omega arith) same

-- Structures that end.
abbrev pub ended : Frames → Body → Body
ended FTop c = c
ended (FPast t) c = c
ended (FIf f t to) c = IfThen t c
ended (FElse f t a to) c = IfElse t a c
ended (FDo f t) c = c

pub shut_one : (f : Frames) (c : Body) (here : ℕ) → EndsHere f here → shut f c here ≡ shut (beneath f) (ended f c) here
shut_one f c here h = grind (arith, le-ltb)

one_seen : {X : Type 0} (tok : X → Token) (at : ℕ) (f : Frames) (c : Body) (here : ℕ) (seen seen1 : List X) (w : X) (counts : List ℕ) (frames frames' : List Frame) → EndsHere f here → tok w ≡ THEN → Seen at f c here (map tok seen) counts frames → seen1 ≡ seen ++ w ∷ [] → frames' ≡ frames_of at (beneath f) → Seen at (beneath f) (ended f c) here (map tok seen1) counts frames'
one_seen tok at (FIf f t to) c here seen seen1 w counts frames frames' h tw s e k =
    one_more tok at (FIf f t to) f f c (IfThen t c) (IfThen t c) here here seen seen1 w THEN counts frames frames' s tt tw e (simp append_assoc) k (omega (arith, s.here_is)) (omega arith) refl
one_seen tok at (FElse f t a to) c here seen seen1 w counts frames frames' h tw s e k =
    one_more tok at (FElse f t a to) f f c (IfElse t a c) (IfElse t a c) here here seen seen1 w THEN counts frames frames' s tt tw e (simp append_assoc) k (omega (arith, s.here_is)) (omega arith) refl
one_seen tok at _ c here seen seen1 w counts frames frames' h tw s e k = absurd h

-- what is left to end leads to the same
pub record Shuts (at : ℕ) (g : Frames) (d : Body) (here : ℕ) (seen : List Token) (counts : List ℕ) (frames : List Frame) : Type 0 where
  pub frame : Frames
  pub body : Body
  pub is : Seen at frame body here seen counts frames
  pub leads : shut frame body here ≡ In g d

pub shuts_turn : {X : Type 0} (tok : X → Token) (at : ℕ) (g : Frames) (d : Body) (here : ℕ) (seen seen1 : List X) (w : X) (counts : List ℕ) (frames frames' : List Frame) (s : Shuts at g d here (map tok seen) counts frames) → EndsHere s.frame here → tok w ≡ THEN → seen1 ≡ seen ++ w ∷ [] → frames' ≡ frames_of at (beneath s.frame) → Shuts at g d here (map tok seen1) counts frames'
shuts_turn tok at g d here seen seen1 w counts frames frames' s h tw e k =
    record {
      frame = beneath s.frame;
      body = ended s.frame s.body;
      is = one_seen tok at s.frame s.body here seen seen1 w counts frames frames' h tw s.is e k;
      leads = grind (arith, shut_one);
    }

pub shuts_end : (at : ℕ) (g : Frames) (d : Body) (here : ℕ) (seen : List Token) (counts : List ℕ) (frames : List Frame) (s : Shuts at g d here seen counts frames) → (EndsHere s.frame here → ⊥) → Seen at g d here seen counts frames
shuts_end at g d here seen counts frames s h = grind arith

-- where the innermost body begins
pub begins_top : (at : ℕ) (f : Frames) → begins_at at (top_frame at f) ≡ start at f
begins_top at f = grind arith

-- a jump, by where it goes
pub branch_forward : (f : Frames) (c : Body) (here to : ℕ) (s : Option Shape) → here < to → step f c here (IBranch to) ≡ s → else_at f c to ≡ s
branch_forward f c here to s h e = grind (arith, lt-ltb)

pub branch_over : (f : Frames) (c : Body) (here to : ℕ) (s : Option Shape) → to ≤ here → to < here - size c → step f c here (IBranch to) ≡ s → repeat_at f c here to ≡ s
branch_over f c here to s h k e = grind (arith, le-ltb, lt-ltb)

pub branch_back : (f : Frames) (c : Body) (here to : ℕ) (s : Option Shape) → to ≤ here → here - size c ≤ to → step f c here (IBranch to) ≡ s → again_at f (split c (here - to)) ≡ s
branch_back f c here to s h k e = grind (arith, le-ltb)

-- the start of the innermost body, from where it ends
pub start_back : (at : ℕ) (f : Frames) (c : Body) (here : ℕ) (seen : List Token) (counts : List ℕ) (frames : List Frame) → Seen at f c here seen counts frames → start at f ≡ here - size c
start_back at f c here seen counts frames s = let h = s.here_is in omega arith
