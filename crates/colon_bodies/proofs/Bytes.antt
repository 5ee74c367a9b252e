-- The bytes of flat instructions, and that no others have them.
use Rattle.std.proofs.Common.{◌≡◌, ◌≢◌, ℕ, ◌+◌, ◌*◌, ◌/◌, ◌%◌, ◌<◌, ◌≤◌, ◌⊎◌, inl, inr, Bool, true, false, cond, List, [], ◌∷◌, ◌++◌, length, take, drop, Some, None, refl, sym, ap, ◌∙◌, arith, append_assoc, append-nil, zero, suc, length-append}
use Rattle.std.proofs.Math.Dec.{eqb}
use Rattle.std.proofs.lemmas.Bool.{eqb-true, eq-eqb}
use Rattle.std.proofs.lemmas.List.{append_cancel_right}
use Rattle.colon_bodies.specs.Tree.{Body, Empty, Definition}
use Rattle.colon_bodies.specs.Code.{code, all_code, whole_code}
use Rattle.memory.specs.Bytes.{cell_bytes}
use Rattle.colon_bodies.specs.Tokens.{text_control, loop_control}
use Rattle.colon_bodies.specs.Plain.{AreApart, IsPlainCell, IsPlainBody, IsPlainDefinition}
use Rattle.colon_bodies.specs.Instructions.{Instr, ICall, INum, ICompile, IText, IQuery, IBranch, IDo, ILoop, IDoes, flat, flat_all}
use Rattle.colon_bodies.specs.Found.{Off, First, Peel, peel, with_cell, is_cell, pick, controls, of_control, chosen, off, first, with_first, and_more, instrs, before_exit, before_last, built_of, found}
use Rattle.colon_bodies.proofs.Cells.{length-cell}
use Rattle.colon_bodies.proofs.Flat.{run_all, one_tree}
use Rattle.colon_bodies.proofs.Parts.{by_parts}

abbrev pub bytes : (ℕ → ℕ) → Instr → List ℕ
bytes rt (ICall w) = cell_bytes w
bytes rt (INum n) = cell_bytes (rt 6) ++ cell_bytes n
bytes rt (ICompile w) = cell_bytes (rt 19) ++ cell_bytes w
bytes rt (IText k bs) = cell_bytes (rt (text_control k)) ++ (length bs ∷ bs)
bytes rt (IQuery to) = cell_bytes (rt 8) ++ cell_bytes to
bytes rt (IBranch to) = cell_bytes (rt 7) ++ cell_bytes to
bytes rt (IDo to) = cell_bytes (rt 9) ++ cell_bytes to
bytes rt (ILoop k to) = cell_bytes (rt (loop_control k)) ++ cell_bytes to
bytes rt IDoes = cell_bytes (rt 18)

abbrev pub all_bytes : (ℕ → ℕ) → List Instr → List ℕ
all_bytes rt [] = []
all_bytes rt (i ∷ is) = bytes rt i ++ all_bytes rt is

all-append : (rt : ℕ → ℕ) (is js : List Instr) → all_bytes rt (is ++ js) ≡ all_bytes rt is ++ all_bytes rt js
all-append rt [] js = refl
all-append rt (i ∷ is) js = ap (λ l. bytes rt i ++ l) (all-append rt is js) ∙ sym (append_assoc (bytes rt i) (all_bytes rt is) (all_bytes rt js))

pub code_is : (rt : ℕ → ℕ) (t : Body) (at : ℕ) → all_bytes rt (flat t at) ≡ code rt t at
code_is rt = by_parts (λ t. (at : ℕ) → all_bytes rt (flat t at) ≡ code rt t at) (elim [ Empty ↦ λ ih at. refl | t ↦ λ ih at. grind (arith, all-append, append-nil, append_assoc, ih) ])

pub all_code_is : (rt : ℕ → ℕ) (d : Definition) (at : ℕ) → all_bytes rt (flat_all d at) ≡ all_code rt d at
all_code_is rt d at = grind (arith, code_is, all-append)

-- instructions whose control has a cell, and whose call is no control's
abbrev pub IsPlainInstr : (ℕ → ℕ) → Instr → Type 0
IsPlainInstr rt (ICall w) = IsPlainCell rt w
IsPlainInstr rt (INum n) = rt 6 ≢ 0
IsPlainInstr rt (ICompile w) = rt 19 ≢ 0
IsPlainInstr rt (IText k bs) = rt (text_control k) ≢ 0
IsPlainInstr rt (IQuery to) = rt 8 ≢ 0
IsPlainInstr rt (IBranch to) = rt 7 ≢ 0
IsPlainInstr rt (IDo to) = rt 9 ≢ 0
IsPlainInstr rt (ILoop k to) = rt (loop_control k) ≢ 0
IsPlainInstr rt IDoes = rt 18 ≢ 0

abbrev pub ArePlain : (ℕ → ℕ) → List Instr → Type 0
ArePlain rt [] = Unit {0}
ArePlain rt (i ∷ is) = IsPlainInstr rt i × ArePlain rt is

plain-append : (rt : ℕ → ℕ) (is js : List Instr) → ArePlain rt is → ArePlain rt js → ArePlain rt (is ++ js)
plain-append rt [] js a b = b
plain-append rt (i ∷ is) js a b = (a.0, plain-append rt is js a.1 b)

pub plain_flat : (rt : ℕ → ℕ) (t : Body) (at : ℕ) → IsPlainBody rt t → ArePlain rt (flat t at)
plain_flat rt = by_parts (λ t. (at : ℕ) → IsPlainBody rt t → ArePlain rt (flat t at)) (elim [ Empty ↦ λ ih at h. tt | t ↦ λ ih at h. grind (arith, plain-append, ih) ])

pub plain_all : (rt : ℕ → ℕ) (d : Definition) (at : ℕ) → IsPlainDefinition rt d → ArePlain rt (flat_all d at)
plain_all rt d at h = grind (arith, plain_flat, plain-append)

pub peel_cell : (x : ℕ) (rest : List ℕ) → peel (cell_bytes x ++ rest) ≡ Peel x rest
unfolding cell_bytes
peel_cell x rest = let e : x % 256 + 256 * (x / 256) ≡ x = omega arith in ap (λ v. Peel v rest) e

false_if : (b : Bool) → (b ≡ true → ⊥) → b ≡ false
false_if b h = grind arith

unlike : (a b : ℕ) → a ≢ b → eqb a b ≡ false
unlike a b h = false_if (eqb a b) (λ e. h (eqb-true a b e))

take_front : (xs ys : List ℕ) → take (length xs) (xs ++ ys) ≡ xs
take_front [] ys = refl
take_front (x ∷ xs) ys = ap (λ l. x ∷ l) (take_front xs ys)

drop_front : (xs ys : List ℕ) → drop (length xs) (xs ++ ys) ≡ ys
drop_front [] ys = refl
drop_front (x ∷ xs) ys = drop_front xs ys

-- a control of the list is picked for its cell, and none for another
abbrev Has : ℕ → List ℕ → Type 0
Has k [] = ⊥
Has k (j ∷ js) = (k ≡ j) ⊎ Has k js

abbrev Within : List ℕ → Type 0
Within [] = Unit {0}
Within (j ∷ js) = (6 ≤ j) × (j < 20) × ((j < 12) ⊎ (16 ≤ j)) × Within js

pub all_within : Within controls
all_within = grind arith

pub is_true : (rt : ℕ → ℕ) (k : ℕ) → rt k ≢ 0 → is_cell rt k (rt k) ≡ true
is_true rt k n = ap (λ b. cond b false (eqb (rt k) (rt k))) (unlike (rt k) 0 n) ∙ eq-eqb (rt k) (rt k) refl

is_false : (rt : ℕ → ℕ) (k c : ℕ) → (rt k ≢ 0 → c ≢ rt k) → is_cell rt k c ≡ false
is_false rt k c h = grind (arith, false_if, eqb-true, eq-eqb)

pub not_picked : (rt : ℕ → ℕ) (w : ℕ) (ks : List ℕ) → IsPlainCell rt w → Within ks → pick rt w ks ≡ None
not_picked rt w [] h r = refl
not_picked rt w (k ∷ ks) h r = ap (λ b. cond b (Some k) (pick rt w ks)) (is_false rt k w (h k r.0 r.1 r.2)) ∙ not_picked rt w ks h r.3

module _ (rt : ℕ → ℕ) (d : AreApart rt) where
  picked : (k : ℕ) (ks : List ℕ) → 5 ≤ k → k < 28 → rt k ≢ 0 → Within ks → Has k ks → pick rt (rt k) ks ≡ Some k
  picked k [] a b n r h = absurd h
  picked k (j ∷ ks) a b n r h = by (is_cell rt j (rt k)) refl h (λ t. picked k ks a b n r.3 t)
    where
      same : is_cell rt j (rt k) ≡ true → j ≡ k
      same e =
          let q : eqb (rt k) (rt j) ≡ true = sym (ap (λ b. cond b false (eqb (rt k) (rt j))) (unlike (rt k) 0 n)) ∙ e in
          sym (d.apart k j a b (omega (arith, r.0)) (omega (arith, r.1)) n (eqb-true (rt k) (rt j) q))

      by : (b : Bool) → is_cell rt j (rt k) ≡ b → (k ≡ j) ⊎ Has k ks → (Has k ks → pick rt (rt k) ks ≡ Some k) → cond b (Some j) (pick rt (rt k) ks) ≡ Some k
      by true e h ih = ap Some (same e)
      by false e (inl q) ih = let z : is_cell rt j (rt k) ≡ true = ap (λ i. is_cell rt i (rt k)) (sym q) ∙ is_true rt k n in cc
      by false e (inr t) ih = ih t

  head_is : (k : ℕ) (more rest : List ℕ) → 5 ≤ k → k < 28 → rt k ≢ 0 → Has k controls → first rt ((cell_bytes (rt k) ++ more) ++ rest) ≡ of_control k (more ++ rest)
  head_is k more rest a b n h =
      ap (first rt) (append_assoc (cell_bytes (rt k)) more rest) ∙ ap (off rt) (peel_cell (rt k) (more ++ rest)) ∙ ap (chosen (rt k) (more ++ rest)) (picked k controls a b n all_within h)

  pub first_is : (i : Instr) (rest : List ℕ) → IsPlainInstr rt i → first rt (bytes rt i ++ rest) ≡ First i rest
  first_is (ICall w) rest h = ap (off rt) (peel_cell w rest) ∙ ap (chosen w rest) (not_picked rt w controls h all_within)
  first_is (INum n) rest h = head_is 6 (cell_bytes n) rest (omega arith) (omega arith) h (inl refl) ∙ ap (with_cell INum) (peel_cell n rest)
  first_is (IText false bs) rest h = head_is 16 (length bs ∷ bs) rest (omega arith) (omega arith) h (inr (inl refl)) ∙ ap (λ l. First (IText false l) (drop (length bs) (bs ++ rest))) (take_front bs rest) ∙ ap (First (IText false bs)) (drop_front bs rest)
  first_is (IText true bs) rest h = head_is 17 (length bs ∷ bs) rest (omega arith) (omega arith) h (inr (inr (inl refl))) ∙ ap (λ l. First (IText true l) (drop (length bs) (bs ++ rest))) (take_front bs rest) ∙ ap (First (IText true bs)) (drop_front bs rest)
  first_is (IQuery to) rest h = head_is 8 (cell_bytes to) rest (omega arith) (omega arith) h (inr (inr (inr (inl refl)))) ∙ ap (with_cell IQuery) (peel_cell to rest)
  first_is (IBranch to) rest h = head_is 7 (cell_bytes to) rest (omega arith) (omega arith) h (inr (inr (inr (inr (inl refl))))) ∙ ap (with_cell IBranch) (peel_cell to rest)
  first_is (IDo to) rest h = head_is 9 (cell_bytes to) rest (omega arith) (omega arith) h (inr (inr (inr (inr (inr (inl refl)))))) ∙ ap (with_cell IDo) (peel_cell to rest)
  first_is (ILoop false to) rest h = head_is 10 (cell_bytes to) rest (omega arith) (omega arith) h (inr (inr (inr (inr (inr (inr (inl refl))))))) ∙ ap (with_cell (ILoop false)) (peel_cell to rest)
  first_is (ILoop true to) rest h = head_is 11 (cell_bytes to) rest (omega arith) (omega arith) h (inr (inr (inr (inr (inr (inr (inr (inl refl)))))))) ∙ ap (with_cell (ILoop true)) (peel_cell to rest)
  first_is IDoes rest h = ap (λ l. first rt (l ++ rest)) (sym (append-nil (cell_bytes (rt 18)))) ∙ head_is 18 [] rest (omega arith) (omega arith) h (inr (inr (inr (inr (inr (inr (inr (inr (inl refl)))))))))
  first_is (ICompile w) rest h = head_is 19 (cell_bytes w) rest (omega arith) (omega arith) h (inr (inr (inr (inr (inr (inr (inr (inr (inr (inl refl)))))))))) ∙ ap (with_cell ICompile) (peel_cell w rest)

  pub one_flat : (is js : List Instr) → ArePlain rt is → ArePlain rt js → all_bytes rt is ≡ all_bytes rt js → is ≡ js
  one_flat [] [] h k e = refl
  one_flat [] (j ∷ js) h k e = let x : Off ≡ First j (all_bytes rt js) = ap (first rt) e ∙ first_is j (all_bytes rt js) k.0 in cc
  one_flat (i ∷ is) [] h k e = let x : First i (all_bytes rt is) ≡ Off = sym (first_is i (all_bytes rt is) h.0) ∙ ap (first rt) e in cc
  one_flat (i ∷ is) (j ∷ js) h k e =
      let x : First i (all_bytes rt is) ≡ First j (all_bytes rt js) = sym (first_is i (all_bytes rt is) h.0) ∙ ap (first rt) e ∙ first_is j (all_bytes rt js) k.0 in
      let a : i ≡ j = cc in
      let b : all_bytes rt is ≡ all_bytes rt js = cc in
      let r = one_flat is js h.1 k.1 b in
      cc

  -- No bytes are the code of two plain definitions.
  pub one_code : (t u : Definition) (at : ℕ) → IsPlainDefinition rt t → IsPlainDefinition rt u → all_code rt t at ≡ all_code rt u at → t ≡ u
  one_code t u at h k e =
      one_tree rt t u at h k (one_flat (flat_all t at) (flat_all u at) (plain_all rt t at h) (plain_all rt u at k) (all_code_is rt t at ∙ e ∙ sym (all_code_is rt u at)))

  pub one_thread : (t u : Definition) (at : ℕ) → IsPlainDefinition rt t → IsPlainDefinition rt u → whole_code rt t at ≡ whole_code rt u at → t ≡ u
  one_thread t u at h k e = one_code t u at h k (append_cancel_right _ _ _ e)

  -- the bytes of plain instructions are taken apart again
  some_bytes : (i : Instr) → 0 < length (bytes rt i)
  some_bytes (ICall w) = omega (arith, length-cell w)
  some_bytes (INum n) = omega (arith, length-append (cell_bytes (rt 6)) (cell_bytes n), length-cell n)
  some_bytes (ICompile w) = omega (arith, length-append (cell_bytes (rt 19)) (cell_bytes w), length-cell w)
  some_bytes (IText k bs) = omega (arith, length-append (cell_bytes (rt (text_control k))) (length bs ∷ bs))
  some_bytes (IQuery to) = omega (arith, length-append (cell_bytes (rt 8)) (cell_bytes to), length-cell to)
  some_bytes (IBranch to) = omega (arith, length-append (cell_bytes (rt 7)) (cell_bytes to), length-cell to)
  some_bytes (IDo to) = omega (arith, length-append (cell_bytes (rt 9)) (cell_bytes to), length-cell to)
  some_bytes (ILoop k to) = omega (arith, length-append (cell_bytes (rt (loop_control k))) (cell_bytes to), length-cell to)
  some_bytes IDoes = omega (arith, length-cell (rt 18))

  unroll : (xs : List ℕ) (n : ℕ) → 0 < length xs → instrs rt (suc n) xs ≡ and_more (first rt xs) (instrs rt n)
  unroll [] n h = absurd (omega arith)
  unroll (x ∷ xs) n h = refl

  instrs_of : (is : List Instr) (n : ℕ) → ArePlain rt is → length (all_bytes rt is) ≤ n → instrs rt n (all_bytes rt is) ≡ Some is
  instrs_of [] n h l = refl
  instrs_of (i ∷ is) zero h l = let s = some_bytes i in absurd (omega (arith, s, l, length-append (bytes rt i) (all_bytes rt is)))
  instrs_of (i ∷ is) (suc n) h l =
      let s = some_bytes i in
      let a = length-append (bytes rt i) (all_bytes rt is) in
      unroll (bytes rt i ++ all_bytes rt is) n (omega (arith, s, a))
      ∙ ap (λ f. and_more f (instrs rt n)) (first_is i (all_bytes rt is) h.0)
      ∙ ap (with_first i) (instrs_of is n h.1 (omega (arith, s, a, l)))

  before_of : (is : List Instr) (w : ℕ) → before_exit w (is ++ ICall w ∷ []) ≡ Some is
  before_of [] w = ap (λ b. cond b (Some []) None) (eq-eqb w w refl)
  before_of (i ∷ []) w = ap (with_first i) (before_of [] w)
  before_of (i ∷ j ∷ is) w = ap (with_first i) (before_of (j ∷ is) w)

  exit_plain : IsPlainCell rt (rt 5)
  exit_plain = λ k a b h n e. let q = d.apart k 5 (omega (arith, a)) (omega (arith, b)) (omega arith) (omega arith) n (sym e) in omega (arith, a, q)

  -- A plain definition is found again in its thread.
  pub found_again : (t : Definition) (at : ℕ) → IsPlainDefinition rt t → found rt (whole_code rt t at) at ≡ Some t
  found_again t at h =
      let is = flat_all t at in
      let e = rt 5 in
      let b : whole_code rt t at ≡ all_bytes rt (is ++ ICall e ∷ []) = ap (λ l. l ++ cell_bytes e) (sym (all_code_is rt t at)) ∙ ap (λ l. all_bytes rt is ++ l) (sym (append-nil (cell_bytes e))) ∙ sym (all-append rt is (ICall e ∷ [])) in
      let p = plain-append rt is (ICall e ∷ []) (plain_all rt t at h) (exit_plain, tt) in
      ap (λ l. built_of at (before_last e (instrs rt (length l) l))) b
      ∙ ap (λ o. built_of at (before_last e o)) (instrs_of (is ++ ICall e ∷ []) (length (all_bytes rt (is ++ ICall e ∷ []))) p (omega arith))
      ∙ ap (built_of at) (before_of is e)
      ∙ run_all rt t at h
