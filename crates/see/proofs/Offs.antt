-- What an instruction takes off the front, and where its text lies.
use Rattle.std.proofs.Common.{◌≡◌, Bool, true, false, ℕ, ◌+◌, ◌*◌, cond, List, [], ◌∷◌, length, take, drop, zero, suc, refl, sym, ap, ◌∙◌, subst, arith}
use Rattle.std.proofs.lemmas.List.{drop-drop}
use Rattle.std.proofs.Math.Dec.{eqb}
use Rattle.memory.specs.Controls.{number_of}
use Rattle.memory.specs.declared.controls.Control.TheVariants as ctl
use Rattle.colon_bodies.specs.Instructions.{Instr, ICall, INum, ICompile, IText, IQuery, IBranch, IDo, ILoop, IDoes, len}
use Rattle.colon_bodies.specs.Found.{Front, Off, First, peel, with_cell, with_text, of_control, chosen, pick, controls, first}
use Rattle.std.specs.Prelude.{Option, Some, None}
use Rattle.see.specs.Parts.{LiesIn}

-- the bytes after it are left, and its text is where it was
abbrev IsOff : List ℕ → Front → Type 0
IsOff bs Off = Unit {0}
IsOff bs (First i rest) = (drop (len i) bs ≡ rest) × LiesIn bs 0 i

take_taken : (n : ℕ) (bs : List ℕ) → take (length (take n bs)) bs ≡ take n bs
take_taken zero bs = refl
take_taken (suc n) [] = refl
take_taken (suc n) (b ∷ bs) = ap (λ l. b ∷ l) (take_taken n bs)

drop_taken : (n : ℕ) (bs : List ℕ) → drop (length (take n bs)) bs ≡ drop n bs
drop_taken zero bs = refl
drop_taken (suc n) [] = refl
drop_taken (suc n) (b ∷ bs) = drop_taken n bs

text_off : (a b : ℕ) (k : Bool) (bs : List ℕ) → IsOff (a ∷ b ∷ bs) (with_text k bs)
text_off a b k [] = tt
text_off a b k (n ∷ bs) = (sym (drop-drop (length (take n bs)) 3 (a ∷ b ∷ n ∷ bs)) ∙ drop_taken n bs, take_taken n bs)

cell_off : (a b : ℕ) (f : ℕ → Instr) (bs : List ℕ) → ((x : ℕ) → len (f x) ≡ 4) → ((x : ℕ) → LiesIn (a ∷ b ∷ bs) 0 (f x)) → IsOff (a ∷ b ∷ bs) (with_cell f (peel bs))
cell_off a b f (x ∷ y ∷ bs) h k = (ap (λ n. drop n (a ∷ b ∷ x ∷ y ∷ bs)) (h (x + 256 * y)), k (x + 256 * y))
cell_off a b f _ h k = tt

either : (bs : List ℕ) (b : Bool) (x y : Front) → IsOff bs x → IsOff bs y → IsOff bs (cond b x y)
either bs b x y h k = grind arith

num_off : (a b : ℕ) (bs : List ℕ) → IsOff (a ∷ b ∷ bs) (with_cell INum (peel bs))
num_off a b bs = cell_off a b INum bs (λ x. refl) (λ x. tt)

pair_off : (a b : ℕ) (bs : List ℕ) → IsOff (a ∷ b ∷ bs) (with_cell ICompile (peel bs))
pair_off a b bs = cell_off a b ICompile bs (λ x. refl) (λ x. tt)

query_off : (a b : ℕ) (bs : List ℕ) → IsOff (a ∷ b ∷ bs) (with_cell IQuery (peel bs))
query_off a b bs = cell_off a b IQuery bs (λ x. refl) (λ x. tt)

branch_off : (a b : ℕ) (bs : List ℕ) → IsOff (a ∷ b ∷ bs) (with_cell IBranch (peel bs))
branch_off a b bs = cell_off a b IBranch bs (λ x. refl) (λ x. tt)

do_off : (a b : ℕ) (bs : List ℕ) → IsOff (a ∷ b ∷ bs) (with_cell IDo (peel bs))
do_off a b bs = cell_off a b IDo bs (λ x. refl) (λ x. tt)

loop_off : (a b : ℕ) (k : Bool) (bs : List ℕ) → IsOff (a ∷ b ∷ bs) (with_cell (ILoop k) (peel bs))
loop_off a b k bs = cell_off a b (ILoop k) bs (λ x. refl) (λ x. tt)

does_off : (a b : ℕ) (bs : List ℕ) → IsOff (a ∷ b ∷ bs) (First IDoes bs)
does_off a b bs = (refl, tt)

control_off : (a b k : ℕ) (bs : List ℕ) → IsOff (a ∷ b ∷ bs) (of_control k bs)
control_off a b k bs =
    (either (a ∷ b ∷ bs) (eqb k (number_of ctl.Literal)) (with_cell INum (peel bs)) (cond (eqb k (number_of ctl.ShowText)) (with_text false bs) (cond (eqb k (number_of ctl.AbortText)) (with_text true bs) (cond (eqb k (number_of ctl.ZeroBranch)) (with_cell IQuery (peel bs)) (cond (eqb k (number_of ctl.Branch)) (with_cell IBranch (peel bs)) (cond (eqb k (number_of ctl.Do)) (with_cell IDo (peel bs)) (cond (eqb k (number_of ctl.Loop)) (with_cell (ILoop false) (peel bs)) (cond (eqb k (number_of ctl.PlusLoop)) (with_cell (ILoop true) (peel bs)) (cond (eqb k (number_of ctl.Does)) (First IDoes bs) (with_cell ICompile (peel bs)))))))))) (num_off a b bs) (either (a ∷ b ∷ bs) (eqb k (number_of ctl.ShowText)) (with_text false bs) (cond (eqb k (number_of ctl.AbortText)) (with_text true bs) (cond (eqb k (number_of ctl.ZeroBranch)) (with_cell IQuery (peel bs)) (cond (eqb k (number_of ctl.Branch)) (with_cell IBranch (peel bs)) (cond (eqb k (number_of ctl.Do)) (with_cell IDo (peel bs)) (cond (eqb k (number_of ctl.Loop)) (with_cell (ILoop false) (peel bs)) (cond (eqb k (number_of ctl.PlusLoop)) (with_cell (ILoop true) (peel bs)) (cond (eqb k (number_of ctl.Does)) (First IDoes bs) (with_cell ICompile (peel bs))))))))) (text_off a b false bs) (either (a ∷ b ∷ bs) (eqb k (number_of ctl.AbortText)) (with_text true bs) (cond (eqb k (number_of ctl.ZeroBranch)) (with_cell IQuery (peel bs)) (cond (eqb k (number_of ctl.Branch)) (with_cell IBranch (peel bs)) (cond (eqb k (number_of ctl.Do)) (with_cell IDo (peel bs)) (cond (eqb k (number_of ctl.Loop)) (with_cell (ILoop false) (peel bs)) (cond (eqb k (number_of ctl.PlusLoop)) (with_cell (ILoop true) (peel bs)) (cond (eqb k (number_of ctl.Does)) (First IDoes bs) (with_cell ICompile (peel bs)))))))) (text_off a b true bs) (either (a ∷ b ∷ bs) (eqb k (number_of ctl.ZeroBranch)) (with_cell IQuery (peel bs)) (cond (eqb k (number_of ctl.Branch)) (with_cell IBranch (peel bs)) (cond (eqb k (number_of ctl.Do)) (with_cell IDo (peel bs)) (cond (eqb k (number_of ctl.Loop)) (with_cell (ILoop false) (peel bs)) (cond (eqb k (number_of ctl.PlusLoop)) (with_cell (ILoop true) (peel bs)) (cond (eqb k (number_of ctl.Does)) (First IDoes bs) (with_cell ICompile (peel bs))))))) (query_off a b bs) (either (a ∷ b ∷ bs) (eqb k (number_of ctl.Branch)) (with_cell IBranch (peel bs)) (cond (eqb k (number_of ctl.Do)) (with_cell IDo (peel bs)) (cond (eqb k (number_of ctl.Loop)) (with_cell (ILoop false) (peel bs)) (cond (eqb k (number_of ctl.PlusLoop)) (with_cell (ILoop true) (peel bs)) (cond (eqb k (number_of ctl.Does)) (First IDoes bs) (with_cell ICompile (peel bs)))))) (branch_off a b bs) (either (a ∷ b ∷ bs) (eqb k (number_of ctl.Do)) (with_cell IDo (peel bs)) (cond (eqb k (number_of ctl.Loop)) (with_cell (ILoop false) (peel bs)) (cond (eqb k (number_of ctl.PlusLoop)) (with_cell (ILoop true) (peel bs)) (cond (eqb k (number_of ctl.Does)) (First IDoes bs) (with_cell ICompile (peel bs))))) (do_off a b bs) (either (a ∷ b ∷ bs) (eqb k (number_of ctl.Loop)) (with_cell (ILoop false) (peel bs)) (cond (eqb k (number_of ctl.PlusLoop)) (with_cell (ILoop true) (peel bs)) (cond (eqb k (number_of ctl.Does)) (First IDoes bs) (with_cell ICompile (peel bs)))) (loop_off a b false bs) (either (a ∷ b ∷ bs) (eqb k (number_of ctl.PlusLoop)) (with_cell (ILoop true) (peel bs)) (cond (eqb k (number_of ctl.Does)) (First IDoes bs) (with_cell ICompile (peel bs))) (loop_off a b true bs) (either (a ∷ b ∷ bs) (eqb k (number_of ctl.Does)) (First IDoes bs) (with_cell ICompile (peel bs)) (does_off a b bs) (pair_off a b bs))))))))))

chosen_off : (a b c : ℕ) (bs : List ℕ) (o : Option ℕ) → IsOff (a ∷ b ∷ bs) (chosen c bs o)
chosen_off a b c bs None = (refl, tt)
chosen_off a b c bs (Some k) = control_off a b k bs

first_off : (rt : ℕ → ℕ) (bs : List ℕ) → IsOff bs (first rt bs)
first_off rt (a ∷ b ∷ bs) = chosen_off a b (a + 256 * b) bs (pick rt (a + 256 * b) controls)
first_off rt _ = tt

-- the same of an instruction that is at a place
pub rest_at : (rt : ℕ → ℕ) (bytes left rest : List ℕ) (p : ℕ) (i : Instr) → left ≡ drop p bytes → first rt left ≡ First i rest → rest ≡ drop (p + len i) bytes
rest_at rt bytes left rest p i e f =
    let o = subst (IsOff left) f (first_off rt left) in
    sym o.0 ∙ ap (drop (len i)) e ∙ drop-drop (len i) p bytes

pub lies_at : (rt : ℕ → ℕ) (bytes left rest : List ℕ) (p : ℕ) (i : Instr) → left ≡ drop p bytes → first rt left ≡ First i rest → LiesIn bytes p i
lies_at rt bytes left rest p (IText k text) e f =
    let o = subst (IsOff left) f (first_off rt left) in
    ap (take (length text)) (sym (drop-drop 3 p bytes) ∙ ap (drop 3) (sym e)) ∙ o.1
lies_at rt bytes left rest p (ICall w) e f = tt
lies_at rt bytes left rest p (INum n) e f = tt
lies_at rt bytes left rest p (ICompile w) e f = tt
lies_at rt bytes left rest p (IQuery l) e f = tt
lies_at rt bytes left rest p (IBranch l) e f = tt
lies_at rt bytes left rest p (IDo l) e f = tt
lies_at rt bytes left rest p (ILoop k l) e f = tt
lies_at rt bytes left rest p IDoes e f = tt
