-- A line, byte by byte.
use Rattle.std.proofs.Common.{◌≡◌, ℕ, suc, List, [], ◌∷◌, ◌++◌, ◌+◌, ◌-◌, ◌<◌, ◌≤◌, ◌&&◌, Bool, true, false, length, Option, None, Some, Result, Ok, refl, sym, ap, ◌∙◌, append_assoc, append-nil, arith}
use Rattle.std.specs.Prelude.{IfErr}
use Rattle.std.specs.List.{list_all}
use Rattle.machine.specs.Answer.{is_return, is_typed, is_line}
use Rattle.inner_interpreter.specs.Ends.{TakesByte}
use Rattle.inner_interpreter.specs.Lines.{Taken, line_of, IsBegun, IsLine, with_front}
use Rattle.std.specs.Io.KnownBytes.{Keeps}

pub at_end : (old new : Option (List ℕ)) (o : Option ℕ) (rest : List ℕ) → o ≡ None → old ≡ Some rest → TakesByte old new (Ok o) → (rest ≡ []) × (new ≡ Some [])
at_end old new o rest n e h = grind arith

pub took : (old new : Option (List ℕ)) (o : Option ℕ) (rest : List ℕ) (b : ℕ) → o ≡ Some b → old ≡ Some rest → TakesByte old new (Ok o) → (ys : List ℕ) × (rest ≡ b ∷ ys) × (new ≡ Some ys)
took old new o rest b n e h = grind arith

line_end : (n : ℕ) → line_of n [] ≡ record { bytes = []; returned = false; rest = [] }
line_end n = grind arith

pub line_ends : (n : ℕ) (front : List ℕ) (rest typed : List ℕ) (n' : ℕ) → rest ≡ [] → with_front front (line_of n' rest) ≡ line_of n typed → with_front front (record { bytes = []; returned = false; rest = [] }) ≡ line_of n typed
line_ends n front rest typed n' e h = ap (with_front front) (sym (line_end n') ∙ ap (line_of n') (sym e)) ∙ h

line_more : (m : ℕ) (b : ℕ) (ys front : List ℕ) → is_return b ≡ false → with_front front (line_of (suc m) (b ∷ ys)) ≡ with_front (front ++ b ∷ []) (line_of m ys)
line_more m b ys front e = rw e (ap (λ v. record { bytes = v; returned = (line_of m ys).returned; rest = (line_of m ys).rest }) (sym (append_assoc front (b ∷ []) (line_of m ys).bytes)))

pub is_taken : (n : ℕ) (typed front bytes : List ℕ) (returned : Bool) (rest : List ℕ) (unread : Option (List ℕ))
    → with_front front (record { bytes = []; returned = returned; rest = rest }) ≡ line_of n typed → bytes ≡ front → unread ≡ Some rest → IsLine n typed bytes returned unread
is_taken n typed front bytes returned rest unread e b u = grind (arith, append-nil)

one_more : (n i b : ℕ) (rest ys : List ℕ) → i < n → rest ≡ b ∷ ys → line_of (n - i) rest ≡ line_of (suc (n - (i + 1))) (b ∷ ys)
one_more n i b rest ys lt e = let k : n - i ≡ suc (n - (i + 1)) = omega arith in rw (k, e) refl

pub returned_here : (n i : ℕ) (front rest ys : List ℕ) (b : ℕ) (line : Taken) → i < n → is_return b ≡ true → rest ≡ b ∷ ys
    → with_front front (line_of (n - i) rest) ≡ line → with_front front (record { bytes = []; returned = true; rest = ys }) ≡ line
returned_here n i front rest ys b line lt t e h = grind arith

pub more_here : (n i : ℕ) (front rest ys : List ℕ) (b : ℕ) (line : Taken) → i < n → is_return b ≡ false → rest ≡ b ∷ ys
    → with_front front (line_of (n - i) rest) ≡ line → with_front (front ++ b ∷ []) (line_of (n - (i + 1)) ys) ≡ line
more_here n i front rest ys b line lt p e h =
    sym (line_more (n - (i + 1)) b ys front p) ∙ ap (with_front front) (sym (one_more n i b rest ys lt e)) ∙ h

-- one byte more was read
pub read_more : (front rest ys : List ℕ) (b : ℕ) → rest ≡ b ∷ ys → front ++ rest ≡ (front ++ b ∷ []) ++ ys
read_more front rest ys b e = ap (λ v. front ++ v) e ∙ sym (append_assoc front (b ∷ []) ys)

-- a call that failed took no byte
pub kept_unread : (old new : Option (List ℕ)) (rest : List ℕ) → old ≡ Some rest → Keeps old new → new ≡ Some rest
kept_unread old new rest e h = grind arith

-- what holds of a failed call
pub if_err : {T E : Type 0} (r : Result T E) (P : Type 0) → P → IfErr r (λ _. P)
if_err r P p = grind arith

pub begun : (n : ℕ) (typed gone rest : List ℕ) (unread : Option (List ℕ)) → typed ≡ gone ++ rest → list_all is_typed gone ≡ true → length gone < n → unread ≡ Some rest → IsBegun n typed unread
begun n typed gone rest unread e t f u = record { gone = gone; rest = rest; typed_is = e; in_line = t; few = f; unread_is = u }

both : (x y z : Bool) → (x && y) ≡ true → (y ≡ true → z ≡ true) → (x && z) ≡ true
both x y z h f = grind arith

-- one typed byte more
pub typed_more : (bytes : List ℕ) (b : ℕ) → list_all is_typed bytes ≡ true → is_return b ≡ false → list_all is_typed (bytes ++ b ∷ []) ≡ true
typed_more [] b h r = rw r refl
typed_more (c ∷ bytes) b h r = both (is_typed c) (list_all is_typed bytes) (list_all is_typed (bytes ++ b ∷ [])) h (λ k. typed_more bytes b k r)

-- a line that was taken fits its request
pub line_fits : (n : ℕ) (bytes : List ℕ) (returned : Bool) → list_all is_typed bytes ≡ true → (returned ≡ true → length bytes < n) → length bytes ≤ n → (returned ≡ false → 0 < length bytes) → is_line n bytes returned ≡ true
unfolding is_line
line_fits n bytes returned t f b s = grind arith
