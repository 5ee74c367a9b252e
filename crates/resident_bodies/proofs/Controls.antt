-- Bodies read the control primitives below 32 alone.
use Rattle.std.proofs.Common.{◌≡◌, ℕ, ◌+◌, ◌<◌, ◌++◌, refl, ap, arith}
use Rattle.std.specs.Prelude.{true, false}
use Rattle.memory.specs.Bytes.{cell_bytes}
use Rattle.colon_bodies.specs.Tree.{Body, Empty, Call, Tick, Pair, Literal, Double, Text, IfThen, IfElse, Until, Again, While, Loop, Definition}
use Rattle.colon_bodies.specs.Code.{size, code, all_code, whole_code}

abbrev pub AreSame : (ℕ → ℕ) → (ℕ → ℕ) → Type 0
AreSame f g = (k : ℕ) → k < 32 → f k ≡ g k

code_same : (f g : ℕ → ℕ) (t : Body) (at : ℕ) → AreSame f g → code f t at ≡ code g t at
code_same f g Empty at h = refl
code_same f g (Call t b w) at h = ap (λ l. l ++ cell_bytes w) (code_same f g t at h)
code_same f g (Literal t n) at h = rw (code_same f g t at h, h 6 (omega arith)) refl
code_same f g (Double t n) at h = rw (code_same f g t at h, h 6 (omega arith)) refl
code_same f g (Tick t w) at h = rw (code_same f g t at h, h 6 (omega arith)) refl
code_same f g (Pair t b w) at h = rw (code_same f g t at h, h 19 (omega arith)) refl
code_same f g (IfThen t a) at h = rw (code_same f g t at h, code_same f g a (at + size t + 4) h, h 8 (omega arith)) refl
code_same f g (IfElse t a b) at h = rw (code_same f g t at h, code_same f g a (at + size t + 4) h, code_same f g b (at + size t + (8 + size a)) h, h 8 (omega arith), h 7 (omega arith)) refl
code_same f g (Until t a) at h = rw (code_same f g t at h, code_same f g a (at + size t) h, h 8 (omega arith)) refl
code_same f g (Again t a) at h = rw (code_same f g t at h, code_same f g a (at + size t) h, h 7 (omega arith)) refl
code_same f g (While t a b) at h = rw (code_same f g t at h, code_same f g a (at + size t) h, code_same f g b (at + size t + (size a + 4)) h, h 8 (omega arith), h 7 (omega arith)) refl
code_same f g (Loop t a true) at h = rw (code_same f g t at h, code_same f g a (at + size t + 4) h, h 9 (omega arith), h 11 (omega arith)) refl
code_same f g (Loop t a false) at h = rw (code_same f g t at h, code_same f g a (at + size t + 4) h, h 9 (omega arith), h 10 (omega arith)) refl
code_same f g (Text t true bs) at h = rw (code_same f g t at h, h 17 (omega arith)) refl
code_same f g (Text t false bs) at h = rw (code_same f g t at h, h 16 (omega arith)) refl

pub all_same : (f g : ℕ → ℕ) (d : Definition) (at : ℕ) → AreSame f g → all_code f d at ≡ all_code g d at
all_same f g d at h = grind (arith, code_same, size)

pub thread_same : (f g : ℕ → ℕ) (d : Definition) (at : ℕ) → ((k : ℕ) → k < 32 → f k ≡ g k) → whole_code f d at ≡ whole_code g d at
thread_same f g d at h = rw (all_same f g d at h, h 5 (omega arith)) refl
