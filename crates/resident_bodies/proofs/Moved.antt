-- >IN moves, and then bytes are written.
use Rattle.std.proofs.Common.{◌≡◌, ℕ, ◌+◌, ◌*◌, ◌/◌, ◌%◌, ◌<◌, ◌≤◌, List, ◌++◌, ap, ◌∙◌, arith}
use Rattle.std.specs.Prelude.{Bool}
use Rattle.memory.specs.Bytes.{cell, put_cell, cell_bytes}
use Rattle.memory.proofs.Stands.{cell_below}
use Rattle.memory.proofs.Kept.{byte_cell, length_cell, cell_beside}
use Rattle.dictionary.specs.Laying.{laid_at}
use Rattle.compiling_words.specs.Code.{runtime, literal_code, text_code}
use Rattle.colon_bodies.specs.declared.words.Half.{Half}
use Rattle.colon_bodies.specs.Tokens.{NAME, NUMBER, DOUBLE, TEXT, text_control}
use Rattle.colon_bodies.specs.Tree.{Body}
use Rattle.colon_bodies.specs.Open.{Outer}
use Rattle.resident_bodies.specs.Words.{lays}
use Rattle.resident_bodies.specs.Drafts.{Draft}

pub moved : (before : List ℕ) (at : ℕ) (o : Outer) (t : Body) (h : Half) (m d below : List ℕ) (q : ℕ) → 256 ≤ at → Draft before at o t h m d below → Draft before at o t h (put_cell m 20 q) d below
moved before at o t h m d below q l g = grind (arith, cell_below, cell_beside, byte_cell, length_cell)

here_is : (m : List ℕ) (q : ℕ) → cell (put_cell m 20 q) 28 ≡ cell m 28
here_is m q = cell_beside m 20 q 28 (omega arith) (omega arith) (omega arith) (omega arith) (omega arith)

control_is : (m : List ℕ) (q k : ℕ) → k < 32 → runtime (put_cell m 20 q) k ≡ runtime m k
control_is m q k h = cell_beside m 20 q (64 + 2 * k) (omega arith) (omega arith) (omega arith) (omega arith) (omega arith)

pub moved_name : (m d : List ℕ) (q w : ℕ) → (lays (NAME w) (put_cell m 20 q) d).0 ≡ laid_at (cell m 28) (put_cell m 20 q) (cell_bytes w)
moved_name m d q w = ap (λ n. laid_at n (put_cell m 20 q) (cell_bytes w)) (here_is m q)

pub moved_number : (m d : List ℕ) (q n : ℕ) → (lays (NUMBER n) (put_cell m 20 q) d).0 ≡ laid_at (cell m 28) (put_cell m 20 q) (literal_code m n)
moved_number m d q n =
    ap (λ h. laid_at h (put_cell m 20 q) (literal_code (put_cell m 20 q) n)) (here_is m q)
    ∙ ap (λ c. laid_at (cell m 28) (put_cell m 20 q) (cell_bytes c ++ cell_bytes n)) (control_is m q 6 (omega arith))

pub moved_double : (m d : List ℕ) (q n : ℕ) → (lays (DOUBLE n) (put_cell m 20 q) d).0 ≡ laid_at (cell m 28) (put_cell m 20 q) (literal_code m (n % 65536) ++ literal_code m (n / 65536))
moved_double m d q n =
    ap (λ h. laid_at h (put_cell m 20 q) (literal_code (put_cell m 20 q) (n % 65536) ++ literal_code (put_cell m 20 q) (n / 65536))) (here_is m q)
    ∙ ap (λ c. laid_at (cell m 28) (put_cell m 20 q) ((cell_bytes c ++ cell_bytes (n % 65536)) ++ (cell_bytes c ++ cell_bytes (n / 65536)))) (control_is m q 6 (omega arith))

text_small : (k : Bool) → text_control k < 32
text_small k = grind arith

pub moved_text : (m d text : List ℕ) (q : ℕ) (k : Bool) → (lays (TEXT k text) (put_cell m 20 q) d).0 ≡ laid_at (cell m 28) (put_cell m 20 q) (text_code (runtime m (text_control k)) text)
moved_text m d text q k = grind (arith, here_is, control_is, text_small)
