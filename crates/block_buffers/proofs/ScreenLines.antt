-- The lines of a screen after its calls.
use Rattle.std.proofs.Common.{◌≡◌, ◌≢◌, ℕ, ◌+◌, ◌-◌, ◌/◌, ◌%◌, ◌<◌, ◌≤◌, List, ◌++◌, length, length-append, length-drop, take, drop, replicate, get_or, refl, arith, ap, ◌∙◌, sym, inl, inr}
use Rattle.std.proofs.lemmas.Bool.{cases_lt}
use Rattle.std.proofs.lemmas.Grind.{same_number_lists}
use Rattle.std.proofs.lemmas.List.{length-take-le, take-append-le, drop-append-le, take_at, take_all, drop-drop, drop-take, drop-replicate, take-replicate, take-take, get_or-take, get_or-drop}
use Rattle.std.proofs.Math.Seq.{drop-append-add}
use Rattle.block_buffers.specs.Screens.{IsScreen, IsLine, blank_line, blank_screen, line_start, line_at, with_line, line_inserted, line_deleted}

pub blank_whole : (n : ℕ) → n ≡ 1024 → replicate n 32 ≡ blank_screen
unfolding blank_screen
blank_whole n h = ap (λ (m : ℕ). replicate m 32) h

-- w bytes from a on, before the place b up to which the list is kept
part_before : (p x : List ℕ) (a b w : ℕ) → a + w ≤ b → b ≤ length p → take w (drop a (take b p ++ x)) ≡ take w (drop a p)
part_before p x a b w h l =
    let kept : length (take b p) ≡ b = length-take-le b p l
    in let left : length (drop a (take b p)) ≡ b - a = length-drop a (take b p) ∙ ap (λ (n : ℕ). n - a) kept
    in let split : take b p ≡ take (a + (b - a)) p = ap (λ (n : ℕ). take n p) (omega arith)
    in ap (take w) (drop-append-le a (take b p) x (omega arith)) ∙ take-append-le w (drop a (take b p)) x (omega arith)
    ∙ ap (λ (q : List ℕ). take w (drop a q)) split ∙ ap (take w) (drop-take a (b - a) p) ∙ take-take w (b - a) (drop a p) (omega arith)

-- w bytes from a on, at or after the b bytes in front
part_behind : (f x : List ℕ) (a b w : ℕ) → length f ≡ b → b ≤ a → take w (drop a (f ++ x)) ≡ take w (drop (a - b) x)
part_behind f x a b w h l = grind (arith, drop-append-add)

-- the text is at b
part_text : (p text x : List ℕ) (b w : ℕ) → length text ≡ w → b ≤ length p → take w (drop b (take b p ++ (text ++ x))) ≡ text
part_text p text x b w h l = grind (arith, part_behind, length-take-le, take_at)

-- after the text
part_after : (p text x : List ℕ) (a b w : ℕ) → length text ≡ w → b ≤ length p → b + w ≤ a → take w (drop a (take b p ++ (text ++ x))) ≡ take w (drop (a - b - w) x)
part_after p text x a b w h l k = grind (arith, part_behind, length-take-le)

put_after : (p text : List ℕ) (a b w : ℕ) → length text ≡ w → b ≤ length p → b + w ≤ a → take w (drop a (take b p ++ (text ++ drop (b + w) p))) ≡ take w (drop a p)
put_after p text a b w h l k = grind (arith, part_after, drop-drop)

-- the part that was w bytes before a
inserted_after : (p text : List ℕ) (a b w : ℕ) → length text ≡ w → b + w ≤ a → a + w ≤ length p → take w (drop a (take b p ++ (text ++ take (length p - b - w) (drop b p)))) ≡ take w (drop (a - w) p)
inserted_after p text a b w h k l =
    let split : take (length p - b - w) (drop b p) ≡ take ((a - b - w) + (length p - a)) (drop b p) = ap (λ (n : ℕ). take n (drop b p)) (omega arith)
    in part_after p text (take (length p - b - w) (drop b p)) a b w h (omega arith) k
    ∙ ap (λ (q : List ℕ). take w (drop (a - b - w) q)) split ∙ ap (take w) (drop-take (a - b - w) (length p - a) (drop b p))
    ∙ take-take w (length p - a) (drop (a - b - w) (drop b p)) (omega arith)
    ∙ ap (take w) (drop-drop (a - b - w) b p ∙ ap (λ (n : ℕ). drop n p) (omega arith))

-- the part that was w bytes after a
deleted_after : (p x : List ℕ) (a b w : ℕ) → b ≤ a → a + w + w ≤ length p → take w (drop a (take b p ++ (drop (b + w) p ++ x))) ≡ take w (drop (a + w) p)
deleted_after p x a b w k l =
    let left : length (drop (b + w) p) ≡ length p - (b + w) = length-drop (b + w) p
    in part_behind (take b p) (drop (b + w) p ++ x) a b w (length-take-le b p (omega arith)) k
    ∙ ap (take w) (drop-append-le (a - b) (drop (b + w) p) x (omega arith))
    ∙ ap (λ (q : List ℕ). take w (q ++ x)) (drop-drop (a - b) (b + w) p ∙ ap (λ (n : ℕ). drop n p) (omega arith))
    ∙ take-append-le w (drop (a + w) p) x (omega (arith, length-drop (a + w) p))

-- the blanks at the end
deleted_last : (p x : List ℕ) (a b w : ℕ) → b ≤ a → a + w ≡ length p → length x ≡ w → take w (drop a (take b p ++ (drop (b + w) p ++ x))) ≡ x
deleted_last p x a b w k l h = grind (arith, part_behind, length-take-le, length-drop, take_all)

pub put_line : (p text : List ℕ) (n : ℕ) → IsScreen p → IsLine text → line_at (with_line p n text) n ≡ text
unfolding line_at with_line
put_line p text n h k = part_text p text (drop (line_start n + 64) p) (line_start n) 64 k (omega arith)

pub put_others : (p text : List ℕ) (n m : ℕ) → IsScreen p → IsLine text → n < 16 → m < 16 → m ≢ n → line_at (with_line p n text) m ≡ line_at p m
unfolding line_at with_line
put_others p text n m h k l r d = elim (cases_lt m n) [
  | inl before ↦ part_before p (text ++ drop (line_start n + 64) p) (line_start m) (line_start n) 64 (omega arith) (omega arith)
  | inr behind ↦ put_after p text (line_start m) (line_start n) 64 k (omega arith) (omega arith)
]

pub insert_before : (p text : List ℕ) (n m : ℕ) → IsScreen p → n < 16 → m < n → line_at (line_inserted p n text) m ≡ line_at p m
unfolding line_at line_inserted
insert_before p text n m h l r =
    part_before p (text ++ take (length p - line_start n - 64) (drop (line_start n) p)) (line_start m) (line_start n) 64 (omega arith) (omega arith)

pub insert_line : (p text : List ℕ) (n : ℕ) → IsScreen p → IsLine text → line_at (line_inserted p n text) n ≡ text
unfolding line_at line_inserted
insert_line p text n h k =
    part_text p text (take (length p - line_start n - 64) (drop (line_start n) p)) (line_start n) 64 k (omega arith)

pub insert_behind : (p text : List ℕ) (n m : ℕ) → IsScreen p → IsLine text → n ≤ m → m < 15 → line_at (line_inserted p n text) (m + 1) ≡ line_at p m
unfolding line_at line_inserted
insert_behind p text n m h k l r =
    let back : line_start (m + 1) - 64 ≡ line_start m = omega arith
    in inserted_after p text (line_start (m + 1)) (line_start n) 64 k (omega arith) (omega arith) ∙ ap (λ (a : ℕ). take 64 (drop a p)) back

size_blank : length blank_line ≡ 64
unfolding blank_line
size_blank = refl

pub delete_before : (p : List ℕ) (n m : ℕ) → IsScreen p → n < 16 → m < n → line_at (line_deleted p n) m ≡ line_at p m
unfolding line_at line_deleted
delete_before p n m h l r =
    part_before p (drop (line_start n + 64) p ++ blank_line) (line_start m) (line_start n) 64 (omega arith) (omega arith)

pub delete_behind : (p : List ℕ) (n m : ℕ) → IsScreen p → n ≤ m → m < 15 → line_at (line_deleted p n) m ≡ line_at p (m + 1)
unfolding line_at line_deleted
delete_behind p n m h l r =
    let next : line_start m + 64 ≡ line_start (m + 1) = omega arith
    in deleted_after p blank_line (line_start m) (line_start n) 64 (omega arith) (omega arith) ∙ ap (λ (a : ℕ). take 64 (drop a p)) next

pub delete_last : (p : List ℕ) (n : ℕ) → IsScreen p → line_at (line_deleted p n) 15 ≡ blank_line
unfolding line_at line_deleted
delete_last p n h = deleted_last p blank_line 960 (line_start n) 64 (omega arith) (omega arith) size_blank

pub wiped_line : (n : ℕ) → line_at blank_screen n ≡ blank_line
unfolding line_at blank_screen blank_line
wiped_line n =
    ap (take 64) (drop-replicate (line_start n) 1024 32) ∙ take-replicate 64 (1024 - line_start n) 32 (omega arith)

pub size_put : (p text : List ℕ) (n : ℕ) → IsScreen p → IsLine text → IsScreen (with_line p n text)
unfolding with_line
size_put p text n h k = grind (arith, length-append, length-take-le, length-drop)

pub size_inserted : (p text : List ℕ) (n : ℕ) → IsScreen p → IsLine text → IsScreen (line_inserted p n text)
unfolding line_inserted
size_inserted p text n h k = grind (arith, length-take-le, length-drop, length-append)

pub size_deleted : (p : List ℕ) (n : ℕ) → IsScreen p → IsScreen (line_deleted p n)
unfolding line_deleted
size_deleted p n h = grind (arith, length-append, length-take-le, length-drop, size_blank)

on_past : (n : ℕ) → line_start (n + 16) ≡ line_start n
on_past n = omega arith

pub line_on : (p : List ℕ) (n : ℕ) → line_at p (n + 16) ≡ line_at p n
unfolding line_at
line_on p n = ap (λ (a : ℕ). take 64 (drop a p)) (on_past n)

pub put_on : (p text : List ℕ) (n : ℕ) → with_line p (n + 16) text ≡ with_line p n text
unfolding with_line
put_on p text n = ap (λ (a : ℕ). take a p ++ (text ++ drop (a + 64) p)) (on_past n)

pub insert_on : (p text : List ℕ) (n : ℕ) → line_inserted p (n + 16) text ≡ line_inserted p n text
unfolding line_inserted
insert_on p text n = ap (λ (a : ℕ). take a p ++ (text ++ take (length p - a - 64) (drop a p))) (on_past n)

pub delete_on : (p : List ℕ) (n : ℕ) → line_deleted p (n + 16) ≡ line_deleted p n
unfolding line_deleted
delete_on p n = ap (λ (a : ℕ). take a p ++ (drop (a + 64) p ++ blank_line)) (on_past n)

byte_in_line : (p : List ℕ) (k : ℕ) → k < 1024 → get_or p k 0 ≡ get_or (line_at p (k / 64)) (k % 64) 0
unfolding line_at
byte_in_line p k h =
    sym (get_or-take 64 (drop (line_start (k / 64)) p) (k % 64) 0 (omega arith) ∙ get_or-drop (line_start (k / 64)) p (k % 64) 0 ∙ ap (λ (i : ℕ). get_or p i 0) (omega arith))

-- a screen is its lines
pub same_lines : (p q : List ℕ) → IsScreen p → IsScreen q → ((n : ℕ) → n < 16 → line_at p n ≡ line_at q n) → p ≡ q
same_lines p q h k same = grind (arith, same_number_lists, byte_in_line)
