-- Screens that can be read, one after another.
use Rattle.std.proofs.Common.{◌≡◌, ℕ, zero, suc, ◌+◌, ◌<◌, ◌≤◌, arith, refl}
use Rattle.std.specs.Prelude.{Bool, true, false, cond}
use Rattle.block_buffers.specs.Disks.{Disk, called, succeeds}
use Rattle.image_builder.specs.Sources.{after_reads, readable}

-- the first of them can be read, and then the others
first_of : (b : Bool) (m n : ℕ) → cond b (suc m) 0 ≡ suc n → (b ≡ true) × (m ≡ n)
first_of b m n e = grind arith

-- the next screen, by the disk after the first read
shifted : (n : ℕ) (d : Disk) (from : ℕ) (b : Bool) → succeeds (after_reads (suc n) d) (from + suc n) ≡ b → succeeds (after_reads n (called d)) ((from + 1) + n) ≡ b
shifted n d from b e = grind arith

pub readable_more : (n : ℕ) (d : Disk) (from : ℕ) → readable d from n ≡ n → succeeds (after_reads n d) (from + n) ≡ true → readable d from (suc n) ≡ suc n
unfolding readable
readable_more zero d from h e = grind (arith)
readable_more (suc n) d from h e =
    let f = first_of (succeeds d from) (readable (called d) (from + 1) n) n h in
    let r = readable_more n (called d) (from + 1) f.1 (shifted n d from true e) in
    rw (f.0, r) refl

-- the next one can't be read
pub readable_stops : (n m : ℕ) (d : Disk) (from : ℕ) → readable d from n ≡ n → succeeds (after_reads n d) (from + n) ≡ false → n < m → readable d from m ≡ n
unfolding readable
readable_stops n zero d from h e l = absurd (omega (arith, l))
readable_stops zero (suc m) d from h e l = grind (arith)
readable_stops (suc n) (suc m) d from h e l =
    let f = first_of (succeeds d from) (readable (called d) (from + 1) n) n h in
    let r = readable_stops n m (called d) (from + 1) f.1 (shifted n d from false e) (omega (arith, l)) in
    rw (f.0, r) refl

-- of more screens at least as many
pub readable_least : (n m : ℕ) (d : Disk) (from : ℕ) → n ≤ m → readable d from n ≡ n → n ≤ readable d from m
unfolding readable
readable_least (suc n) (suc m) d from l h =
    let f = first_of (succeeds d from) (readable (called d) (from + 1) n) n h in
    let r = readable_least n m (called d) (from + 1) (omega (arith, l)) f.1 in
    rw f.0 (omega (arith, r))
readable_least n m d from l h = grind (arith, first_of)
