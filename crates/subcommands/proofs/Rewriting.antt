-- A text of screens, written back.
use Rattle.std.proofs.Common.{◌≡◌, ◌∙◌, ℕ, zero, suc, ◌+◌, ◌-◌, ◌*◌, ◌<◌, ◌≤◌, List, [], ◌∷◌, ◌++◌, length, take, drop, fold, Result, Ok, Err, append_assoc, append-nil, length-append, arith, refl, ap, sym, subst}
use Rattle.std.specs.Prelude.{All}
use Rattle.std.proofs.Math.Seq.{drop-append_seam, drop-append-add, take-append_seam, take-append-add}
use Rattle.std.proofs.lemmas.List.Elements.{All-head, All-tail}
use Rattle.block_buffers.specs.Disks.{Disk, block_at, called}
use Rattle.device_text.specs.Pages.{AreBlocks, IsBlock, pages, screens_at}
use Rattle.device_text.proofs.Screens.{last_there, rest_read, text_so, writable_so}
use Rattle.screen_text.specs.Bytes.{blanks, padded}
use Rattle.screen_text.specs.Blocks.{with_screen, with_screens}
use Rattle.screen_text.specs.Reading.{State, IsRead, read}
use Rattle.screen_text.specs.Screens.{Screen, IsWritable, AreWritable, bytes_of, numbers_of, screens_of, text_of}
use Rattle.screen_text.specs.declared.cause.TextFault.{TextFault}
use Rattle.screen_text.proofs.Kept.{reread}
use Rattle.subcommands.specs.Texts.{HasScreens, file_of}

-- screens are those of their numbers and bytes
again : (screens : List Screen) → All IsWritable screens → screens_of (numbers_of screens) (bytes_of screens) ≡ screens
unfolding screens_of numbers_of bytes_of
again [] each = refl
again (s ∷ screens) each =
    let size : length s.bytes ≡ 1024 = (All-head IsWritable s screens each).size in
    let first : take 1024 (s.bytes ++ bytes_of screens) ≡ s.bytes = ap (λ n. take n (s.bytes ++ bytes_of screens)) (sym size) ∙ take-append_seam s.bytes (bytes_of screens) in
    let rest : drop 1024 (s.bytes ++ bytes_of screens) ≡ bytes_of screens = ap (λ n. drop n (s.bytes ++ bytes_of screens)) (sym size) ∙ drop-append_seam s.bytes (bytes_of screens) in
    ap (λ bs. record { number = s.number; bytes = bs } ∷ screens_of (numbers_of screens) (drop 1024 (s.bytes ++ bytes_of screens))) first
    ∙ ap (λ bs. s ∷ screens_of (numbers_of screens) bs) rest
    ∙ ap (λ ss. s ∷ ss) (again screens (All-tail IsWritable s screens each))

reads_so : (r : Result State TextFault) (screens : List Screen) (file : List ℕ) → All IsWritable screens → IsRead r (numbers_of screens) (bytes_of screens) → HasScreens r file (with_screens file screens)
reads_so (Ok s) screens file each h =
    ap (with_screens file) (sym (again screens each)) ∙ ap (λ ns. with_screens file (screens_of ns (bytes_of screens))) h.0
    ∙ ap (λ bs. with_screens file (screens_of s.numbers bs)) h.1
reads_so (Err fault) screens file each h = absurd h

pub written_so : (d : Disk) (from n : ℕ) (text file : List ℕ) → AreBlocks d.blocks → from + n ≤ 65536 → pages d from n ≡ Ok text → HasScreens (read text) file (with_screens file (screens_at d.blocks from n))
written_so d from n text file sized few e =
    let fits : AreWritable (screens_at d.blocks from n) = writable_so n d from text sized few e in
    subst (λ t. HasScreens (read t) file (with_screens file (screens_at d.blocks from n))) (sym (text_so n d from text e))
    (reads_so (read (text_of (screens_at d.blocks from n))) (screens_at d.blocks from n) file fits.each (reread (screens_at d.blocks from n) fits))

length_file : (blocks : List (List ℕ)) → AreBlocks blocks → length (file_of blocks) ≡ 1024 * length blocks
unfolding file_of
length_file [] sized = refl
length_file (b ∷ blocks) sized =
    let first : length b ≡ 1024 = (All-head IsBlock b blocks sized).size in
    omega (arith, length-append b (file_of blocks), length_file blocks (All-tail IsBlock b blocks sized))

-- a file is what is before a block, the block, and what comes after it
split : (blocks : List (List ℕ)) (k : ℕ) → AreBlocks blocks → k < length blocks
    → take (1024 * k) (file_of blocks) ++ (block_at blocks k ++ drop (1024 * (k + 1)) (file_of blocks)) ≡ file_of blocks
unfolding file_of
split [] k sized there = absurd (omega arith)
split (b ∷ blocks) zero sized there =
    let size : length b ≡ 1024 = (All-head IsBlock b blocks sized).size in
    let one : 1024 * (0 + 1) ≡ length b = omega arith in
    ap (λ n. b ++ drop n (b ++ file_of blocks)) one ∙ ap (λ bs. b ++ bs) (drop-append_seam b (file_of blocks))
split (b ∷ blocks) (suc j) sized there =
    let size : length b ≡ 1024 = (All-head IsBlock b blocks sized).size in
    let before : 1024 * suc j ≡ length b + 1024 * j = omega arith in
    let behind : 1024 * (suc j + 1) ≡ length b + 1024 * (j + 1) = omega arith in
    let front : take (1024 * suc j) (b ++ file_of blocks) ≡ b ++ take (1024 * j) (file_of blocks) =
    ap (λ n. take n (b ++ file_of blocks)) before ∙ take-append-add b (file_of blocks) (1024 * j) in
    let back : drop (1024 * (suc j + 1)) (b ++ file_of blocks) ≡ drop (1024 * (j + 1)) (file_of blocks) =
    ap (λ n. drop n (b ++ file_of blocks)) behind ∙ drop-append-add b (file_of blocks) (1024 * (j + 1)) in
    ap (λ f. f ++ (block_at blocks j ++ drop (1024 * (suc j + 1)) (b ++ file_of blocks))) front
    ∙ ap (λ r. (b ++ take (1024 * j) (file_of blocks)) ++ (block_at blocks j ++ r)) back
    ∙ append_assoc b (take (1024 * j) (file_of blocks)) (block_at blocks j ++ drop (1024 * (j + 1)) (file_of blocks))
    ∙ ap (λ f. b ++ f) (split blocks j (All-tail IsBlock b blocks sized) (omega arith))

-- a screen of a file, written into it
put_same : (blocks : List (List ℕ)) (k : ℕ) → AreBlocks blocks → k < length blocks → with_screen (file_of blocks) (record { number = k; bytes = block_at blocks k }) ≡ file_of blocks
unfolding with_screen padded blanks
put_same blocks k sized there =
    let size = length_file blocks sized in
    let none : 1024 * (k + 1) - length (file_of blocks) ≡ 0 = omega arith in
    let grown : padded (1024 * (k + 1)) (file_of blocks) ≡ file_of blocks = ap (λ n. file_of blocks ++ blanks n) none ∙ append-nil (file_of blocks) in
    ap (λ f. take (1024 * k) f ++ (block_at blocks k ++ drop (1024 * (k + 1)) f)) grown ∙ split blocks k sized there

put_all : (n : ℕ) (d : Disk) (from : ℕ) (text : List ℕ) → AreBlocks d.blocks → pages d from n ≡ Ok text → with_screens (file_of d.blocks) (screens_at d.blocks from n) ≡ file_of d.blocks
unfolding with_screens screens_at
put_all zero d from text sized e = refl
put_all (suc n) d from text sized e =
    let more = rest_read n d from text e in
    ap (λ f. fold with_screen f (screens_at d.blocks (from + 1) n)) (put_same d.blocks from sized (last_there n d from text e))
    ∙ put_all n (called d) (from + 1) more.0 sized more.1

pub same_so : (d : Disk) (from n : ℕ) (text : List ℕ) → AreBlocks d.blocks → from + n ≤ 65536 → pages d from n ≡ Ok text → HasScreens (read text) (file_of d.blocks) (file_of d.blocks)
same_so d from n text sized few e =
    subst (λ f. HasScreens (read text) (file_of d.blocks) f) (put_all n d from text sized e) (written_so d from n text (file_of d.blocks) sized few e)
