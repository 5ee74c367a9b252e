-- Blocks that were read one after another, and a disk of their pages: a device that was asked for nothing else did as that disk.
use Rattle.std.proofs.Common.{◌≡◌, ℕ, suc, ◌+◌, ◌-◌, ◌<◌, ◌≤◌, ◌∙◌, List, [], ◌∷◌, ◌++◌, length, take, drop, replicate, arith, refl, sym, ap, subst, append-nil, append_assoc}
use Rattle.std.proofs.Math.Seq.{drop-append_seam, take-append_seam}
use Rattle.std.proofs.lemmas.Bool.{lt-ltb}
use Rattle.std.proofs.lemmas.List.{drop-drop, get_or-drop, length-append, length-drop, length-replicate}
use Rattle.block_buffers.specs.DeviceCalls.{DeviceCall, WasRead}
use Rattle.block_buffers.specs.Disks.{Disk, block_at}
use Rattle.block_buffers.specs.Likeness.{AllCameTo, DidAs}
use Rattle.block_buffers.specs.ReadPages.{AreReadFrom, reads_of}
use Rattle.std.proofs.lemmas.Grind.{common_steps}

pub reads_snoc : (from : ℕ) (pages : List (List ℕ)) (page : List ℕ) → reads_of from (pages ++ page ∷ []) ≡ reads_of from pages ++ WasRead (from + length pages) page ∷ []
unfolding reads_of
reads_snoc from [] page = let e : from ≡ from + 0 = omega arith in ap (λ n. WasRead n page ∷ []) e
reads_snoc from (p ∷ pages) page = grind (arith, reads_snoc (from + 1) pages page)

pub none_read : (from count : ℕ) (calls : List DeviceCall) → AreReadFrom from (from - from) count calls calls
unfolding reads_of
none_read from count calls = record { pages = []; all = omega arith; there = λ h. absurd (omega arith); read = sym (append-nil calls) }

pub one_read : (from s count count' : ℕ) (a b c : List DeviceCall) → from ≤ s → count' ≡ count → AreReadFrom from (s - from) count a b → (page : List ℕ) × (c ≡ b ++ WasRead s page ∷ []) × (s < count') → AreReadFrom from (s + 1 - from) count a c
one_read from s count count' a b c l q h k =
    let at : from + length h.pages ≡ s = omega (arith, h.all) in
    record {
      pages = h.pages ++ k.0 ∷ [];
      all = length-append h.pages (k.0 ∷ []) ∙ omega (arith, h.all);
      there = λ z. omega (arith, k.2, q);
      read = k.1 ∙ ap (λ v. v ++ WasRead s k.0 ∷ []) h.read ∙ append_assoc a (reads_of from h.pages) (WasRead s k.0 ∷ [])
          ∙ ap (λ n. a ++ (reads_of from h.pages ++ WasRead n k.0 ∷ [])) (sym at) ∙ ap (λ v. a ++ v) (sym (reads_snoc from h.pages k.0));
    }

pub as_many : (from n m count : ℕ) (a b : List DeviceCall) → n ≡ m → AreReadFrom from n count a b → AreReadFrom from m count a b
as_many from n m count a b e h = subst (λ k. AreReadFrom from k count a b) e h

-- blocks of which no call fails
abbrev pub sound : List (List ℕ) → Disk
sound blocks = record { blocks = blocks; coming = [] }

there : (blocks : List (List ℕ)) (from : ℕ) (page : List ℕ) (rest : List (List ℕ)) → drop from blocks ≡ page ∷ rest → from < length blocks
there blocks from page rest e = let size : length (drop from blocks) ≡ suc (length rest) = ap length e in omega (arith, size, length-drop from blocks)

found : (blocks : List (List ℕ)) (from : ℕ) (page : List ℕ) (rest : List (List ℕ)) → drop from blocks ≡ page ∷ rest → page ≡ block_at blocks from
found blocks from page rest e = grind (arith, common_steps, get_or-drop)

next : (blocks : List (List ℕ)) (from : ℕ) (page : List ℕ) (rest : List (List ℕ)) → drop from blocks ≡ page ∷ rest → drop (from + 1) blocks ≡ rest
next blocks from page rest e = sym (drop-drop 1 from blocks) ∙ ap (drop 1) e

-- if the pages are the blocks from a number on, reading them comes to what it comes to there
all_came : (blocks : List (List ℕ)) (pages rest : List (List ℕ)) (from : ℕ) → drop from blocks ≡ pages ++ rest → AllCameTo (sound blocks) (reads_of from pages) (sound blocks)
unfolding AllCameTo reads_of
all_came blocks [] rest from e = refl
all_came blocks (page ∷ pages) rest from e =
    grind (arith, lt-ltb, there, found, next, all_came blocks pages rest (from + 1) (next blocks from page (pages ++ rest) e))

-- a disk of so many blocks with these pages from a number on
pub blocks_with : (count from : ℕ) → (pages : List (List ℕ)) → List (List ℕ)
blocks_with count from [] = replicate count []
blocks_with count from (page ∷ pages) = replicate from [] ++ ((page ∷ pages) ++ replicate (count - (from + length (page ∷ pages))) [])

pages_at : (from : ℕ) (pages rest : List (List ℕ)) → drop from (replicate from [] ++ (pages ++ rest)) ≡ pages ++ rest
pages_at from pages rest = grind (arith, common_steps, length-replicate, drop-append_seam)

pub did_as : (count from n : ℕ) (pages : List (List ℕ)) (calls calls' : List DeviceCall) → length pages ≡ n → (0 < n → from + n ≤ count) → calls' ≡ calls ++ reads_of from pages
    → DidAs (sound (blocks_with count from pages)) (sound (blocks_with count from pages)) count calls calls'
unfolding AllCameTo reads_of blocks_with
did_as count from n [] calls calls' all fits read = record { count_is = sym (length-replicate count []); made = []; calls_are = read; came = refl }
did_as count from n (page ∷ pages) calls calls' all fits read =
    let all_pages = page ∷ pages in
    let rest = replicate (count - (from + length all_pages)) [] in
    let none : List ℕ = [] in
    let size : length (replicate from [] ++ (all_pages ++ rest)) ≡ count =
    length-append (replicate from []) (all_pages ++ rest) ∙ omega (arith, length-replicate from none, length-append all_pages rest, length-replicate (count - (from + length all_pages)) none, all) in
    record { count_is = sym size; made = reads_of from all_pages; calls_are = read; came = all_came (replicate from [] ++ (all_pages ++ rest)) all_pages rest from (pages_at from all_pages rest) }

pub same_pages : (count from : ℕ) (pages : List (List ℕ)) → take (length pages) (drop from (blocks_with count from pages)) ≡ pages
unfolding blocks_with
same_pages count from pages = grind (arith, common_steps, pages_at, take-append_seam)
