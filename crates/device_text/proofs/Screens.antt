-- What is printed is the text of the screens.
use Rattle.std.proofs.Common.{◌≡◌, ◌∙◌, ℕ, zero, suc, ◌+◌, ◌<◌, ◌≤◌, List, [], ◌++◌, length, Bool, true, false, nat_lt, not, ◌&&◌, Result, Ok, Err, arith, refl, ap, if◌then◌else◌}
use Rattle.std.specs.Prelude.{All, eqb}
use Rattle.std.specs.List.{AllByRecursion, IsDistinct}
use Rattle.std.proofs.lemmas.List.Elements.{All-nil, All-cons}
use Rattle.block_buffers.specs.Disks.{Disk, block_at, called, next_fails, succeeds}
use Rattle.screen_text.specs.Screens.{IsWritable, AreWritable, numbers_of, screen_text, text_of}
use Rattle.device_text.specs.declared.pages.PageCause.TheVariants.{Device}
use Rattle.device_text.specs.declared.pages.Unprinted.{Unprinted}
use Rattle.device_text.specs.Pages.{AreBlocks, joined, page, pages, screens_at}

-- a text of two parts
record Parts (p r : Result (List ℕ) Unprinted) (text : List ℕ) : Type 0 where
  first : List ℕ
  rest : List ℕ
  first_is : p ≡ Ok first
  rest_is : r ≡ Ok rest
  is : text ≡ first ++ rest

parts : (p r : Result (List ℕ) Unprinted) (text : List ℕ) → joined p r ≡ Ok text → Parts p r text
parts (Err why) r text e = cc
parts (Ok a) (Err why) text e = cc
parts (Ok a) (Ok b) text e = record { first = a; rest = b; first_is = refl; rest_is = refl; is = cc }

-- a screen whose text there is
record IsPrinted (d : Disk) (screen : ℕ) (text : List ℕ) : Type 0 where
  there : screen < length d.blocks
  is : text ≡ screen_text screen (block_at d.blocks screen)

printed : (d : Disk) (screen : ℕ) (text : List ℕ) → page d screen ≡ Ok text → IsPrinted d screen text
unfolding page
printed d screen text e = by_call (succeeds d screen) refl e where
  missing : Unprinted
  missing = record { screen = screen; line = 0; cause = Device }

  by_call : (b : Bool) → succeeds d screen ≡ b
      → (if b then Ok (screen_text screen (block_at d.blocks screen)) else Err missing) ≡ Ok text → IsPrinted d screen text
  by_call true q h =
      let test : (nat_lt screen (length d.blocks) && not (next_fails d.coming)) ≡ true = q in
      record { there = grind arith; is = cc }
  by_call false q h = cc

pub text_so : (n : ℕ) (d : Disk) (screen : ℕ) (text : List ℕ) → pages d screen n ≡ Ok text → text ≡ text_of (screens_at d.blocks screen n)
unfolding pages screens_at text_of
text_so zero d screen text e = cc
text_so (suc n) d screen text e =
    let p = parts (page d screen) (pages (called d) (screen + 1) n) text e in
    p.is ∙ ap (λ t. t ++ p.rest) (printed d screen p.first p.first_is).is
    ∙ ap (λ t. screen_text screen (block_at d.blocks screen) ++ t) (text_so n (called d) (screen + 1) p.rest p.rest_is)

each_writable : (n : ℕ) (d : Disk) (screen : ℕ) (text : List ℕ) → AreBlocks d.blocks → screen + n ≤ 65536 → pages d screen n ≡ Ok text → All IsWritable (screens_at d.blocks screen n)
unfolding pages screens_at
each_writable zero d screen text sized few e = All-nil IsWritable
each_writable (suc n) d screen text sized few e =
    let p = parts (page d screen) (pages (called d) (screen + 1) n) text e in
    let here = printed d screen p.first p.first_is in
    All-cons IsWritable (record { number = screen; bytes = block_at d.blocks screen }) (screens_at d.blocks (screen + 1) n)
    (record { number = omega arith; size = (sized screen [] here.there).size; bytes = (sized screen [] here.there).bytes })
    (each_writable n (called d) (screen + 1) p.rest sized (omega arith) p.rest_is)

-- all numbers from one on are above those before it
above : (n : ℕ) (blocks : List (List ℕ)) (x screen : ℕ) → x < screen → AllByRecursion (λ y. eqb x y ≡ false) (numbers_of (screens_at blocks screen n))
unfolding numbers_of screens_at
above zero blocks x screen less = tt
above (suc n) blocks x screen less = (grind arith, above n blocks x (screen + 1) (omega arith))

distinct : (n : ℕ) (blocks : List (List ℕ)) (screen : ℕ) → IsDistinct eqb (numbers_of (screens_at blocks screen n))
unfolding numbers_of screens_at IsDistinct
distinct zero blocks screen = tt
distinct (suc n) blocks screen = (above n blocks screen (screen + 1) (omega arith), distinct n blocks (screen + 1))

pub writable_so : (n : ℕ) (d : Disk) (screen : ℕ) (text : List ℕ) → AreBlocks d.blocks → screen + n ≤ 65536 → pages d screen n ≡ Ok text → AreWritable (screens_at d.blocks screen n)
writable_so n d screen text sized few e = record { each = each_writable n d screen text sized few e; distinct = distinct n d.blocks screen }

-- a printed screen is one of the device's
pub last_there : (n : ℕ) (d : Disk) (screen : ℕ) (text : List ℕ) → pages d screen (suc n) ≡ Ok text → screen < length d.blocks
unfolding pages
last_there n d screen text e = (printed d screen _ (parts (page d screen) (pages (called d) (screen + 1) n) text e).first_is).there

pub rest_read : (n : ℕ) (d : Disk) (screen : ℕ) (text : List ℕ) → pages d screen (suc n) ≡ Ok text → (rest : List ℕ) × (pages (called d) (screen + 1) n ≡ Ok rest)
unfolding pages
rest_read n d screen text e = let p = parts (page d screen) (pages (called d) (screen + 1) n) text e in (p.rest, p.rest_is)
