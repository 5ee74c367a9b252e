use Rattle.std.proofs.Common.{◌≡◌, ◌∙◌, ℕ, suc, ◌+◌, ◌-◌, ◌<◌, ◌≤◌, List, [], ◌∷◌, ◌++◌, length, subst, Option, Some, None, Result, Ok, Err, append_assoc, append-nil, inl, inr, arith, refl, ap, sym}
use Rattle.block_buffers.specs.Calls.{KeepsBlocks, read_call}
use Rattle.block_buffers.specs.DeviceCalls.{DeviceCall, WasRead}
use Rattle.block_buffers.specs.Disks.{Disk, called}
use Rattle.block_buffers.specs.Likeness.{DidAs}
use Rattle.block_buffers.specs.ReadPages.{AreReadFrom, reads_of}
use Rattle.block_buffers.proofs.Likeness.{both_of, none_made, read_told}
use Rattle.block_buffers.proofs.ReadPages.{reads_snoc}
use Rattle.block_buffers.specs.declared.devices.DeviceFault.{DeviceFault}
use Rattle.std.proofs.lemmas.List.{length-append}
use Rattle.screen_text.specs.Screens.{screen_text}
use Rattle.device_text.specs.declared.pages.PageCause.TheVariants.{Device}
use Rattle.device_text.specs.declared.pages.Unprinted.{Unprinted}
use Rattle.device_text.specs.Pages.{IsTextOfRead, IsWhy, joined, page, pages, printed}

-- where the first k screens of a disk are read, and come to this text
pub record Underway (d : Disk) (from count k : ℕ) (text : List ℕ) (disk : Option Disk) : Type 0 where
  pub now : Disk
  pub told : disk ≡ Some now
  pub same : pages d from count ≡ joined (Ok text) (pages now (from + k) (count - k))

some_injective : {A : Type 0} {x y : A} → Some x ≡ Some y → x ≡ y
some_injective e = cc

-- one call after another keeps the blocks that each of them keeps
pub keeps_more : (a b c : Option Disk) → KeepsBlocks a b → KeepsBlocks b c → KeepsBlocks a c
keeps_more None b c h k = tt
keeps_more (Some d) None c h k = absurd h
keeps_more (Some d) (Some e) None h k = absurd k
keeps_more (Some d) (Some e) (Some f) h k = k ∙ h

joined-none : (r : Result (List ℕ) Unprinted) → r ≡ joined (Ok []) r
joined-none (Ok text) = refl
joined-none (Err why) = refl

pub begun : (d : Disk) (from count : ℕ) (text : List ℕ) (disk : Option Disk) → text ≡ [] → disk ≡ Some d → Underway d from count 0 text disk
begun d from count text disk e told =
    let a : from + 0 ≡ from = omega arith in
    let b : count - 0 ≡ count = omega arith in
    record { now = d; told = told; same = joined-none (pages d from count) ∙ rw (e, a, b) refl }

joined-assoc : (xs ys : List ℕ) (r : Result (List ℕ) Unprinted) → joined (Ok xs) (joined (Ok ys) r) ≡ joined (Ok (xs ++ ys)) r
joined-assoc xs ys (Ok zs) = ap Ok (sym (append_assoc xs ys zs))
joined-assoc xs ys (Err why) = refl

next-page : (d : Disk) (screen n : ℕ) (text : List ℕ) → page d screen ≡ Ok text → pages d screen (suc n) ≡ joined (Ok text) (pages (called d) (screen + 1) n)
unfolding pages
next-page d screen n text e = ap (λ r. joined r (pages (called d) (screen + 1) n)) e

last-page : (d : Disk) (screen n : ℕ) (why : Unprinted) → page d screen ≡ Err why → pages d screen (suc n) ≡ Err why
unfolding pages
last-page d screen n why e = ap (λ r. joined r (pages (called d) (screen + 1) n)) e

-- one page more, and the end
pub one_more : (d : Disk) (from count k : ℕ) (text page_bytes new : List ℕ) (disk disk' : Option Disk) → Underway d from count k text disk → k < count → ((e : Disk) → disk ≡ Some e → page e (from + k) ≡ Ok page_bytes) →
    ((e : Disk) → disk ≡ Some e → disk' ≡ Some (called e)) → new ≡ text ++ page_bytes → Underway d from count (k + 1) new disk'
one_more d from count k text page_bytes new disk disk' h below read call added =
    let more : count - k ≡ suc (count - (k + 1)) = omega arith in
    let place : from + k + 1 ≡ from + (k + 1) = omega arith in
    record {
      now = called h.now;
      told = call h.now h.told;
      same = h.same ∙ ap (λ n. joined (Ok text) (pages h.now (from + k) n)) more ∙ ap (joined (Ok text)) (next-page h.now (from + k) (count - (k + 1)) page_bytes (read h.now h.told)) ∙ joined-assoc text page_bytes (pages (called h.now) (from + k + 1) (count - (k + 1)))
          ∙ ap (λ p. joined (Ok (text ++ page_bytes)) (pages (called h.now) p (count - (k + 1)))) place ∙ ap (λ t. joined (Ok t) (pages (called h.now) (from + (k + 1)) (count - (k + 1)))) (sym added);
    }

stops-by : (d : Disk) (from count k : ℕ) (text : List ℕ) (disk : Option Disk) (why : Unprinted) (h : Underway d from count k text disk) → k < count → IsWhy (page h.now (from + k)) why → IsWhy (pages d from count) why
stops-by d from count k text disk why h below (inl e) =
    let more : count - k ≡ suc (count - (k + 1)) = omega arith in
    inl (h.same ∙ ap (λ n. joined (Ok text) (pages h.now (from + k) n)) more ∙ ap (joined (Ok text)) (last-page h.now (from + k) (count - (k + 1)) why e))
stops-by d from count k text disk why h below (inr wanting) = inr wanting

pub one_stops : (d : Disk) (from count k : ℕ) (text : List ℕ) (disk : Option Disk) (why : Unprinted) → Underway d from count k text disk → k < count → ((e : Disk) → disk ≡ Some e → IsWhy (page e (from + k)) why) → IsWhy (pages d from count) why
one_stops d from count k text disk why h below refused = stops-by d from count k text disk why h below (refused h.now h.told)

pub all_read : (d : Disk) (from count k : ℕ) (text : List ℕ) (disk : Option Disk) → Underway d from count k text disk → count ≤ k → pages d from count ≡ Ok text
unfolding pages
all_read d from count k text disk h end =
    let none : count - k ≡ 0 = omega arith in
    h.same ∙ ap (λ n. joined (Ok text) (pages h.now (from + k) n)) none ∙ ap Ok (append-nil text)

-- what a call for a screen says of its page
pub read_fails : (d e : Disk) (count screen : ℕ) (bytes : List ℕ) (f : DeviceFault) (a b : List DeviceCall) → b ≡ a ++ read_call screen bytes (Err f) ∷ [] → DidAs d e count a b →
    page d screen ≡ Err (record { screen = screen; line = 0; cause = Device })
unfolding page
read_fails d e count screen bytes f a b q h = let r = read_told d e count screen bytes (Err f) a b q h in rw r.0 refl

pub read_gives : (d e : Disk) (count screen : ℕ) (bytes : List ℕ) (u : Unit {0}) (a b : List DeviceCall) → b ≡ a ++ read_call screen bytes (Ok u) ∷ [] → DidAs d e count a b → page d screen ≡ Ok (screen_text screen bytes)
unfolding page
read_gives d e count screen bytes u a b q h = let r = read_told d e count screen bytes (Ok u) a b q h in rw r.0 (ap (λ b. Ok (screen_text screen b)) (sym r.2))

pub read_leaves : (d e : Disk) (count screen : ℕ) (bytes : List ℕ) (r : Result Unit DeviceFault) (a b : List DeviceCall) → b ≡ a ++ read_call screen bytes r ∷ [] → DidAs d e count a b → e ≡ called d
read_leaves d e count screen bytes (Ok u) a b q h = let r = read_told d e count screen bytes (Ok u) a b q h in some_injective r.1
read_leaves d e count screen bytes (Err f) a b q h = let r = read_told d e count screen bytes (Err f) a b q h in some_injective r.1

-- the same, by what a device did before the screen, and in its read
pub one_more_read : (d e : Disk) (from n count count' k : ℕ) (text page_bytes new : List ℕ) (a b c made : List DeviceCall) → count' ≡ count → AreReadFrom from k count a b → c ≡ b ++ made
    → ((d m : Disk) → DidAs d m count a b → Underway d from n k text (Some m)) → k < n
    → ((d m : Disk) → DidAs d m count' b c → page d (from + k) ≡ Ok page_bytes) → ((d m : Disk) → DidAs d m count' b c → m ≡ called d)
    → new ≡ text ++ page_bytes → DidAs d e count a c → Underway d from n (k + 1) new (Some e)
one_more_read d e from n count count' k text page_bytes new a b c made q read more before below gives leaves added did =
    let both = both_of d e count a b c (reads_of from read.pages) made read.read more did in
    let second = subst (λ m. DidAs both.mid e m b c) (sym q) both.second in
    let is_mid : (x : Disk) → Some both.mid ≡ Some x → both.mid ≡ x = λ x s. some_injective s in
    one_more d from n k text page_bytes new (Some both.mid) (Some e) (before d both.mid both.first) below
    (λ x s. subst (λ y. page y (from + k) ≡ Ok page_bytes) (is_mid x s) (gives both.mid e second))
    (λ x s. ap Some (leaves both.mid e second ∙ ap called (is_mid x s))) added

pub one_stops_read : (d e : Disk) (from n count count' k : ℕ) (text : List ℕ) (why : Unprinted) (a b c made : List DeviceCall) → count' ≡ count → AreReadFrom from k count a b → c ≡ b ++ made
    → ((d m : Disk) → DidAs d m count a b → Underway d from n k text (Some m)) → k < n
    → ((d m : Disk) → DidAs d m count' b c → IsWhy (page d (from + k)) why) → DidAs d e count a c → IsWhy (pages d from n) why
one_stops_read d e from n count count' k text why a b c made q read more before below refused did =
    let both = both_of d e count a b c (reads_of from read.pages) made read.read more did in
    let second = subst (λ m. DidAs both.mid e m b c) (sym q) both.second in
    one_stops d from n k text (Some both.mid) why (before d both.mid both.first) below
    (λ x s. subst (λ y. IsWhy (page y (from + k)) why) (some_injective s) (refused both.mid e second))

pub begun_read : (d e : Disk) (count from n : ℕ) (text : List ℕ) (calls : List DeviceCall) → text ≡ [] → DidAs d e count calls calls → Underway d from n 0 text (Some e)
begun_read d e count from n text calls none did = begun d from n text (Some e) none (ap Some (none_made d e count calls did))

pub keeps_all : (a : Option Disk) → KeepsBlocks a a
keeps_all None = tt
keeps_all (Some d) = refl

-- the text of the pages that were read
pub none_printed : (from count : ℕ) (text : List ℕ) (calls : List DeviceCall) → text ≡ [] → IsTextOfRead from 0 count text calls calls
unfolding printed reads_of
none_printed from count text calls e = record { are = record { pages = []; all = refl; there = λ h. absurd (omega arith); read = sym (append-nil calls) }; is = e }

printed_snoc : (from : ℕ) (read : List (List ℕ)) (bytes : List ℕ) → printed from (read ++ bytes ∷ []) ≡ printed from read ++ screen_text (from + length read) bytes
unfolding printed
printed_snoc from [] bytes = let e : from ≡ from + 0 = omega arith in append-nil (screen_text from bytes) ∙ ap (λ n. screen_text n bytes) e
printed_snoc from (p ∷ read) bytes =
    let e : from + 1 + length read ≡ from + length (p ∷ read) = omega arith in
    ap (λ t. screen_text from p ++ t) (printed_snoc (from + 1) read bytes ∙ ap (λ n. printed (from + 1) read ++ screen_text n bytes) e)
    ∙ sym (append_assoc (screen_text from p) (printed (from + 1) read) (screen_text (from + length (p ∷ read)) bytes))

pub one_printed : (from k count count' : ℕ) (text page_bytes new : List ℕ) (a b c : List DeviceCall) → count' ≡ count → IsTextOfRead from k count text a b
    → (bytes : List ℕ) × (c ≡ b ++ WasRead (from + k) bytes ∷ []) × (from + k < count') × (page_bytes ≡ screen_text (from + k) bytes) → new ≡ text ++ page_bytes → IsTextOfRead from (k + 1) count new a c
one_printed from k count count' text page_bytes new a b c q h x added =
    let pages = h.are.pages in
    let at : from + length pages ≡ from + k = ap (λ n. from + n) h.are.all in
    record {
      are = record {
        pages = pages ++ x.0 ∷ [];
        all = length-append pages (x.0 ∷ []) ∙ omega (arith, h.are.all);
        there = λ z. omega (arith, x.2, q);
        read = x.1 ∙ ap (λ v. v ++ WasRead (from + k) x.0 ∷ []) h.are.read ∙ append_assoc a (reads_of from pages) (WasRead (from + k) x.0 ∷ [])
            ∙ ap (λ m. a ++ (reads_of from pages ++ WasRead m x.0 ∷ [])) (sym at) ∙ ap (λ v. a ++ v) (sym (reads_snoc from pages x.0));
      };
      is = added ∙ ap (λ t. t ++ page_bytes) h.is ∙ ap (λ t. printed from pages ++ t) (x.3 ∙ ap (λ m. screen_text m x.0) (sym at)) ∙ sym (printed_snoc from pages x.0);
    }

pub as_many_printed : (from n m count : ℕ) (text : List ℕ) (a b : List DeviceCall) → n ≡ m → IsTextOfRead from n count text a b → IsTextOfRead from m count text a b
as_many_printed from n m count text a b e h = subst (λ k. IsTextOfRead from k count text a b) e h
