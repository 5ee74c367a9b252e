-- Each list of bytes is a file, or the beginning of one, or one with bytes after it, or has a bad field.
use Rattle.std.proofs.Common.{◌≡◌, ◌<◌, ◌≤◌, ◌+◌, ℕ, suc, List, [], ◌∷◌, ◌++◌, length, take, drop, get_or, Ok, Err, refl, sym, ap, ◌∙◌, arith, subst, inl, inr}
use Rattle.std.proofs.lemmas.Bool.{cases_lt}
use Rattle.std.proofs.Math.Seq.{take-append_seam, drop-append_seam}
use Rattle.std.proofs.lemmas.List.{length-append, append_assoc, take-append-le, take_all}
use Rattle.byteorder.specs.Endian.{little_number}
use Rattle.image_loader.specs.Files.{Contents, IsFile, IsCutShort, IsFollowed, Opens, HasBadMagic, HasBadVersion, HasBadBuffers, HasBadSize, Agree, IsSize, field_at, tail}
use Rattle.image_loader.specs.declared.fault.ImageFault.{ImageFault}
use Rattle.image_loader.specs.declared.fault.ImageFault.TheVariants as fault
use Rattle.image_loader.specs.Checks.{opening_of, tail_of, read_of, and_then}
use Rattle.image_loader.proofs.Tails.{AreBytes, Tail, is_whole, is_cut, is_long, is_bad, tail_sort, whole_reads, followed_tail_reads, cut_tail_reads, bad_tail_reads}
use Rattle.image_loader.proofs.Openings.{Opening, ends_within, opens, opening_sort, opening_reads, opened_count, cut_opening_reads, front_is}
use Rattle.image_loader.proofs.Openings as o

pub data Kind (bytes : List ℕ) : Type 0 where
  is_file : (image : Contents) → IsFile bytes image → Kind bytes
  is_cut_short : IsCutShort bytes → Kind bytes
  is_followed : IsFollowed bytes → Kind bytes
  has_bad_magic : HasBadMagic bytes → Kind bytes
  has_bad_version : HasBadVersion bytes → Kind bytes
  has_bad_buffers : HasBadBuffers bytes → Kind bytes
  has_bad_size : HasBadSize bytes → Kind bytes

-- an opening, and what comes after it
get_or-behind : (xs ys : List ℕ) (i : ℕ) → get_or (xs ++ ys) (length xs + i) 0 ≡ get_or ys i 0
get_or-behind [] ys i = let e : 0 + i ≡ i = omega arith in rw e refl
get_or-behind (x ∷ xs) ys i = let e : suc (length xs) + i ≡ suc (length xs + i) = omega arith in rw e (get_or-behind xs ys i)

drop-behind : (xs ys : List ℕ) → drop (length xs + 2) (xs ++ ys) ≡ drop 2 ys
drop-behind [] ys = refl
drop-behind (x ∷ xs) ys = let e : suc (length xs) + 2 ≡ suc (length xs + 2) = omega arith in rw e (drop-behind xs ys)

field_behind : (start t : List ℕ) → field_at (length start + 2) (start ++ t) ≡ field_at 2 t
field_behind start t = ap (λ l. little_number 2 l) (drop-behind start t)

begins : (start t : List ℕ) → Agree (start ++ t) start
begins start t = take-append_seam start t ∙ sym (take_all (length (start ++ t)) start (omega (arith, length-append start t)))

agrees : (bytes start t r : List ℕ) → length start ≤ length bytes → bytes ++ r ≡ start ++ t → Agree bytes start
agrees bytes start t r long e =
    sym (take-append-le (length start) bytes r long) ∙ ap (take (length start)) e ∙ take-append_seam start t ∙ sym (take_all (length bytes) start long)

AreBytes-behind : (xs ys : List ℕ) → AreBytes (xs ++ ys) → AreBytes ys
AreBytes-behind xs ys h i = let e = get_or-behind xs ys i in subst (λ n. n < 256) e (h (length xs + i))

opened_sort : (start : List ℕ) (count : ℕ) (t : List ℕ) → Opens start count → Tail count t → Kind (start ++ t)
opened_sort start count t o (is_whole image b h e) = is_file image (record {
  start = start;
  opens = subst (λ n. Opens start n) (sym b) o;
  spelled = ap (λ r. start ++ r) e;
  is_image = h;
})
opened_sort start count t o (is_cut image x xs b h e) = is_cut_short (record {
  image = image;
  next = x;
  rest = xs;
  whole = record {
    start = start;
    opens = subst (λ n. Opens start n) (sym b) o;
    spelled = append_assoc start t (x ∷ xs) ∙ ap (λ r. start ++ r) e;
    is_image = h;
  };
})
opened_sort start count t o (is_long image x xs b h e) = is_followed (record {
  whole = start ++ tail image;
  image = image;
  next = x;
  rest = xs;
  is_file = record { start = start; opens = subst (λ n. Opens start n) (sym b) o; spelled = refl; is_image = h };
  spelled = ap (λ r. start ++ r) e ∙ sym (append_assoc start (tail image) (x ∷ xs));
})
opened_sort start count t o (is_bad long bad) = has_bad_size (record {
  start = start;
  buffers = count;
  opens = o;
  opening_fits = begins start t;
  size_stands = omega (arith, length-append start t, long);
  size_misfits = subst (λ n. ¬ IsSize count n) (sym (field_behind start t)) bad;
})

by_opening : (bytes : List ℕ) → AreBytes bytes → Opening bytes → Kind bytes
by_opening bytes fit (ends_within f) = is_cut_short f
by_opening bytes fit (o.bad_magic bad) = has_bad_magic bad
by_opening bytes fit (o.bad_version bad) = has_bad_version bad
by_opening bytes fit (o.bad_buffers bad) = has_bad_buffers bad
by_opening bytes fit (opens start count t h e) =
    let fit_t : AreBytes t = AreBytes-behind start t (subst (λ l. AreBytes l) e fit) in
    subst (λ l. Kind l) (sym e) (opened_sort start count t h (tail_sort count t (opened_count start count h) fit_t))

pub kind_of : (bytes : List ℕ) → AreBytes bytes → Kind bytes
kind_of bytes fit = by_opening bytes fit (opening_sort bytes)

-- what is read
behind_reads : (start : List ℕ) (count : ℕ) (t : List ℕ) → Opens start count → read_of (start ++ t) ≡ tail_of count t
behind_reads start count t h =
    ap (λ r. and_then r (λ found. tail_of found.0 (drop found.1 (start ++ t)))) (opening_reads start count t h)
    ∙ ap (tail_of count) (drop-append_seam start t)

pub file_reads : (bytes : List ℕ) (image : Contents) → IsFile bytes image → read_of bytes ≡ Ok image
file_reads bytes image f = ap read_of f.spelled ∙ behind_reads f.start image.buffers (tail image) f.opens ∙ whole_reads image f.is_image

pub followed_reads : (bytes : List ℕ) → IsFollowed bytes → read_of bytes ≡ Err fault.TrailingBytes
followed_reads bytes f =
    let g = f.is_file in
    ap read_of (f.spelled ∙ ap (λ l. l ++ f.next ∷ f.rest) g.spelled ∙ append_assoc g.start (tail f.image) (f.next ∷ f.rest))
    ∙ behind_reads g.start f.image.buffers (tail f.image ++ f.next ∷ f.rest) g.opens
    ∙ followed_tail_reads f.image f.next f.rest g.is_image

pub cut_short_reads : (bytes : List ℕ) → IsCutShort bytes → read_of bytes ≡ Err fault.Truncated
cut_short_reads bytes f =
    let g = f.whole in
    let n : ℕ = length bytes in
    let front : bytes ≡ take n (g.start ++ tail f.image) = sym (take-append_seam bytes (f.next ∷ f.rest)) ∙ ap (take n) g.spelled in
    elim (cases_lt n (length g.start)) [
      | inl short ↦
          let within : bytes ≡ take n g.start = front ∙ take-append-le n g.start (tail f.image) (omega arith) in
          ap (λ r. and_then r (λ found. tail_of found.0 (drop found.1 bytes))) (ap opening_of within ∙ cut_opening_reads g.start f.image.buffers n g.opens short)
      | inr long ↦
          let t : List ℕ = drop (length g.start) bytes in
          let split : bytes ≡ g.start ++ t = front_is bytes g.start long (agrees bytes g.start (tail f.image) (f.next ∷ f.rest) long g.spelled) in
          let rest : t ++ f.next ∷ f.rest ≡ tail f.image =
          sym (drop-append_seam g.start (t ++ f.next ∷ f.rest)) ∙ ap (drop (length g.start)) (sym (append_assoc g.start t (f.next ∷ f.rest)) ∙ ap (λ l. l ++ f.next ∷ f.rest) (sym split) ∙ g.spelled) ∙ drop-append_seam g.start (tail f.image) in
          ap read_of split ∙ behind_reads g.start f.image.buffers t g.opens ∙ cut_tail_reads t f.image f.next f.rest g.is_image rest
    ]

refused : (bytes : List ℕ) (e : ImageFault) → opening_of bytes ≡ Err e → read_of bytes ≡ Err e
refused bytes e h = ap (λ r. and_then r (λ found. tail_of found.0 (drop found.1 bytes))) h

pub bad_magic_reads : (bytes : List ℕ) → HasBadMagic bytes → read_of bytes ≡ Err fault.BadMagic
bad_magic_reads bytes bad = refused bytes fault.BadMagic (o.bad_magic_reads bytes bad)

pub bad_version_reads : (bytes : List ℕ) → HasBadVersion bytes → read_of bytes ≡ Err fault.BadVersion
bad_version_reads bytes bad = refused bytes fault.BadVersion (o.bad_version_reads bytes bad)

pub bad_buffers_reads : (bytes : List ℕ) → HasBadBuffers bytes → read_of bytes ≡ Err fault.BadBuffers
bad_buffers_reads bytes bad = refused bytes fault.BadBuffers (o.bad_buffers_reads bytes bad)

pub bad_size_reads : (bytes : List ℕ) → HasBadSize bytes → read_of bytes ≡ Err fault.BadSize
bad_size_reads bytes bad =
    let t : List ℕ = drop (length bad.start) bytes in
    let split : bytes ≡ bad.start ++ t = front_is bytes bad.start (omega (arith, bad.size_stands)) bad.opening_fits in
    let long : 4 ≤ length t = omega (arith, ap length split, length-append bad.start t, bad.size_stands) in
    let misfits : ¬ IsSize bad.buffers (field_at 2 t) = subst (λ n. ¬ IsSize bad.buffers n) (ap (field_at (length bad.start + 2)) split ∙ field_behind bad.start t) bad.size_misfits in
    ap read_of split ∙ behind_reads bad.start bad.buffers t bad.opens ∙ bad_tail_reads bad.buffers t long misfits
