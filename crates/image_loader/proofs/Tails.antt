-- What is from the entry on: entry, size, and the bytes of memory.
use Rattle.std.proofs.Common.{◌≡◌, ◌<◌, ◌≤◌, ◌+◌, ◌*◌, ◌/◌, ◌%◌, ◌-◌, ◌⊎◌, ℕ, true, false, List, [], ◌∷◌, ◌++◌, length, take, drop, replicate, get_or, Ok, Err, refl, sym, ap, ◌∙◌, arith, nat_lt, inl, inr, zero, suc, Fits, w8}
use Rattle.std.proofs.lemmas.Bool.{le-ltb, lt-ltb, cases_lt}
use Rattle.std.proofs.lemmas.List.{length-append, length-take, length-replicate, take-append-drop, drop_more}
use Rattle.std.proofs.lemmas.List.Elements.{All-from_get_or}
use Rattle.std.proofs.Math.Seq.{take-append_seam}
use Rattle.memory.specs.Bytes.{IsCount}
use Rattle.memory.proofs.Limits.{limit_least, limit_most}
use Rattle.image_loader.specs.declared.fault.ImageFault.TheVariants as fault
use Rattle.image_loader.specs.Files.{Contents, IsSize, IsImage, field, field_at, tail}
use Rattle.image_loader.specs.Checks.{is_bad_size, body_by, tail_of}

-- each element is a byte
abbrev pub AreBytes : List ℕ → Type 0
AreBytes xs = (i : ℕ) → get_or xs i 0 < 256

-- as the type of a slice of bytes says
pub are_bytes : (xs : List ℕ) → ((i : ℕ) → Fits w8 (get_or xs i 0)) → AreBytes xs
are_bytes xs typed i = omega (arith, typed i)

AreBytes-append : (xs ys : List ℕ) → AreBytes xs → AreBytes ys → AreBytes (xs ++ ys)
AreBytes-append [] ys hx hy i = hy i
AreBytes-append (x ∷ xs) ys hx hy zero = hx 0
AreBytes-append (x ∷ xs) ys hx hy (suc i) = AreBytes-append xs ys (λ k. hx (suc k)) hy i

pub AreBytes-zeros : (n : ℕ) → AreBytes (replicate n 0)
AreBytes-zeros (suc n) (suc i) = AreBytes-zeros n i
AreBytes-zeros n x1 = grind arith

AreBytes-take : (n : ℕ) (xs : List ℕ) → AreBytes xs → AreBytes (take n xs)
AreBytes-take zero xs h i = omega arith
AreBytes-take (suc n) [] h i = omega arith
AreBytes-take (suc n) (x ∷ xs) h zero = h 0
AreBytes-take (suc n) (x ∷ xs) h (suc i) = AreBytes-take n xs (λ k. h (suc k)) i

-- sizes
size_fits : (count n : ℕ) → IsSize count n → is_bad_size count n ≡ false
size_fits count n h = grind (arith, le-ltb)

size_or_not : (count n : ℕ) → IsSize count n ⊎ (¬ IsSize count n)
size_or_not count n = grind (arith, cases_lt)

bad_size_true : (count n : ℕ) → (¬ IsSize count n) → is_bad_size count n ≡ true
bad_size_true count n not_so = grind (arith, cases_lt, lt-ltb, le-ltb)

-- entry and size are read, whatever follows
fields_read : (count entry size : ℕ) (v : List ℕ) → IsCount count → entry < 65536 → IsSize count size
    → tail_of count (field entry ++ field size ++ v) ≡ body_by (nat_lt (length v) size) (nat_lt size (length v)) (record { buffers = count; entry = entry; bytes = v })
fields_read count entry size v few fits is_size = grind (arith, limit_most, le-ltb, size_fits)

pub small : (image : Contents) → IsImage image → length image.bytes < 65536
small image h = omega (arith, h.size.1, limit_most image.buffers h.buffers)

pub most_bytes : (image : Contents) → IsImage image → length image.bytes ≤ 63488
most_bytes image h = omega (arith, h.size.1, limit_most image.buffers h.buffers)

pub whole_reads : (image : Contents) → IsImage image → tail_of image.buffers (tail image) ≡ Ok image
whole_reads image h = grind (arith, le-ltb, fields_read)

pub followed_tail_reads : (image : Contents) (x : ℕ) (xs : List ℕ) → IsImage image → tail_of image.buffers (tail image ++ x ∷ xs) ≡ Err fault.TrailingBytes
followed_tail_reads image x xs h = grind (arith, length-append, le-ltb, lt-ltb, fields_read)

cut_fields : (n : ℕ) (image : Contents) → n < 4 → tail_of image.buffers (take n (tail image)) ≡ Err fault.Truncated
cut_fields zero image h = refl
cut_fields (suc zero) image h = refl
cut_fields (suc (suc zero)) image h = refl
cut_fields (suc (suc (suc zero))) image h = refl
cut_fields (suc (suc (suc (suc n)))) image h = absurd (omega arith)

pub cut_tail_reads : (t : List ℕ) (image : Contents) (x : ℕ) (xs : List ℕ) → IsImage image → t ++ x ∷ xs ≡ tail image → tail_of image.buffers t ≡ Err fault.Truncated
cut_tail_reads t image x xs h spelled = grind (arith, take-append_seam, length-append, cases_lt, cut_fields, length-take, lt-ltb, fields_read)

pub bad_tail_reads : (count : ℕ) (t : List ℕ) → 4 ≤ length t → (¬ IsSize count (field_at 2 t)) → tail_of count t ≡ Err fault.BadSize
bad_tail_reads count t long bad = grind (arith, le-ltb, bad_size_true)

-- each list of bytes is the tail of an image, or the beginning of one, or one with bytes after it, or has a bad size
pub data Tail (count : ℕ) (t : List ℕ) : Type 0 where
  is_whole : (image : Contents) → image.buffers ≡ count → IsImage image → t ≡ tail image → Tail count t
  is_cut : (image : Contents) (x : ℕ) (xs : List ℕ) → image.buffers ≡ count → IsImage image → t ++ x ∷ xs ≡ tail image → Tail count t
  is_long : (image : Contents) (x : ℕ) (xs : List ℕ) → image.buffers ≡ count → IsImage image → t ≡ tail image ++ x ∷ xs → Tail count t
  is_bad : 4 ≤ length t → (¬ IsSize count (field_at 2 t)) → Tail count t

-- the bytes a b of an entry and c d of a size, and as many bytes
pub record IsTail (count a b c d entry : ℕ) (v : List ℕ) : Type 0 where
  pub spelled : a ∷ b ∷ c ∷ d ∷ v ≡ tail (record { buffers = count; entry = entry; bytes = v })
  pub is_image : IsImage (record { buffers = count; entry = entry; bytes = v })

whole : (count a b c d entry : ℕ) (v : List ℕ) → IsCount count → a < 256 → b < 256 → c < 256 → d < 256 → a + 256 * (b + 0) ≡ entry
    → length v ≡ c + 256 * (d + 0) → IsSize count (length v) → AreBytes v → IsTail count a b c d entry v
whole count a b c d entry v few fa fb fc fd entry_is long size fit =
    let pa : a ≡ entry % 256 = omega arith in
    let pb : b ≡ entry / 256 % 256 = omega arith in
    let pc : c ≡ length v % 256 = omega arith in
    let pd : d ≡ length v / 256 % 256 = omega arith in
    record {
      spelled = rw (pa, pb, pc, pd) refl;
      is_image = record {
        buffers = few;
        entry = omega arith;
        size = size;
        bytes = All-from_get_or (λ b. b < 256) v 0 (λ i h. fit i);
      };
    }

cut_by : (count : ℕ) (t pad : List ℕ) (image : Contents) → 0 < length pad → image.buffers ≡ count → IsImage image → t ++ pad ≡ tail image → Tail count t
cut_by count t [] image some e h f = absurd (omega arith)
cut_by count t (x ∷ xs) image some e h f = is_cut image x xs e h f

-- entry and size exist, and any bytes after them
fields_sort : (count a b c d : ℕ) (r : List ℕ) → IsCount count → AreBytes (a ∷ b ∷ c ∷ d ∷ r) → Tail count (a ∷ b ∷ c ∷ d ∷ r)
fields_sort count a b c d r few fit =
    let entry : ℕ = a + 256 * (b + 0) in
    let size : ℕ = c + 256 * (d + 0) in
    let fit_r : AreBytes r = λ i. fit (suc (suc (suc (suc i)))) in
    elim (size_or_not count size) [
      | inr bad ↦ is_bad (omega arith) bad
      | inl good ↦ elim (cases_lt (length r) size) [
        | inl short ↦
            let lacking : List ℕ = replicate (size - length r) 0 in
            let sum : length (r ++ lacking) ≡ size = simp (length-append, length-replicate) (omega arith) in
            let some : 0 < length lacking = simp length-replicate (omega arith) in
            let fit_all : AreBytes (r ++ lacking) = AreBytes-append r lacking fit_r (AreBytes-zeros (size - length r)) in
            let f = whole count a b c d entry (r ++ lacking) few (fit 0) (fit 1) (fit 2) (fit 3) refl sum (rw sum good) fit_all in
            cut_by count (a ∷ b ∷ c ∷ d ∷ r) lacking (record { buffers = count; entry = entry; bytes = r ++ lacking }) some refl f.is_image f.spelled
        | inr enough ↦ elim (cases_lt size (length r)) [
          | inr even ↦
              let e : length r ≡ size = omega arith in
              let f = whole count a b c d entry r few (fit 0) (fit 1) (fit 2) (fit 3) refl e (rw e good) fit_r in
              is_whole (record { buffers = count; entry = entry; bytes = r }) refl f.is_image f.spelled
          | inl long ↦
              let v : List ℕ = take size r in
              let sum : length v ≡ size = simp length-take (omega arith) in
              let f = whole count a b c d entry v few (fit 0) (fit 1) (fit 2) (fit 3) refl sum (rw sum good) (AreBytes-take size r fit_r) in
              let split : r ≡ v ++ get_or r size 0 ∷ drop (size + 1) r = sym (take-append-drop size r) ∙ ap (λ t. v ++ t) (drop_more r size 0 long) in
              is_long (record { buffers = count; entry = entry; bytes = v }) (get_or r size 0) (drop (size + 1) r) refl f.is_image
              (ap (λ t. a ∷ b ∷ c ∷ d ∷ t) split ∙ ap (λ t. t ++ get_or r size 0 ∷ drop (size + 1) r) f.spelled)
        ]
      ]
    ]

-- zeros for what is lacking: then the size is 256 and what its low byte says
pub padded : (count a b c : ℕ) → IsCount count → a < 256 → b < 256 → c < 256 → IsTail count a b c 1 (a + 256 * (b + 0)) (replicate (c + 256) 0)
padded count a b c few fa fb fc =
    let v : List ℕ = replicate (c + 256) 0 in
    let sum : length v ≡ c + 256 = length-replicate (c + 256) 0 in
    let least = limit_least count few in
    whole count a b c 1 (a + 256 * (b + 0)) v few fa fb fc (omega arith) refl (omega (arith, sum)) (omega (arith, sum), omega (arith, sum, least)) (AreBytes-zeros (c + 256))

abbrev pub blank : (count a b c : ℕ) → Contents
blank count a b c = record { buffers = count; entry = a + 256 * (b + 0); bytes = replicate (c + 256) 0 }

pub tail_sort : (count : ℕ) (t : List ℕ) → IsCount count → AreBytes t → Tail count t
tail_sort count [] few fit =
    let f = padded count 0 0 0 few (omega arith) (omega arith) (omega arith) in
    cut_by count [] (0 ∷ 0 ∷ 0 ∷ 1 ∷ replicate (0 + 256) 0) (blank count 0 0 0) (omega arith) refl f.is_image f.spelled
tail_sort count (a ∷ []) few fit =
    let f = padded count a 0 0 few (fit 0) (omega arith) (omega arith) in
    cut_by count (a ∷ []) (0 ∷ 0 ∷ 1 ∷ replicate (0 + 256) 0) (blank count a 0 0) (omega arith) refl f.is_image f.spelled
tail_sort count (a ∷ b ∷ []) few fit =
    let f = padded count a b 0 few (fit 0) (fit 1) (omega arith) in
    cut_by count (a ∷ b ∷ []) (0 ∷ 1 ∷ replicate (0 + 256) 0) (blank count a b 0) (omega arith) refl f.is_image f.spelled
tail_sort count (a ∷ b ∷ c ∷ []) few fit =
    let f = padded count a b c few (fit 0) (fit 1) (fit 2) in
    cut_by count (a ∷ b ∷ c ∷ []) (1 ∷ replicate (c + 256) 0) (blank count a b c) (omega arith) refl f.is_image f.spelled
tail_sort count (a ∷ b ∷ c ∷ d ∷ r) few fit = fields_sort count a b c d r few fit
