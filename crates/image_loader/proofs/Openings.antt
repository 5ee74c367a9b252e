-- How files begin: magic, version, and how many buffers there are.
use Rattle.std.proofs.Common.{◌≡◌, ◌<◌, ◌≤◌, ◌+◌, ◌*◌, ◌/◌, ◌%◌, ◌⊎◌, ℕ, Bool, true, false, List, [], ◌∷◌, ◌++◌, length, take, drop, Ok, Err, refl, sym, ap, ◌∙◌, arith, nat_lt, inl, inr, subst, zero, suc}
use Rattle.std.specs.Bool.{Decides}
use Rattle.std.proofs.lemmas.Bool.{le-ltb, lt-ltb, cases_lt}
use Rattle.std.proofs.lemmas.List.{length-drop, take-append-drop, take_all, take-append-le, append_assoc}
use Rattle.std.proofs.lemmas.Slice.Eq.{bytes_eq-Decides}
use Rattle.memory.specs.Bytes.{IsCount}
use Rattle.image_loader.specs.declared.fault.ImageFault.TheVariants as fault
use Rattle.image_loader.specs.Files.{Contents, IsImage, IsCutShort, Opens, Agree, HasBadMagic, HasBadVersion, HasBadBuffers, magic, version, opening, field_at, tail}
use Rattle.image_loader.specs.Checks.{agree, is_bad_count, opening_of}
use Rattle.image_loader.proofs.Tails.{padded, blank}

decide : (r : Bool) (P : Type 0) → Decides r P → P ⊎ (¬ P)
decide r P d = grind arith

pub agree_or_not : (xs ys : List ℕ) → Agree xs ys ⊎ (¬ Agree xs ys)
agree_or_not xs ys = decide (agree xs ys) (Agree xs ys) (bytes_eq-Decides (take (length ys) xs) (take (length xs) ys))

pub agree_true : (xs ys : List ℕ) → Agree xs ys → agree xs ys ≡ true
agree_true xs ys = (bytes_eq-Decides (take (length ys) xs) (take (length xs) ys)).1

false_by : (b : Bool) → (¬ (b ≡ true)) → b ≡ false
false_by b not_so = grind arith

pub agree_false : (xs ys : List ℕ) → (¬ Agree xs ys) → agree xs ys ≡ false
agree_false xs ys not_so = false_by (agree xs ys) (λ e. not_so ((bytes_eq-Decides (take (length ys) xs) (take (length xs) ys)).0 e))

-- counts
count_fits : (n : ℕ) → IsCount n → is_bad_count n ≡ false
count_fits n h = let low : nat_lt n 2 ≡ false = le-ltb _ _ h.0 in let high : nat_lt 16 n ≡ false = le-ltb _ _ h.1 in rw (low, high) refl

count_or_not : (n : ℕ) → IsCount n ⊎ (¬ IsCount n)
count_or_not n = grind (arith, cases_lt)

bad_count_true : (n : ℕ) → (¬ IsCount n) → is_bad_count n ≡ true
bad_count_true n not_so = grind (arith, cases_lt, lt-ltb, le-ltb)

nil_taken : (n : ℕ) → take {A = ℕ} n [] ≡ []
nil_taken n = grind arith

-- what is read of an opening that is whole
first_reads : (t : List ℕ) → opening_of (version 1 ++ t) ≡ Ok (4, 10)
first_reads t = let long : nat_lt (length (version 1 ++ t)) 10 ≡ false = le-ltb _ _ (omega arith) in rw (nil_taken (length t), long) refl

count_reads : (count : ℕ) (t : List ℕ) → IsCount count → opening_of (opening count ++ t) ≡ Ok (count, 12)
count_reads count t h = grind (arith, le-ltb, count_fits)

pub opening_reads : (start : List ℕ) (count : ℕ) (t : List ℕ) → Opens start count → opening_of (start ++ t) ≡ Ok (count, length start)
opening_reads start count t (inl (e, h)) = rw e (count_reads count t h)
opening_reads start count t (inr (e, f)) = rw (e, f) (first_reads t)

pub opened_count : (start : List ℕ) (count : ℕ) → Opens start count → IsCount count
opened_count start count x2 = grind arith

-- a file that ends within its opening
cut_first : (n : ℕ) → n < 10 → opening_of (take n (version 1)) ≡ Err fault.Truncated
cut_first zero h = refl
cut_first (suc zero) h = refl
cut_first (suc (suc zero)) h = refl
cut_first (suc (suc (suc zero))) h = refl
cut_first (suc (suc (suc (suc zero)))) h = refl
cut_first (suc (suc (suc (suc (suc zero))))) h = refl
cut_first (suc (suc (suc (suc (suc (suc zero)))))) h = refl
cut_first (suc (suc (suc (suc (suc (suc (suc zero))))))) h = refl
cut_first (suc (suc (suc (suc (suc (suc (suc (suc zero)))))))) h = refl
cut_first (suc (suc (suc (suc (suc (suc (suc (suc (suc zero))))))))) h = refl
cut_first (suc (suc (suc (suc (suc (suc (suc (suc (suc (suc n)))))))))) h = absurd (omega arith)

half_reads : (count : ℕ) → IsCount count → opening_of (version 2 ++ count % 256 ∷ []) ≡ Err fault.Truncated
half_reads count h = grind (arith, count_fits)

cut_second : (n count : ℕ) → IsCount count → n < 12 → opening_of (take n (opening count)) ≡ Err fault.Truncated
cut_second zero count c h = refl
cut_second (suc zero) count c h = refl
cut_second (suc (suc zero)) count c h = refl
cut_second (suc (suc (suc zero))) count c h = refl
cut_second (suc (suc (suc (suc zero)))) count c h = refl
cut_second (suc (suc (suc (suc (suc zero))))) count c h = refl
cut_second (suc (suc (suc (suc (suc (suc zero)))))) count c h = refl
cut_second (suc (suc (suc (suc (suc (suc (suc zero))))))) count c h = refl
cut_second (suc (suc (suc (suc (suc (suc (suc (suc zero)))))))) count c h = refl
cut_second (suc (suc (suc (suc (suc (suc (suc (suc (suc zero))))))))) count c h = refl
cut_second (suc (suc (suc (suc (suc (suc (suc (suc (suc (suc zero)))))))))) count c h = refl
cut_second (suc (suc (suc (suc (suc (suc (suc (suc (suc (suc (suc zero))))))))))) count c h = half_reads count c
cut_second (suc (suc (suc (suc (suc (suc (suc (suc (suc (suc (suc (suc n)))))))))))) count c h = absurd (omega arith)

pub cut_opening_reads : (start : List ℕ) (count n : ℕ) → Opens start count → n < length start → opening_of (take n start) ≡ Err fault.Truncated
cut_opening_reads start count n (inl (e, c)) h = rw e (cut_second n count c (let l : length start ≡ 12 = ap length e in omega arith))
cut_opening_reads start count n (inr (e, f)) h = rw e (cut_first n (let l : length start ≡ 10 = ap length e in omega arith))

-- bytes that agree with an opening, and end within it, are a file that is cut short
pub opening_cut : (bytes start : List ℕ) (count : ℕ) → Opens start count → length bytes < length start → Agree bytes start → IsCutShort bytes
opening_cut bytes start count o short begins =
    let n : ℕ = length bytes in
    let f = padded count 0 0 0 (opened_count start count o) (omega arith) (omega arith) (omega arith) in
    let image : Contents = blank count 0 0 0 in
    let same : bytes ≡ take n start = sym (take_all (length start) bytes (omega arith)) ∙ begins in
    let joined : bytes ++ drop n start ≡ start = ap (λ t. t ++ drop n start) same ∙ take-append-drop n start in
    let all : bytes ++ (drop n start ++ tail image) ≡ start ++ tail image = sym (append_assoc bytes (drop n start) (tail image)) ∙ ap (λ t. t ++ tail image) joined in
    let some : 0 < length (drop n start) = simp length-drop (omega arith) in
    by (drop n start) some all f.is_image
  where
    by : (rest : List ℕ) → 0 < length rest → bytes ++ (rest ++ tail (blank count 0 0 0)) ≡ start ++ tail (blank count 0 0 0)
        → IsImage (blank count 0 0 0) → IsCutShort bytes
    by [] some all is_image = absurd (omega arith)
    by (x ∷ xs) some all is_image = record {
      image = blank count 0 0 0;
      next = x;
      rest = xs ++ tail (blank count 0 0 0);
      whole = record { start = start; opens = o; spelled = all; is_image = is_image };
    }

-- bytes by their opening
pub data Opening (bytes : List ℕ) : Type 0 where
  ends_within : IsCutShort bytes → Opening bytes
  bad_magic : HasBadMagic bytes → Opening bytes
  bad_version : HasBadVersion bytes → Opening bytes
  bad_buffers : HasBadBuffers bytes → Opening bytes
  opens : (start : List ℕ) (count : ℕ) (t : List ℕ) → Opens start count → bytes ≡ start ++ t → Opening bytes

-- the front of bytes that agree with a list, and are as long
pub front_is : (bytes start : List ℕ) → length start ≤ length bytes → Agree bytes start → bytes ≡ start ++ drop (length start) bytes
front_is bytes start long begins = grind (arith, take_all, take-append-drop)

first_sort : (bytes : List ℕ) → Agree bytes (version 1) → Opening bytes
first_sort bytes begins =
    elim (cases_lt (length bytes) 10) [
      | inl short ↦ ends_within (opening_cut bytes (version 1) 4 (inr (refl, refl)) short begins)
      | inr long ↦ opens (version 1) 4 (drop 10 bytes) (inr (refl, refl)) (front_is bytes (version 1) long begins)
    ]

-- so far each number of buffers fits
pub any_fits : (bytes : List ℕ) (count : ℕ) → length bytes ≤ 10 → Agree bytes (version 2) → Agree bytes (opening count)
any_fits bytes count short begins = grind (arith, take_all, take-append-le)

one_agrees : (b count : ℕ) → Agree (version 2 ++ b ∷ []) (opening count) → b ≡ count % 256
one_agrees b count h = cc

two_agree : (b c count : ℕ) (t : List ℕ) → Agree (version 2 ++ b ∷ c ∷ t) (opening count) → (b ≡ count % 256) × (c ≡ count / 256 % 256)
two_agree b c count t h = (cc, cc)

count_sort : (r : List ℕ) → 0 < length r → Opening (version 2 ++ r)
count_sort [] h = absurd (omega arith)
count_sort (b ∷ []) h =
    elim (count_or_not b) [
      | inl good ↦ ends_within (opening_cut (version 2 ++ b ∷ []) (opening b) b (inl (refl, good)) (omega arith) (let e : b ≡ b % 256 = omega (arith, good.1) in ap (λ n. version 2 ++ n ∷ []) e))
      | inr bad ↦ bad_buffers (record {
        version_fits = refl;
        buffers_misfit = λ count few begins. bad (let e = one_agrees b count begins in (omega (arith, e, few.0, few.1), omega (arith, e, few.0, few.1)));
      })
    ]
count_sort (b ∷ c ∷ t) h =
    elim (count_or_not (b + 256 * c)) [
      | inl good ↦
          let z : c ≡ 0 = omega (arith, good.1) in
          let low : b ≡ b % 256 = omega (arith, good.1) in
          let high : c ≡ b / 256 % 256 = omega (arith, good.1) in
          let n : b + 256 * c ≡ b = omega arith in
          opens (opening b) b t (inl (refl, subst IsCount n good)) (ap (λ k. version 2 ++ k ∷ c ∷ t) low ∙ ap (λ k. version 2 ++ b % 256 ∷ k ∷ t) high)
      | inr bad ↦ bad_buffers (record {
        version_fits = refl;
        buffers_misfit = λ count few begins. bad (let e = two_agree b c count t begins in (omega (arith, e.0, e.1, few.0, few.1), omega (arith, e.0, e.1, few.0, few.1)));
      })
    ]

second_sort : (bytes : List ℕ) → Agree bytes (version 2) → Opening bytes
second_sort bytes begins =
    elim (cases_lt 10 (length bytes)) [
      | inr short ↦ ends_within (opening_cut bytes (opening 2) 2 (inl (refl, (omega arith, omega arith))) (omega arith) (any_fits bytes 2 short begins))
      | inl long ↦
          let all = front_is bytes (version 2) (omega arith) begins in
          subst (λ l. Opening l) (sym all) (count_sort (drop 10 bytes) (simp length-drop (omega arith)))
    ]

pub opening_sort : (bytes : List ℕ) → Opening bytes
opening_sort bytes =
    elim (agree_or_not bytes magic) [
      | inr not_so ↦ bad_magic not_so
      | inl fits ↦ elim (agree_or_not bytes (version 1)) [
        | inl begins ↦ first_sort bytes begins
        | inr not_one ↦ elim (agree_or_not bytes (version 2)) [
          | inl begins ↦ second_sort bytes begins
          | inr not_two ↦ bad_version (record { magic_fits = fits; one_misfits = not_one; two_misfits = not_two })
        ]
      ]
    ]

pub bad_magic_reads : (bytes : List ℕ) → HasBadMagic bytes → opening_of bytes ≡ Err fault.BadMagic
bad_magic_reads bytes bad = let e : agree bytes magic ≡ false = agree_false bytes magic bad in rw e refl

pub bad_version_reads : (bytes : List ℕ) → HasBadVersion bytes → opening_of bytes ≡ Err fault.BadVersion
bad_version_reads bytes bad = grind (arith, agree_true, agree_false)

bad_count_reads : (r : List ℕ) → 0 < length r → ((count : ℕ) → IsCount count → ¬ Agree (version 2 ++ r) (opening count)) → opening_of (version 2 ++ r) ≡ Err fault.BadBuffers
bad_count_reads [] h bad = absurd (omega arith)
bad_count_reads (b ∷ []) h bad =
    let not_so : ¬ IsCount b = λ good. bad b good (let e : b ≡ b % 256 = omega (arith, good.1) in ap (λ n. version 2 ++ n ∷ []) e) in
    let n : field_at 10 (version 2 ++ b ∷ []) ≡ b = omega arith in
    let e : is_bad_count (field_at 10 (version 2 ++ b ∷ [])) ≡ true = rw n (bad_count_true b not_so) in
    rw e refl
bad_count_reads (b ∷ c ∷ t) h bad =
    let bytes : List ℕ = version 2 ++ b ∷ c ∷ t in
    let agrees : (good : IsCount (b + 256 * c)) → Agree bytes (opening b) = λ good.
    (let low : b ≡ b % 256 = omega (arith, good.1) in let high : c ≡ b / 256 % 256 = omega (arith, good.1) in
    rw (nil_taken (length t)) (ap (λ k. version 2 ++ k ∷ c ∷ []) low ∙ ap (λ k. version 2 ++ b % 256 ∷ k ∷ []) high)) in
    let not_so : ¬ IsCount (b + 256 * c) = λ good. bad b (let z : b + 256 * c ≡ b = omega (arith, good.1) in subst IsCount z good) (agrees good) in
    let n : field_at 10 bytes ≡ b + 256 * c = omega arith in
    let e : is_bad_count (field_at 10 bytes) ≡ true = rw n (bad_count_true (b + 256 * c) not_so) in
    let l : nat_lt (length bytes) 11 ≡ false = le-ltb _ _ (omega arith) in
    rw (l, e) refl

pub bad_buffers_reads : (bytes : List ℕ) → HasBadBuffers bytes → opening_of bytes ≡ Err fault.BadBuffers
bad_buffers_reads bytes bad =
    elim (cases_lt 10 (length bytes)) [
      | inr short ↦ absurd (bad.buffers_misfit 2 (omega arith, omega arith) (any_fits bytes 2 short bad.version_fits))
      | inl long ↦
          let all = front_is bytes (version 2) (omega arith) bad.version_fits in
          ap opening_of all ∙ bad_count_reads (drop 10 bytes) (simp length-drop (omega arith)) (λ count few begins. bad.buffers_misfit count few (subst (λ l. Agree l (opening count)) (sym all) begins))
    ]
