use Rattle.std.proofs.Common.{◌≡◌, ◌≢◌, ℕ, ◌-◌, ◌<◌, List, [], ◌∷◌, ◌++◌, length, length-append, take, drop, slice_index, refl, arith, Bool, true, false, if◌then◌else◌}
use Rattle.std.proofs.lemmas.List.{append-nil, drop_more, drop_all, take-append-drop}
use Rattle.std.proofs.lemmas.List.Sums.{AllPass-from_list_all}
use Rattle.std.proofs.Math.ListN.{get_or-append}
use Rattle.std.proofs.Math.Seq.{take-append_seam, get_or-append_seam}
use Rattle.number_text.specs.Digits.{digit, is_digit, are_digits}
use Rattle.number_text.specs.Numbers.{is_minus, has_dot, behind_minus, before_dot, digit_part, is_number, is_double, number_value, sign, point, spelled, IsSpelling}

-- neither `-` nor `.` is a digit
minus_no_digit : (base x : ℕ) → base < 65536 → x ≡ 45 → is_digit base x ≡ false
unfolding is_digit digit
minus_no_digit base x h e = rw e (grind arith)

dot_no_digit : (base x : ℕ) → base < 65536 → x ≡ 46 → is_digit base x ≡ false
unfolding is_digit digit
dot_no_digit base x h e = rw e (grind arith)

digit_at : (base k : ℕ) (ds : List ℕ) → are_digits base ds ≡ true → k < length ds → is_digit base (slice_index ds k) ≡ true
unfolding are_digits
digit_at base k ds h q = AllPass-from_list_all (is_digit base) ds h k 0 q

no_minus_at : (base k : ℕ) (ds : List ℕ) → base < 65536 → are_digits base ds ≡ true → k < length ds → slice_index ds k ≢ 45
no_minus_at base k ds b h q e = let t = digit_at base k ds h q in let f = minus_no_digit base (slice_index ds k) b e in cc

no_dot_at : (base k : ℕ) (ds : List ℕ) → base < 65536 → are_digits base ds ≡ true → k < length ds → slice_index ds k ≢ 46
no_dot_at base k ds b h q e = let t = digit_at base k ds h q in let f = dot_no_digit base (slice_index ds k) b e in cc

is_minus_no : (t : List ℕ) → 0 < length t → slice_index t 0 ≢ 45 → is_minus t ≡ false
unfolding is_minus
is_minus_no t h q = grind arith

is_minus_yes : (cs : List ℕ) → is_minus (45 ∷ cs) ≡ true
unfolding is_minus
is_minus_yes cs = grind arith

has_dot_no : (t : List ℕ) → 0 < length t → slice_index t (length t - 1) ≢ 46 → has_dot t ≡ false
unfolding has_dot
has_dot_no t h q = grind arith

has_dot_yes : (t : List ℕ) → 0 < length t → slice_index t (length t - 1) ≡ 46 → has_dot t ≡ true
unfolding has_dot
has_dot_yes t h q = grind arith

-- the parts of a text settle what it spells
finish : (base : ℕ) (text rest ds : List ℕ) (minus dot : Bool) → is_minus text ≡ minus → behind_minus text ≡ rest → has_dot rest ≡ dot → before_dot rest ≡ ds →
    0 < length ds → are_digits base ds ≡ true → IsSpelling base text minus ds dot
unfolding is_number is_double number_value
finish base text rest ds minus dot m b d p some digits = grind arith

-- after the digits
point_parts : (base : ℕ) (ds : List ℕ) (dot : Bool) → base < 65536 → 0 < length ds → are_digits base ds ≡ true →
    (has_dot (ds ++ point dot) ≡ dot) × (before_dot (ds ++ point dot) ≡ ds)
point_parts base ds false b some digits =
    let no : has_dot ds ≡ false = has_dot_no ds some (no_dot_at base (length ds - 1) ds b digits (omega arith)) in
    rw append-nil (no, rw no refl)
point_parts base ds true b some digits =
    let last : length (ds ++ 46 ∷ []) - 1 ≡ length ds = omega (arith, length-append ds (46 ∷ [])) in
    let at_last : slice_index (ds ++ 46 ∷ []) (length (ds ++ 46 ∷ []) - 1) ≡ 46 = rw last (get_or-append_seam ds 46 [] 0) in
    let yes : has_dot (ds ++ 46 ∷ []) ≡ true = has_dot_yes (ds ++ 46 ∷ []) (omega (arith, length-append ds (46 ∷ []))) at_last in
    (yes, rw (yes, last) (take-append_seam ds (46 ∷ [])))

-- before the digits
sign_parts : (base : ℕ) (ds ys : List ℕ) (minus : Bool) → base < 65536 → 0 < length ds → are_digits base ds ≡ true →
    (is_minus (sign minus ++ (ds ++ ys)) ≡ minus) × (behind_minus (sign minus ++ (ds ++ ys)) ≡ ds ++ ys)
sign_parts base ds ys minus b some digits = grind (arith, is_minus_yes, get_or-append, is_minus_no, length-append, no_minus_at)

-- each spelling is a number
pub spelling : (base : ℕ) (ds : List ℕ) (minus dot : Bool) → base < 65536 → 0 < length ds → are_digits base ds ≡ true →
    IsSpelling base (spelled minus ds dot) minus ds dot
spelling base ds minus dot b some digits =
    let front : (is_minus (spelled minus ds dot) ≡ minus) × (behind_minus (spelled minus ds dot) ≡ ds ++ point dot) = sign_parts base ds (point dot) minus b some digits in
    let back : (has_dot (ds ++ point dot) ≡ dot) × (before_dot (ds ++ point dot) ≡ ds) = point_parts base ds dot b some digits in
    finish base (spelled minus ds dot) (ds ++ point dot) ds minus dot front.0 front.1 back.0 back.1 some digits

-- and each text is its parts
minus_first : (c : ℕ) (cs : List ℕ) → is_minus (c ∷ cs) ≡ true → c ≡ 45
unfolding is_minus
minus_first c cs e = grind arith

no_minus_of_nothing : is_minus [] ≡ false
unfolding is_minus
no_minus_of_nothing = refl

minus_back : (t : List ℕ) (b : Bool) → is_minus t ≡ b → t ≡ sign b ++ (if b then drop 1 t else t)
minus_back t b e = grind (arith, no_minus_of_nothing, minus_first)

dot_last : (t : List ℕ) → has_dot t ≡ true → (0 < length t) × (slice_index t (length t - 1) ≡ 46)
unfolding has_dot
dot_last t e = (grind arith, grind arith)

dot_back : (t : List ℕ) (b : Bool) → has_dot t ≡ b → t ≡ (if b then take (length t - 1) t else t) ++ point b
dot_back t b e = grind (arith, append-nil, dot_last, drop_more, drop_all, take-append-drop)

pub only_spellings : (text : List ℕ) → text ≡ spelled (is_minus text) (digit_part text) (is_double text)
unfolding is_double
only_spellings text = grind (arith, minus_back, dot_back)
