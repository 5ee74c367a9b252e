use Rattle.std.proofs.Common.{◌≡◌, ◌∙◌, ℕ, ◌%◌, ◌≤◌, List, [], ◌∷◌, map, Bool, true, false, nat_le, if◌then◌else◌, arith, refl, ap}
use Rattle.std.specs.List.{list_all}
use Rattle.std.proofs.lemmas.Bool.{and_parts, and_from, leb-true}
use Rattle.containers.specs.Cleaning.{cleaned, cleaned_byte, is_text}

byte-text : (t : Bool) (n : ℕ) → is_text n ≡ t → is_text (if t then n else 32) ≡ true
byte-text true n e = e
byte-text false n e = unfold is_text in refl

cleaned-byte-text : (b : ℕ) → is_text (cleaned_byte b) ≡ true
unfolding cleaned_byte
cleaned-byte-text b = byte-text (is_text (b % 128)) (b % 128) refl

low-of : (b : ℕ) → is_text b ≡ true → b % 128 ≡ b
unfolding is_text
low-of b e = let t = and_parts (nat_le 32 b) (nat_le b 126) e in let k : b ≤ 126 = leb-true b 126 t.1 in omega arith

kept-byte : (b : ℕ) → is_text b ≡ true → cleaned_byte b ≡ b
unfolding cleaned_byte
kept-byte b e = let low : b % 128 ≡ b = low-of b e in rw (low, e) refl

pub cleaned-text : (bytes : List ℕ) → list_all is_text (cleaned bytes) ≡ true
unfolding cleaned
cleaned-text [] = refl
cleaned-text (b ∷ bytes) = and_from (is_text (cleaned_byte b)) (list_all is_text (map cleaned_byte bytes)) (cleaned-byte-text b) (cleaned-text bytes)

pub kept-text : (bytes : List ℕ) → list_all is_text bytes ≡ true → cleaned bytes ≡ bytes
unfolding cleaned
kept-text [] e = refl
kept-text (b ∷ bytes) e =
    let t = and_parts (is_text b) (list_all is_text bytes) e in
    ap (λ x. x ∷ map cleaned_byte bytes) (kept-byte b t.0) ∙ ap (λ xs. b ∷ xs) (kept-text bytes t.1)
