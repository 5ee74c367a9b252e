use Rattle.std.proofs.Common.{◌≡◌, ◌≢◌, ◌∙◌, ℕ, suc, ◌+◌, ◌-◌, ◌%◌, ◌<◌, ◌≤◌, ◌==◌, List, [], ◌∷◌, ◌++◌, length, take, drop, get_or, slice_index, Bool, true, false, ◌&&◌, ◌||◌, append_assoc, append-nil, length-append, arith, refl, ap}
use Rattle.std.proofs.lemmas.Grind.{common_steps}
use Rattle.std.proofs.lemmas.List.{drop_all, at_drop_all, at_drop_more}
use Rattle.screen_text.specs.Bytes.{bad_byte, blanks, padded, is_blank, is_text, trimmed, spread}

pub length-blanks : (n : ℕ) → length (blanks n) ≡ n
unfolding blanks
length-blanks n = grind (arith, common_steps)

pub blank-cons : (b : ℕ) (bs : List ℕ) → is_blank (b ∷ bs) ≡ ((b == 32) && is_blank bs)
unfolding is_blank
blank-cons b bs = refl

and-false : (b : Bool) → (b && false) ≡ false
and-false b = grind arith

-- a blank after
pub blank-more : (xs : List ℕ) → is_blank (xs ++ 32 ∷ []) ≡ is_blank xs
unfolding is_blank
blank-more [] = refl
blank-more (x ∷ xs) = ap (λ r. (x == 32) && r) (blank-more xs)

-- a byte after that is none
pub not_blank : (xs : List ℕ) (b : ℕ) → b ≢ 32 → is_blank (xs ++ b ∷ []) ≡ false
unfolding is_blank
not_blank [] b h = let q : (b == 32) ≡ false = grind arith in rw q refl
not_blank (x ∷ xs) b h = ap (λ r. (x == 32) && r) (not_blank xs b h) ∙ and-false (x == 32)

pub trimmed-more : (xs : List ℕ) → trimmed (xs ++ 32 ∷ []) ≡ trimmed xs
unfolding trimmed
trimmed-more [] = unfold is_blank in refl
trimmed-more (x ∷ xs) = rw (blank-more (x ∷ xs), trimmed-more xs) refl

pub trimmed-text : (xs : List ℕ) (b : ℕ) → b ≢ 32 → trimmed (xs ++ b ∷ []) ≡ xs ++ b ∷ []
unfolding trimmed
trimmed-text [] b h = rw (not_blank [] b h) refl
trimmed-text (x ∷ xs) b h = rw (not_blank (x ∷ xs) b h, trimmed-text xs b h) refl

last_of : (line : List ℕ) (end : ℕ) → 0 < end → end ≤ length line → take end line ≡ take (end - 1) line ++ slice_index line (end - 1) ∷ []
last_of (b ∷ line) (suc (suc n)) some within = grind (arith, last_of line (suc n) (omega arith) (omega arith))
last_of line end some within = grind arith

pub trimmed_less : (line : List ℕ) (end : ℕ) → 0 < end → end ≤ length line → slice_index line (end - 1) ≡ 32 → trimmed (take end line) ≡ trimmed (take (end - 1) line)
trimmed_less line end some within e = grind (arith, last_of, trimmed-more)

pub trimmed_whole : (line : List ℕ) (end : ℕ) → 0 < end → end ≤ length line → slice_index line (end - 1) ≢ 32 → trimmed (take end line) ≡ take end line
trimmed_whole line end some within e = grind (arith, last_of, trimmed-text)

pub trimmed_none : (line : List ℕ) → trimmed (take 0 line) ≡ []
unfolding trimmed
trimmed_none line = refl

-- a line with a tab at this place, and one with another byte
pub spread_tab : (xs rest : List ℕ) (n : ℕ) → n ≡ 8 - length xs % 8 →
    padded (length xs + n) xs ++ spread (length (padded (length xs + n) xs)) rest ≡ xs ++ spread (length xs) (9 ∷ rest)
unfolding padded spread
spread_tab xs rest n e = grind (arith, length-append, length-blanks, append_assoc)

pub spread_other : (xs rest : List ℕ) (b : ℕ) → b ≢ 9 → (xs ++ b ∷ []) ++ spread (length (xs ++ b ∷ [])) rest ≡ xs ++ spread (length xs) (b ∷ rest)
unfolding spread
spread_other xs rest b h = grind (arith, length-append, append_assoc)

-- if the whole line is spread
pub spread_all : (plain line all : List ℕ) (i : ℕ) → length line ≤ i → plain ++ spread (length plain) (drop i line) ≡ all → plain ≡ all
unfolding spread
spread_all plain line all i within e = grind (arith, drop_all, append-nil)

-- `bad_byte`, a byte on, where it stops, and at the end
pub bad_more : (line : List ℕ) (i : ℕ) → i < length line → (get_or line i 0 == 9 || is_text (get_or line i 0)) ≡ true → bad_byte (drop i line) ≡ bad_byte (drop (i + 1) line)
unfolding bad_byte
bad_more line i h good = at_drop_more bad_byte line i 0 h ∙ rw good refl

pub bad_here : (line : List ℕ) (i : ℕ) → i < length line → (get_or line i 0 == 9 || is_text (get_or line i 0)) ≡ false → bad_byte (drop i line) ≡ get_or line i 0
unfolding bad_byte
bad_here line i h bad = at_drop_more bad_byte line i 0 h ∙ rw bad refl

pub bad_end : (line : List ℕ) (i : ℕ) → length line ≤ i → bad_byte (drop i line) ≡ 0
unfolding bad_byte
bad_end line i h = at_drop_all bad_byte line i h
