-- The words of screens that follow one another are those of the first, then those of the others.
use Rattle.std.proofs.Common.{◌≡◌, ℕ, ◌+◌, ◌∙◌, List, [], ◌∷◌, ◌++◌, length, arith, refl, ap, sym, append_assoc, append-nil}
use Rattle.source_words.specs.declared.modes.Mode.{Mode}
use Rattle.source_words.specs.Modes.{mode_after}
use Rattle.source_words.specs.Words.{SourceWord, screen_words, after_words, words_of_screens}

pub after_append : (m : Mode) (xs ys : List SourceWord) → after_words m (xs ++ ys) ≡ after_words (after_words m xs) ys
unfolding after_words
after_append m [] ys = refl
after_append m (x ∷ xs) ys = after_append (mode_after m x.name) xs ys

pub after_snoc : (m : Mode) (ws : List SourceWord) (w : SourceWord) → after_words m (ws ++ w ∷ []) ≡ mode_after (after_words m ws) w.name
unfolding after_words
after_snoc m [] w = refl
after_snoc m (v ∷ ws) w = after_snoc (mode_after m v.name) ws w

-- screens after others
pub words_append : (m : Mode) (n : ℕ) (xs ys : List (List ℕ)) → words_of_screens m n (xs ++ ys) ≡ words_of_screens m n xs ++ words_of_screens (after_words m (words_of_screens m n xs)) (n + length xs) ys
unfolding words_of_screens after_words
words_append m n [] ys = ap (λ k. words_of_screens m k ys) (omega arith)
words_append m n (x ∷ xs) ys =
    let first : List SourceWord = screen_words m n x in
    let next : Mode = after_words m first in
    let more : List SourceWord = words_of_screens next (n + 1) xs in
    let mode : after_words next more ≡ after_words m (first ++ more) = sym (after_append m first more) in
    ap (λ r. first ++ r) (words_append next (n + 1) xs ys)
    ∙ ap (λ k. first ++ (more ++ words_of_screens (after_words next more) k ys)) (omega arith)
    ∙ ap (λ k. first ++ (more ++ words_of_screens k (n + length (x ∷ xs)) ys)) mode
    ∙ sym (append_assoc first more (words_of_screens (after_words m (first ++ more)) (n + length (x ∷ xs)) ys))

one_screen : (m : Mode) (n : ℕ) (s : List ℕ) → words_of_screens m n (s ∷ []) ≡ screen_words m n s
unfolding words_of_screens
one_screen m n s = append-nil (screen_words m n s)

-- a screen more, after the others
pub words_snoc : (m : Mode) (n : ℕ) (before : List (List ℕ)) (s : List ℕ) →
    words_of_screens m n (before ++ s ∷ []) ≡ words_of_screens m n before ++ screen_words (after_words m (words_of_screens m n before)) (n + length before) s
words_snoc m n before s = grind (arith, words_append, one_screen)
