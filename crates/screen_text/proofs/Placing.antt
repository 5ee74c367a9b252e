use Rattle.std.proofs.Common.{◌≡◌, ◌∙◌, ℕ, suc, ◌+◌, ◌-◌, ◌*◌, ◌<◌, ◌≤◌, List, ◌++◌, length, take, drop, fold, get_or, drop-cons, add-one, length-append, length-take-le, length-drop, arith, ap, sym}
use Rattle.std.proofs.lemmas.List.{drop-drop, drop_all, take_all, append-nil}
use Rattle.screen_text.specs.Bytes.{blanks, padded}
use Rattle.screen_text.proofs.Blanks.{length-blanks}
use Rattle.screen_text.specs.Screens.{screens_of}
use Rattle.screen_text.specs.Blocks.{with_screen, with_screens}

add-one-drop : (numbers : List ℕ) (k : ℕ) → drop (k + 1) numbers ≡ drop (suc k) numbers
add-one-drop numbers k = ap (λ j. drop j numbers) (add-one k)

-- one screen more is written
pub placed_more : (file new all numbers bytes : List ℕ) (k d : ℕ) → k < length numbers → with_screens file (screens_of (drop k numbers) (drop (1024 * k) bytes)) ≡ all →
    new ≡ with_screen file (record { number = get_or numbers k d; bytes = take 1024 (drop (1024 * k) bytes) }) →
    with_screens new (screens_of (drop (k + 1) numbers) (drop (1024 * (k + 1)) bytes)) ≡ all
unfolding with_screens screens_of
placed_more file new all numbers bytes k d below e is =
    let far : 1024 * k + 1024 ≡ 1024 * (k + 1) = omega arith in
    let rest : drop 1024 (drop (1024 * k) bytes) ≡ drop (1024 * (k + 1)) bytes = drop-drop 1024 (1024 * k) bytes ∙ ap (λ j. drop j bytes) far in
    grind (arith, add-one-drop, drop-cons)

-- all are written
pub placed_all : (file all numbers bytes : List ℕ) (k : ℕ) → length numbers ≤ k → with_screens file (screens_of (drop k numbers) (drop (1024 * k) bytes)) ≡ all → file ≡ all
unfolding with_screens screens_of
placed_all file all numbers bytes k end e = ap (λ ns. fold with_screen file (screens_of ns (drop (1024 * k) bytes))) (sym (drop_all k numbers end)) ∙ e

pub behind_start : (start n : ℕ) (bytes : List ℕ) → drop n (drop start bytes) ≡ drop (start + n) bytes
behind_start start n bytes = drop-drop n start bytes

-- a file that was filled has room for a screen
pub long_enough : (end : ℕ) (new old : List ℕ) → new ≡ padded end old → end ≤ length new
unfolding padded
long_enough end new old e = omega (arith, ap length e, length-append old (blanks (end - length old)), length-blanks (end - length old))

pub put_back : (len start number : ℕ) (page new put old : List ℕ) → start ≡ 1024 * number → new ≡ padded (start + 1024) old → length page ≡ 1024 → len ≡ length new → put ≡ take start new ++ (page ++ drop (start + length page) new) →
    take len (put ++ drop (length put) new) ≡ with_screen old (record { number = number; bytes = page })
unfolding with_screen
put_back len start number page new put old s e size l p = grind (arith, long_enough, length-append, length-take-le, length-drop, drop_all, append-nil, take_all)

pub page_of : (new file numbers bytes : List ℕ) (k d : ℕ) (r : List ℕ) (ns : List ℕ) → ns ≡ numbers → r ≡ bytes →
    new ≡ with_screen file (record { number = get_or ns k d; bytes = take (1024 * k + 1024 - 1024 * k) (drop (1024 * k) r) }) →
    new ≡ with_screen file (record { number = get_or numbers k d; bytes = take 1024 (drop (1024 * k) bytes) })
page_of new file numbers bytes k d r ns a b e =
    let n : 1024 * k + 1024 - 1024 * k ≡ 1024 = omega arith in
    e ∙ ap (λ xs. with_screen file (record { number = get_or xs k d; bytes = take (1024 * k + 1024 - 1024 * k) (drop (1024 * k) r) })) a
    ∙ ap (λ xs. with_screen file (record { number = get_or numbers k d; bytes = take (1024 * k + 1024 - 1024 * k) (drop (1024 * k) xs) })) b
    ∙ ap (λ j. with_screen file (record { number = get_or numbers k d; bytes = take j (drop (1024 * k) bytes) })) n
