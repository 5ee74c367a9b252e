use Rattle.std.proofs.Common.{◌≡◌, ◌∙◌, ℕ, suc, ◌+◌, ◌-◌, ◌*◌, ◌<◌, ◌≤◌, List, [], ◌∷◌, ◌++◌, length, take, drop, map, flat_map, get_or, true, false, Ok, Err, Result, append_assoc, append-nil, length-take-le, drop-cons, add-one, Bor, arith, refl, ap, sym}
use Rattle.std.proofs.lemmas.List.{drop-drop, drop_all, take_all}
use Rattle.screen_text.specs.declared.cause.Cause.{Cause}
use Rattle.screen_text.specs.declared.cause.TextFault.{TextFault}
use Rattle.screen_text.specs.Bytes.{is_blank, trimmed}
use Rattle.screen_text.specs.Headings.{listed_line, listed_lines}
use Rattle.screen_text.specs.Screens.{line_text, screen_lines}
use Rattle.screen_text.specs.Reading.{State, Refuses, RefusesText, with_text, with_texts, then_read}

-- if the rest of a screen is blank no line comes any more, and else the next
pub lines_end : (n : ℕ) (bytes : List ℕ) → is_blank bytes ≡ true → flat_map line_text (screen_lines n bytes) ≡ []
unfolding screen_lines
lines_end n bytes e = grind arith

pub lines_more : (n : ℕ) (bytes : List ℕ) → is_blank bytes ≡ false →
    flat_map line_text (screen_lines (suc n) bytes) ≡ line_text (trimmed (take 64 bytes)) ++ flat_map line_text (screen_lines n (drop 64 bytes))
unfolding screen_lines
lines_more n bytes e = rw e refl

-- a line that is taken, and one that is refused
pub texts_more : (line : ℕ) (s t : State) (text : List ℕ) (texts : List (List ℕ)) → with_text s text ≡ Ok t → with_texts line s (text ∷ texts) ≡ with_texts (line + 1) t texts
unfolding with_texts
texts_more line s t text texts e = ap (λ r. then_read line r (λ u. with_texts (line + 1) u texts)) e

pub texts_end : (line : ℕ) (s : State) (text : List ℕ) (texts : List (List ℕ)) (cause : Cause) → with_text s text ≡ Err cause → with_texts line s (text ∷ texts) ≡ Err (record { line = line; cause = cause })
unfolding with_texts
texts_end line s text texts cause e = ap (λ r. then_read line r (λ u. with_texts (line + 1) u texts)) e

pub taken_front : (bytes : List ℕ) → 64 < length bytes → 64 ≡ length (take 64 bytes)
taken_front bytes long = sym (length-take-le 64 bytes (omega arith))

pub taken_all : (bytes : List ℕ) → length bytes ≤ 64 → bytes ≡ take 64 bytes
taken_all bytes short = sym (take_all 64 bytes short)

-- the lines of a screen, of which `row` are added to what existed
pub rows_end : (text all : List ℕ) (n : ℕ) (bytes : List ℕ) → text ++ flat_map line_text (screen_lines n bytes) ≡ all → is_blank bytes ≡ true → text ≡ all
rows_end text all n bytes e blank = sym (append-nil text) ∙ ap (λ r. text ++ r) (sym (lines_end n bytes blank)) ∙ e

pub rows_none : (text : List ℕ) (row : ℕ) (bytes all : List ℕ) → 16 ≤ row → text ++ flat_map line_text (screen_lines (16 - row) bytes) ≡ all → text ≡ all
unfolding screen_lines
rows_none text row bytes all done e = grind (arith, append-nil)

pub rows_more : (text all bytes rest line : List ℕ) (row : ℕ) → row < 16 → text ++ flat_map line_text (screen_lines (16 - row) (drop (64 * row) bytes)) ≡ all →
    is_blank rest ≡ false → rest ≡ drop (64 * row) bytes → line ≡ trimmed (take 64 rest) →
    (text ++ line_text line) ++ flat_map line_text (screen_lines (16 - (row + 1)) (drop (64 * (row + 1)) bytes)) ≡ all
rows_more text all bytes rest line row within e blank r l =
    let n : 16 - row ≡ suc (16 - (row + 1)) = omega arith in
    let k : 64 * row + 64 ≡ 64 * (row + 1) = omega arith in
    let skipped : drop 64 rest ≡ drop (64 * (row + 1)) bytes = ap (drop 64) r ∙ drop-drop 64 (64 * row) bytes ∙ ap (λ j. drop j bytes) k in
    grind (arith, append_assoc, lines_more)

fronted : (bs : List (Bor (List ℕ))) (i : ℕ) (d : Bor (List ℕ)) → i < length bs → map (λ x. x.now) (drop i bs) ≡ (get_or bs i d).now ∷ map (λ x. x.now) (drop (i + 1) bs)
fronted bs i d below = ap (map (λ x. x.now)) (drop-cons bs i d below) ∙ ap (λ k. (get_or bs i d).now ∷ map (λ x. x.now) (drop k bs)) (sym (add-one i))

-- what all lines come to is what those come to that aren't taken yet
pub takes_more : (r : Result State TextFault) (s t : State) (bs : List (Bor (List ℕ))) (i : ℕ) (d : Bor (List ℕ)) → i < length bs → r ≡ with_texts (i + 1) s (map (λ x. x.now) (drop i bs)) →
    with_text s (get_or bs i d).now ≡ Ok t → r ≡ with_texts (i + 1 + 1) t (map (λ x. x.now) (drop (i + 1) bs))
takes_more r s t bs i d below e took = grind (arith, fronted, texts_more)

pub takes_end : (r : Result State TextFault) (s : State) (cause : Cause) (bs : List (Bor (List ℕ))) (i : ℕ) (d : Bor (List ℕ)) → i < length bs → r ≡ with_texts (i + 1) s (map (λ x. x.now) (drop i bs)) →
    Refuses (with_text s (get_or bs i d).now) cause → RefusesText r (record { line = i + 1; cause = cause })
takes_end r s cause bs i d below e x8 = grind (arith, fronted, texts_end)

pub takes_all : (r : Result State TextFault) (s : State) (bs : List (Bor (List ℕ))) (i : ℕ) → length bs ≤ i → r ≡ with_texts (i + 1) s (map (λ x. x.now) (drop i bs)) → r ≡ Ok s
unfolding with_texts
takes_all r s bs i end e = e ∙ ap (λ l. with_texts (i + 1) s (map (λ x. x.now) l)) (drop_all i bs end)

-- what is listed of all lines is what is listed already, and what is listed of the others
lines_listed : (line : ℕ) (text : List ℕ) (texts : List (List ℕ)) → listed_lines line (text ∷ texts) ≡ listed_line line text ++ listed_lines (line + 1) texts
unfolding listed_lines
lines_listed line text texts = refl

pub lists_more : (all listing : List ℕ) (bs : List (Bor (List ℕ))) (i : ℕ) (d : Bor (List ℕ)) → i < length bs → listing ++ listed_lines (i + 1) (map (λ x. x.now) (drop i bs)) ≡ all →
    (listing ++ listed_line (i + 1) (get_or bs i d).now) ++ listed_lines (i + 1 + 1) (map (λ x. x.now) (drop (i + 1) bs)) ≡ all
lists_more all listing bs i d below e = grind (arith, fronted, lines_listed, append_assoc)

pub lists_all : (all listing : List ℕ) (bs : List (Bor (List ℕ))) (i : ℕ) → length bs ≤ i → listing ++ listed_lines (i + 1) (map (λ x. x.now) (drop i bs)) ≡ all → listing ≡ all
unfolding listed_lines
lists_all all listing bs i end e =
    sym (append-nil listing) ∙ ap (λ l. listing ++ listed_lines (i + 1) (map (λ x. x.now) l)) (sym (drop_all i bs end)) ∙ e
