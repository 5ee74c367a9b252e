use Rattle.std.proofs.Common.{◌≡◌, ◌∙◌, ℕ, ◌*◌, ◌<◌, List, [], ◌∷◌, ◌++◌, length, take, drop, Bool, true, ◌&&◌, nat_lt, length-take-le, length-drop, take-append-drop, arith, Ok, Err, Result, refl, ap, sym, subst}
use Rattle.std.specs.Prelude.{All}
use Rattle.std.specs.List.{list_all}
use Rattle.std.proofs.lemmas.List.Elements.{All-nil, All-cons}
use Rattle.screen_text.specs.declared.cause.TextFault.{TextFault}
use Rattle.screen_text.specs.Escapes.{is_byte}
use Rattle.screen_text.specs.Screens.{IsWritable, AreWritable, text_of, screens_of, numbers_of, bytes_of}
use Rattle.screen_text.specs.Reading.{State, IsRead, nothing, read, text_lines, whole}
use Rattle.screen_text.proofs.Good.{IsGood, IsGoodText, good_texts, good_nothing, length-padded, padded-bytes}
use Rattle.screen_text.proofs.Kept.{reread}
use Rattle.screen_text.proofs.Rereading.{all-front, all-back}

pub numbers-cut : (numbers bytes : List ℕ) → numbers_of (screens_of numbers bytes) ≡ numbers
unfolding numbers_of screens_of
numbers-cut [] bytes = refl
numbers-cut (n ∷ numbers) bytes = ap (λ ns. n ∷ ns) (numbers-cut numbers (drop 1024 bytes))

pub bytes-cut : (numbers bytes : List ℕ) → length bytes ≡ 1024 * length numbers → bytes_of (screens_of numbers bytes) ≡ bytes
unfolding bytes_of screens_of
bytes-cut [] [] size = refl
bytes-cut [] (b ∷ bytes) size = absurd (omega arith)
bytes-cut (n ∷ numbers) bytes size =
    let rest : length (drop 1024 bytes) ≡ 1024 * length numbers = omega (arith, length-drop 1024 bytes) in
    ap (λ bs. take 1024 bytes ++ bs) (bytes-cut numbers (drop 1024 bytes) rest) ∙ take-append-drop 1024 bytes

both : (n : ℕ) (rest : Bool) → (nat_lt n 65536 && rest) ≡ true → (n < 65536) × (rest ≡ true)
both n rest e = (grind arith, grind arith)

writable-cut : (numbers bytes : List ℕ) → list_all (λ n. nat_lt n 65536) numbers ≡ true → length bytes ≡ 1024 * length numbers → list_all is_byte bytes ≡ true → All IsWritable (screens_of numbers bytes)
unfolding screens_of
writable-cut [] bytes low size text = All-nil IsWritable
writable-cut (n ∷ numbers) bytes low size text =
    let t : (n < 65536) × (list_all (λ m. nat_lt m 65536) numbers ≡ true) = both n (list_all (λ m. nat_lt m 65536) numbers) low in
    let rest : length (drop 1024 bytes) ≡ 1024 * length numbers = omega (arith, length-drop 1024 bytes) in
    let first : IsWritable (record { number = n; bytes = take 1024 bytes }) =
    record { number = t.0; size = length-take-le 1024 bytes (omega arith); bytes = all-front is_byte 1024 bytes text } in
    All-cons IsWritable (record { number = n; bytes = take 1024 bytes }) (screens_of numbers (drop 1024 bytes)) first (writable-cut numbers (drop 1024 bytes) t.1 rest (all-back is_byte 1024 bytes text))

-- what a text is read as are screens that can be written
pub record IsReturned (numbers bytes : List ℕ) : Type 0 where
  pub writable : AreWritable (screens_of numbers bytes)
  pub numbers_same : numbers_of (screens_of numbers bytes) ≡ numbers
  pub bytes_same : bytes_of (screens_of numbers bytes) ≡ bytes
  pub size : length bytes ≡ 1024 * length numbers

good-returned : (s : State) → IsGood s → IsReturned s.numbers (whole s)
unfolding whole
good-returned s h = grind (arith, length-padded, padded-bytes, writable-cut, numbers-cut, bytes-cut)

returned-by : (r : Result State TextFault) → IsGoodText r → (numbers bytes : List ℕ) → IsRead r numbers bytes → IsReturned numbers bytes
returned-by (Ok s) good numbers bytes h = subst (λ ns. IsReturned ns bytes) (sym h.0) (subst (IsReturned s.numbers) (sym h.1) (good-returned s good))
returned-by (Err fault) good numbers bytes h = absurd h

pub returned : (text numbers bytes : List ℕ) → IsRead (read text) numbers bytes → IsReturned numbers bytes
unfolding read
returned text numbers bytes h = returned-by (read text) (good_texts 1 nothing (text_lines text) good_nothing) numbers bytes h

-- and the text of these is read as the same
pub same_again : (text numbers bytes : List ℕ) → IsRead (read text) numbers bytes → IsRead (read (text_of (screens_of numbers bytes))) numbers bytes
same_again text numbers bytes h = grind (arith, returned, reread)

-- there are 1,024 bytes for each number
pub read_size : (text : List ℕ) (s : State) (numbers bytes : List ℕ) → read text ≡ Ok s → numbers ≡ s.numbers → bytes ≡ whole s → length bytes ≡ 1024 * length numbers
read_size text s numbers bytes e n b = (returned text numbers bytes (rw e (n, b))).size
