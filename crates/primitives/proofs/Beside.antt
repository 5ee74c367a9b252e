-- An index that knows of a write holds for the memory after it. Cells of the system by their addresses: STATE 16,
-- BASE 18, >IN 20, DP 28, LAST 30, HLD 36, VOC-LINK 52.
use Rattle.std.proofs.Common.{◌≡◌, ℕ, ◌+◌, ◌-◌, ◌%◌, ◌<◌, ◌≤◌, List, [], ◌∷◌, length, map, arith, ◌∙◌, IsTrue, length-append, subst, sym, true}
use Rattle.std.specs.Prelude.{Result, Ok}
use Rattle.std.proofs.lemmas.List.{length-map}
use Rattle.std.proofs.lemmas.Grind.{common_steps}
use Rattle.cells.specs.Cell.{wrap, difference, is_negative}
use Rattle.memory.specs.Bytes.{byte, cell, cell_bytes, put_byte, put_cell, put_bytes, PutCell, PutBytes, written}
use Rattle.memory.proofs.Ranges.{length-bytes}
use Rattle.compiling_words.specs.Code.{runtime}
use Rattle.compiling_words.specs.declared.laying.Full.{Full}
use Rattle.compiling_words.specs.Definitions.{ended, IsEnded}
use Rattle.dictionary.specs.Laying.{laid_at}
use Rattle.dictionary.specs.Newest.{newest_count, revealed}
use Rattle.dictionary.proofs.Pieces.{length-cell_bytes}
use Rattle.input_source.specs.declared.words.Stream.{Stream}
use Rattle.input_source.specs.declared.words.Word.{Word}
use Rattle.input_source.specs.declared.placing.TooLong.{TooLong}
use Rattle.input_source.specs.Placing.{counted, with_word, IsPlaced}
use Rattle.input_source.specs.Words.{bytes_in}
use Rattle.number_text.specs.declared.base.BadBase.{BadBase}
use Rattle.number_text.specs.Base.{has_base}
use Rattle.number_text.specs.Digits.{is_base, byte_of, expansion}
use Rattle.number_text.specs.Picture.{held, with_digit, signed_picture, with_digits, IsDigitPictured, AreDigitsPictured}
use Rattle.number_text.proofs.Expansions.{count_most}
use Rattle.name_index.specs.declared.index.NameIndex.{NameIndex}
use Rattle.name_index.specs.Watch.{AgreeBeside}
use Rattle.name_index.specs.Index.{Holds}
use Rattle.name_index.proofs.Writes.{beside_byte, beside_cell, beside_bytes, holds_system_cell}

-- what an index is after it learned of n addresses from at on
abbrev pub IsTold : ℕ → ℕ → NameIndex → NameIndex → Type 0
IsTold at n old new = (limit : ℕ) (m other : List ℕ) → AgreeBeside at n m other → Holds limit old m → Holds limit new other

-- a write within the n addresses from at on
beside_within : (at n place j k : ℕ) (m other : List ℕ) → place ≡ wrap (at + j) → j + k ≤ n → AgreeBeside place k m other → AgreeBeside at n m other
beside_within at n place j k m other e h s a b =
    s a (λ i lt q. b (j + i) (omega (arith, h, lt)) (omega (arith, e, q)))

-- a byte held before a picture
held_told : (limit : ℕ) (index new : NameIndex) (m : List ℕ) (place b : ℕ) → place ≡ difference (cell m 36) 1 → place < 65536
    → IsTold place 1 index new → Holds limit index m → Holds limit new (held m b)
unfolding held
held_told limit index new m place b e h told holds =
    rw (sym e) (told limit (put_cell m 36 place) (put_byte (put_cell m 36 place) place b)
    (beside_byte (put_cell m 36 place) place b h)
    (holds_system_cell limit 36 place index m (omega arith) holds))

pub held_holds : (limit : ℕ) (index new : NameIndex) (m other : List ℕ) (place b : ℕ) → other ≡ held m b → place ≡ difference (cell m 36) 1 → place < 65536
    → IsTold place 1 index new → Holds limit index m → Holds limit new other
held_holds limit index new m other place b is e h told holds = rw is (held_told limit index new m place b e h told holds)

digit_holds : (limit : ℕ) (index new : NameIndex) (m other : List ℕ) (place number : ℕ) → other ≡ with_digit m number → place ≡ difference (cell m 36) 1 → place < 65536
    → IsTold place 1 index new → Holds limit index m → Holds limit new other
unfolding with_digit
digit_holds limit index new m other place number is e h told holds =
    rw is (held_told limit index new m place (byte_of (number % cell m 18)) e h told holds)

pub digit_pictured : (limit : ℕ) (index new : NameIndex) (m other : List ℕ) (result : Result ℕ BadBase) (place number rest : ℕ) → IsDigitPictured m other number result → result ≡ Ok rest
    → place ≡ difference (cell m 36) 1 → place < 65536 → IsTold place 1 index new → Holds limit index m → Holds limit new other
digit_pictured limit index new m other result place number rest is r e h told holds =
    let p : IsDigitPictured m other number (Ok rest) = subst (λ q. IsDigitPictured m other number q) r is in
    digit_holds limit index new m other place number p.1 e h told holds

-- SIGN, of a negative cell and of another
pub minus_holds : (limit : ℕ) (index new : NameIndex) (m other : List ℕ) (place n : ℕ) → other ≡ signed_picture m n → 32768 ≤ n → place ≡ difference (cell m 36) 1 → place < 65536
    → IsTold place 1 index new → Holds limit index m → Holds limit new other
unfolding signed_picture
minus_holds limit index new m other place n is negative e h told holds =
    let t : is_negative n ≡ true = grind (arith, common_steps) in
    rw (is, t) (held_told limit index new m place 45 e h told holds)

pub plus_holds : (limit : ℕ) (index : NameIndex) (m other : List ℕ) (n : ℕ) → other ≡ signed_picture m n → n < 32768 → Holds limit index m → Holds limit index other
unfolding signed_picture
plus_holds limit index m other n is positive holds = grind (arith, common_steps)

-- the digits of a double are in the 32 bytes below the picture's old end
beside_digits : (m : List ℕ) (end base number : ℕ) → end < 65536 → IsTrue (is_base base) → number < 4294967296
    → AgreeBeside (difference end 32) 32 m (put_bytes m (difference end (length (expansion base number))) (map byte_of (expansion base number)))
beside_digits m end base number h t k =
    let n : ℕ = length (expansion base number) in
    let most : n ≤ 32 = count_most base number t k in
    let same : length (map byte_of (expansion base number)) ≡ n = length-map (expansion base number) byte_of in
    let s : AgreeBeside (difference end n) (length (map byte_of (expansion base number))) m (put_bytes m (difference end n) (map byte_of (expansion base number))) =
    beside_bytes m (difference end n) (map byte_of (expansion base number)) (omega arith) in
    beside_within (difference end 32) 32 (difference end n) (32 - n) (length (map byte_of (expansion base number))) m _ (omega (arith, h, most)) (omega (arith, most, same)) s

digits_hold : (limit : ℕ) (index new : NameIndex) (m other : List ℕ) (end place number : ℕ) → other ≡ with_digits m number → IsTrue (has_base m) → number < 4294967296
    → end ≡ cell m 36 → end < 65536 → place ≡ difference end 32 → IsTold place 32 index new → Holds limit index m → Holds limit new other
unfolding with_digits has_base
digits_hold limit index new m other end place number is t k e h p told holds =
    let a : ℕ = difference end (length (expansion (cell m 18) number)) in
    rw (is, sym e) (told limit (put_cell m 36 a) (put_bytes (put_cell m 36 a) a (map byte_of (expansion (cell m 18) number)))
    (rw p (beside_digits (put_cell m 36 a) end (cell m 18) number h t k))
    (holds_system_cell limit 36 a index m (omega arith) holds))

pub digits_pictured : (limit : ℕ) (index new : NameIndex) (m other : List ℕ) (result : Result Unit BadBase) (end place number : ℕ) (u : Unit) → AreDigitsPictured m other number result → result ≡ Ok u
    → number < 4294967296 → end ≡ cell m 36 → end < 65536 → place ≡ difference end 32 → IsTold place 32 index new → Holds limit index m → Holds limit new other
digits_pictured limit index new m other result end place number u is r k e h p told holds =
    let q : AreDigitsPictured m other number (Ok u) = subst (λ t. AreDigitsPictured m other number t) r is in
    digits_hold limit index new m other end place number q.1 q.0 k e h p told holds

-- WORD: the count, the word and a blank
length-counted : (bs : List ℕ) → length (counted bs) ≡ length bs + 2
unfolding counted
length-counted bs = omega (arith, length-append bs (32 ∷ []))

length-word : (m : List ℕ) (stream : Stream) (w : Word) → length m ≡ 65536 → w.len ≤ 255 → length (bytes_in m stream w) ≡ w.len
unfolding bytes_in
length-word m stream w l s = length-bytes m (wrap (stream.at + w.at)) w.len l (omega (arith, s))

pub word_holds : (limit : ℕ) (index new : NameIndex) (m other : List ℕ) (here n : ℕ) (stream : Stream) (w : Word) → other ≡ with_word m stream w → length m ≡ 65536 → w.len ≤ 255
    → here ≡ cell m 28 → here < 65536 → n ≡ w.len + 2 → IsTold here n index new → Holds limit index m → Holds limit new other
unfolding with_word
word_holds limit index new m other here n stream w is l s e h k told holds =
    let bs : List ℕ = counted (bytes_in m stream w) in
    let count : length bs ≡ n = length-counted (bytes_in m stream w) ∙ omega (arith, length-word m stream w l s, k) in
    rw (is, sym e) (told limit (put_cell m 20 w.next) (put_bytes (put_cell m 20 w.next) here bs)
    (beside_within here n here 0 (length bs) (put_cell m 20 w.next) _ (omega (arith, h)) (omega (arith, count)) (beside_bytes (put_cell m 20 w.next) here bs h))
    (holds_system_cell limit 20 w.next index m (omega arith) holds))

pub placed_holds : (limit : ℕ) (index new : NameIndex) (m other : List ℕ) (result : Result ℕ TooLong) (here n : ℕ) (stream : Stream) (w : Word) → IsPlaced m other stream w result → result ≡ Ok here
    → length m ≡ 65536 → here < 65536 → n ≡ w.len + 2 → IsTold here n index new → Holds limit index m → Holds limit new other
placed_holds limit index new m other result here n stream w placed r l h k told holds =
    let p : IsPlaced m other stream w (Ok here) = subst (λ q. IsPlaced m other stream w q) r placed in
    word_holds limit index new m other here n stream w p.2 l p.0 p.1 h k told holds

-- a header, the head of its chain, and LAST
pub header_holds : (limit : ℕ) (index one two : NameIndex) (m header : List ℕ) (here size head end link : ℕ) → length header ≡ size → here < 65536 → head < 65536
    → IsTold here size index one → IsTold head 2 one two → Holds limit index m
    → Holds limit two (written m (PutBytes here header ∷ PutCell 28 end ∷ PutCell head link ∷ PutCell 30 link ∷ []))
unfolding written
header_holds limit index one two m header here size head end link k h g first second holds =
    let m1 : List ℕ = put_bytes m here header in
    let m2 : List ℕ = put_cell m1 28 end in
    let m3 : List ℕ = put_cell m2 head link in
    let s1 : AgreeBeside here size m m1 = subst (λ n. AgreeBeside here n m m1) k (beside_bytes m here header h) in
    let h1 : Holds limit one m1 = first limit m m1 s1 holds in
    let h2 : Holds limit one m2 = holds_system_cell limit 28 end one m1 (omega arith) h1 in
    grind (arith, beside_cell, holds_system_cell)

-- ;
pub ended_holds : (limit : ℕ) (index one two : NameIndex) (m other : List ℕ) (here count : ℕ) → other ≡ ended m → here ≡ cell m 28 → here < 65536 → count ≡ newest_count m → count < 65536
    → IsTold here 2 index one → IsTold count 1 one two → Holds limit index m → Holds limit two other
unfolding laid_at
ended_holds limit index one two m other here count is e h f g first second holds =
    let x : ℕ = runtime m 5 in
    let m1 : List ℕ = put_bytes m here (cell_bytes x) in
    let m2 : List ℕ = put_cell m1 28 (wrap (here + length (cell_bytes x))) in
    let m3 : List ℕ = put_byte m2 count (revealed (byte m count)) in
    let s1 : AgreeBeside here 2 m m1 = subst (λ n. AgreeBeside here n m m1) (length-cell_bytes x) (beside_bytes m here (cell_bytes x) h) in
    let h1 : Holds limit one m1 = first limit m m1 s1 holds in
    let h2 : Holds limit one m2 = holds_system_cell limit 28 _ one m1 (omega arith) h1 in
    grind (arith, beside_byte, holds_system_cell)

pub definition_holds : (limit : ℕ) (index one two : NameIndex) (m other : List ℕ) (result : Result Unit Full) (room here count : ℕ) (u : Unit) → IsEnded room m other result → result ≡ Ok u
    → here ≡ cell m 28 → here < 65536 → count ≡ newest_count m → count < 65536
    → IsTold here 2 index one → IsTold count 1 one two → Holds limit index m → Holds limit two other
definition_holds limit index one two m other result room here count u is r e h f g first second holds =
    let p : IsEnded room m other (Ok u) = subst (λ q. IsEnded room m other q) r is in
    ended_holds limit index one two m other here count p.1 e h f g first second holds

pub ruleset holding = (held_holds, digit_pictured, minus_holds, plus_holds, digits_pictured, placed_holds, header_holds, definition_holds, holds_system_cell)
