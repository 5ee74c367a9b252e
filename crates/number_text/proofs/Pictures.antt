use Rattle.std.proofs.Common.{◌≡◌, ◌≢◌, ℕ, suc, ◌+◌, ◌-◌, ◌<◌, ◌≤◌, List, [], ◌∷◌, ◌++◌, ◌∙◌, length, length-append, take, drop, map, reverse, get_or, refl, ap, arith, sym}
use Rattle.std.proofs.lemmas.List.{length-set, length-reverse, reverse-reverse, reverse-append, map-append, length-map, set_comm, get_or-set_same, get_or-set_other, get_or-take}
use Rattle.std.proofs.Math.Seq.{take-suc}
use Rattle.cells.specs.Cell.{wrap, difference}
use Rattle.memory.specs.Bytes.{byte, bytes, put_byte, put_bytes}
use Rattle.memory.proofs.Puts.{put_bytes-append}
use Rattle.memory.proofs.Ranges.{byte-bytes}
use Rattle.number_text.specs.Digits.{byte_of}
use Rattle.number_text.specs.Picture.{put_down}

length-put_byte : (m : List ℕ) (a b : ℕ) → length (put_byte m a b) ≡ length m
unfolding put_byte
length-put_byte m a b = length-set m a b

length-put_down : (m : List ℕ) (end : ℕ) (ds : List ℕ) → length (put_down m end ds) ≡ length m
unfolding put_down
length-put_down m end [] = refl
length-put_down m end (d ∷ ds) = grind (arith, length-put_byte, length-put_down (put_byte m (difference end 1) (byte_of d)) (difference end 1) ds)

-- a byte stays that is more than the count of digits below the end
byte-put_down : (m : List ℕ) (end a below : ℕ) (ds : List ℕ) → a < 65536 → end ≡ wrap (a + below) → below ≤ 65536 → length ds < below →
    byte (put_down m end ds) a ≡ byte m a
unfolding put_down byte put_byte
byte-put_down m end a below [] h e k q = refl
byte-put_down m end a below (d ∷ ds) h e k q = grind (arith, get_or-set_other, byte-put_down (put_byte m (difference end 1) (byte_of d)) (difference end 1) a (below - 1) ds h (omega arith) (omega arith) (omega arith))

bytes-more : (m : List ℕ) (a n : ℕ) → length m ≡ 65536 → a < 65536 → n < 65536 → bytes m a (suc n) ≡ bytes m a n ++ byte m (wrap (a + n)) ∷ []
unfolding bytes
bytes-more m a n l s h =
    let inside : n < length (drop a m ++ m) = omega (arith, length-append (drop a m) m) in
    let read : get_or (take (suc n) (drop a m ++ m)) n 0 ≡ byte m (wrap (a + n)) = byte-bytes m a (suc n) n l s (omega arith) (omega arith) in
    let same : get_or (take (suc n) (drop a m ++ m)) n 0 ≡ get_or (drop a m ++ m) n 0 = get_or-take (suc n) (drop a m ++ m) n 0 (omega arith) in
    take-suc (drop a m ++ m) n 0 inside ∙ ap (λ (b : ℕ). take n (drop a m ++ m) ++ b ∷ []) (sym same ∙ read)

bytes-none : (m : List ℕ) (a : ℕ) → bytes m a 0 ≡ []
unfolding bytes
bytes-none m a = refl

byte-put_byte : (m : List ℕ) (a b : ℕ) → a < length m → byte (put_byte m a b) a ≡ b
unfolding byte put_byte
byte-put_byte m a b h = get_or-set_same m a b 0 h

map-reverse_cons : (d : ℕ) (ds : List ℕ) → map byte_of (reverse (d ∷ ds)) ≡ map byte_of (reverse ds) ++ byte_of d ∷ []
map-reverse_cons d ds = ap (map byte_of) (reverse-append (d ∷ []) ds) ∙ map-append byte_of (reverse ds) (d ∷ [])

-- what was put down, the lowest digit first, reads as the digits, the highest first
put_down_shows : (m : List ℕ) (end : ℕ) (ds : List ℕ) → length m ≡ 65536 → end < 65536 → length ds < 65536 →
    bytes (put_down m end ds) (difference end (length ds)) (length ds) ≡ map byte_of (reverse ds)
unfolding put_down
put_down_shows m end [] l h k = bytes-none m (difference end 0)
put_down_shows m end (d ∷ ds) l h k =
    let place : ℕ = difference end 1 in
    let n : ℕ = length ds in
    let before : List ℕ = put_byte m place (byte_of d) in
    let after : List ℕ = put_down before place ds in
    let start : difference end (suc n) ≡ difference place n = omega arith in
    let last : wrap (difference place n + n) ≡ place = omega arith in
    let whole : length before ≡ 65536 = length-put_byte m place (byte_of d) ∙ l in
    let shown : bytes after (difference place n) n ≡ map byte_of (reverse ds) = put_down_shows before place ds whole (omega arith) (omega arith) in
    let kept : byte after place ≡ byte before place = byte-put_down before place place 65536 ds (omega arith) (omega arith) (omega arith) (omega arith) in
    let put : byte before place ≡ byte_of d = byte-put_byte m place (byte_of d) (omega arith) in
    rw start (bytes-more after (difference place n) n (length-put_down before place ds ∙ whole) (omega arith) (omega arith)
    ∙ rw (last, shown, kept, put) (sym (map-reverse_cons d ds)))

-- the same for a picture, whose digits come the highest first
pub picture_shows : (m : List ℕ) (end : ℕ) (ds : List ℕ) → length m ≡ 65536 → end < 65536 → length ds < 65536 →
    bytes (put_down m end (reverse ds)) (difference end (length ds)) (length ds) ≡ map byte_of ds
picture_shows m end ds l h k = grind (arith, length-reverse, put_down_shows, reverse-reverse)

apart : (m : List ℕ) (i j x y : ℕ) → i ≢ j → put_byte (put_byte m i x) j y ≡ put_byte (put_byte m j y) i x
unfolding put_byte
apart m i j x y h = set_comm m i j x y h

-- a byte after bytes may be put before them
put_later : (m : List ℕ) (a n p b : ℕ) (bs : List ℕ) → a < 65536 → n < 65536 → p ≡ wrap (a + n) → length bs ≤ n → put_bytes (put_byte m p b) a bs ≡ put_byte (put_bytes m a bs) p b
unfolding put_bytes
put_later m a n p b [] h k e l = refl
put_later m a n p b (c ∷ bs) h k e l = grind (arith, apart, put_later (put_byte m a c) (wrap (a + 1)) (n - 1) p b bs (omega arith) (omega arith) (omega arith) (omega arith))

put_last : (m : List ℕ) (a p b : ℕ) (bs : List ℕ) → a < 65536 → p ≡ wrap (a + length bs) → put_bytes m a (bs ++ b ∷ []) ≡ put_byte (put_bytes m a bs) p b
unfolding put_bytes
put_last m a p b bs h e = put_bytes-append m a p bs (b ∷ []) e h

-- digits that are put down, the lowest first, are as those that are put from their place on
put_down_up : (m : List ℕ) (end : ℕ) (ds : List ℕ) → end < 65536 → length ds < 65536 → put_down m end ds ≡ put_bytes m (difference end (length ds)) (map byte_of (reverse ds))
unfolding put_down put_bytes
put_down_up m end [] h k = refl
put_down_up m end (d ∷ ds) h k =
    let place : ℕ = difference end 1 in
    let n : ℕ = length ds in
    let start : difference end (suc n) ≡ difference place n = omega arith in
    let size : length (map byte_of (reverse ds)) ≡ n = length-map (reverse ds) byte_of ∙ length-reverse ds in
    let last : place ≡ wrap (difference place n + length (map byte_of (reverse ds))) = rw size (omega arith) in
    let rest : put_down (put_byte m place (byte_of d)) place ds ≡ put_bytes (put_byte m place (byte_of d)) (difference place n) (map byte_of (reverse ds)) = put_down_up (put_byte m place (byte_of d)) place ds (omega arith) (omega arith) in
    let later : put_bytes (put_byte m place (byte_of d)) (difference place n) (map byte_of (reverse ds)) ≡ put_byte (put_bytes m (difference place n) (map byte_of (reverse ds))) place (byte_of d) = put_later m (difference place n) n place (byte_of d) (map byte_of (reverse ds)) (omega arith) (omega arith) (omega arith) (omega (arith, size)) in
    rw (start, map-reverse_cons d ds) (rest ∙ later ∙ sym (put_last m (difference place n) place (byte_of d) (map byte_of (reverse ds)) (omega arith) last))

-- the same for a picture, whose digits come the highest first
pub picture_put : (m : List ℕ) (end : ℕ) (ds : List ℕ) → end < 65536 → length ds < 65536 → put_down m end (reverse ds) ≡ put_bytes m (difference end (length ds)) (map byte_of ds)
picture_put m end ds h k = grind (arith, length-reverse, put_down_up, reverse-reverse)

pub ruleset pictures = (picture_shows, picture_put)
