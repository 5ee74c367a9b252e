-- Parts of joined bytes.
use Rattle.std.proofs.Common.{◌≡◌, ℕ, zero, suc, ◌+◌, ◌-◌, ◌<◌, ◌≤◌, List, [], ◌∷◌, ◌++◌, length, arith, take, drop, refl, sym, ap, ◌∙◌, append_assoc, append-nil, subst, Option}
use Rattle.std.specs.Io.KnownBytes.{Appends}
use Rattle.memory.specs.Bytes.{cell_bytes}
use Rattle.inner_interpreter.specs.Sent.{AppendsPart}
use Rattle.inner_interpreter.proofs.Sending.{appends_both, part_first, part_second}
use Rattle.image_loader.specs.Files.{Contents, field, file, opening}
use Rattle.serving.specs.Frames.{frame, pieces}
use Rattle.std.proofs.lemmas.List.{take_all, take_rest, drop-drop, length-drop, length-take, length-append}

-- the first n bytes of two lists
pub take_joined : (n : ℕ) (a b : List ℕ) → take n (a ++ b) ≡ take n a ++ take (n - length (take n a)) b
take_joined zero a b = refl
take_joined (suc n) [] b = let e : suc n - 0 ≡ suc n = omega arith in ap (λ k. take k b) (sym e)
take_joined (suc n) (x ∷ a) b =
    let e : suc n - suc (length (take n a)) ≡ n - length (take n a) = omega arith in
    ap (λ l. x ∷ l) (take_joined n a b) ∙ ap (λ k. x ∷ (take n a ++ take k b)) (sym e)

-- without the first k
pub drop_joined : (k : ℕ) (a b : List ℕ) → drop k (a ++ b) ≡ drop k a ++ drop (k - length a) b
drop_joined zero a b = let e : 0 - length a ≡ 0 = omega arith in ap (λ k. a ++ drop k b) (sym e)
drop_joined (suc k) [] b = let e : suc k - 0 ≡ suc k = omega arith in ap (λ k. drop k b) (sym e)
drop_joined (suc k) (x ∷ a) b =
    let e : suc k - suc (length a) ≡ k - length a = omega arith in
    drop_joined k a b ∙ ap (λ i. drop k a ++ drop i b) (sym e)

pub part_joined : (n k : ℕ) (a b : List ℕ) → take n (drop k (a ++ b)) ≡ take n (drop k a) ++ take (n - length (take n (drop k a))) (drop (k - length a) b)
part_joined n k a b = ap (take n) (drop_joined k a b) ∙ take_joined n (drop k a) (drop (k - length a) b)

-- a part of a frame: of its first three bytes
pub part_of_frame : (kind n : ℕ) (body : List ℕ) (a b : Option (List ℕ)) → length body ≡ n → AppendsPart a b (kind ∷ cell_bytes n) → AppendsPart a b (frame kind body)
unfolding frame
part_of_frame kind n body a b e h =
    let P : ℕ → Type 0 = λ i. AppendsPart a b ((kind ∷ cell_bytes i) ++ body) in subst P (sym e) (part_first a b (kind ∷ cell_bytes n) body h)

-- or of its body
pub part_in_frame : (kind n : ℕ) (body : List ℕ) (a b c : Option (List ℕ)) → length body ≡ n → Appends a b (kind ∷ cell_bytes n) → AppendsPart b c body → AppendsPart a c (frame kind body)
unfolding frame
part_in_frame kind n body a b c e h k =
    let P : ℕ → Type 0 = λ i. AppendsPart a c ((kind ∷ cell_bytes i) ++ body) in subst P (sym e) (part_second a b c (kind ∷ cell_bytes n) body h k)

pub part_length : (n k : ℕ) (l : List ℕ) → k + n ≤ length l → length (take n (drop k l)) ≡ n
part_length n k l h = grind (arith, length-take, length-drop)

-- a span and what comes after it
pub span_joined : (a b c d : List ℕ) → a ++ b ≡ d → a ++ (b ++ c) ≡ d ++ c
span_joined a b c d h = sym (append_assoc a b c) ∙ ap (λ l. l ++ c) h

pub alone : (a : List ℕ) → a ++ [] ≡ a
alone a = append-nil a

pub span_length : (a b d : List ℕ) (n : ℕ) → a ++ b ≡ d → length a + length b ≡ n → length d ≡ n
span_length a b d n h k = ap length (sym h) ∙ length-append a b ∙ k

-- all bytes
pub whole_part : (n : ℕ) (l : List ℕ) → length l ≡ n → take n (drop 0 l) ≡ l
whole_part n l h = take_all n l (omega (arith, h))

-- after k bytes, and then n
pub drop_further : (k n : ℕ) (l : List ℕ) → drop n (drop k l) ≡ drop (k + n) l
drop_further k n l = drop-drop n k l

-- all that is left
pub rest_whole : (k : ℕ) (l : List ℕ) → take (length l - k) (drop k l) ≡ drop k l
rest_whole k l = take_rest l k

pub joined_alone : (a : List ℕ) → a ++ ([] ++ []) ≡ a
joined_alone a = append-nil a

-- a full frame, and then the others
pub next_pieces : (full kind skip : ℕ) (l : List ℕ) (a b c : Option (List ℕ)) → 0 < full → Appends a b (frame kind (take 2048 (drop skip l))) → Appends b c (pieces (full - 1) kind (drop (skip + 2048) l)) → Appends a c (pieces full kind (drop skip l))
unfolding pieces
next_pieces zero kind skip l a b c some h k = absurd (omega (arith, some))
next_pieces (suc n) kind skip l a b c some h k =
    let e : suc n - 1 ≡ n = omega arith in
    let rest : Appends b c (pieces n kind (drop 2048 (drop skip l))) = subst (λ v. Appends b c (pieces n kind v)) (sym (drop_further skip 2048 l)) (subst (λ i. Appends b c (pieces i kind (drop (skip + 2048) l))) e k) in
    appends_both a b c (frame kind (take 2048 (drop skip l))) (pieces n kind (drop 2048 (drop skip l))) h rest

pub next_cut : (full kind skip : ℕ) (l : List ℕ) (a b c : Option (List ℕ)) → 0 < full → Appends a b (frame kind (take 2048 (drop skip l))) → AppendsPart b c (pieces (full - 1) kind (drop (skip + 2048) l)) → AppendsPart a c (pieces full kind (drop skip l))
unfolding pieces
next_cut zero kind skip l a b c some h k = absurd (omega (arith, some))
next_cut (suc n) kind skip l a b c some h k =
    let e : suc n - 1 ≡ n = omega arith in
    let rest : AppendsPart b c (pieces n kind (drop 2048 (drop skip l))) = subst (λ v. AppendsPart b c (pieces n kind v)) (sym (drop_further skip 2048 l)) (subst (λ i. AppendsPart b c (pieces i kind (drop (skip + 2048) l))) e k) in
    part_second a b c (frame kind (take 2048 (drop skip l))) (pieces n kind (drop 2048 (drop skip l))) h rest

pub first_cut : (full kind skip : ℕ) (l : List ℕ) (a b : Option (List ℕ)) → 0 < full → AppendsPart a b (frame kind (take 2048 (drop skip l))) → AppendsPart a b (pieces full kind (drop skip l))
unfolding pieces
first_cut zero kind skip l a b some h = absurd (omega (arith, some))
first_cut (suc n) kind skip l a b some h = part_first a b (frame kind (take 2048 (drop skip l))) (pieces n kind (drop 2048 (drop skip l))) h

pub file_joined : (a b : List ℕ) → a ++ (b ++ []) ≡ a ++ b
file_joined a b = ap (λ l. a ++ l) (append-nil b)

-- a frame of two parts
pub frame_of : (kind n : ℕ) (body : List ℕ) (a b c : Option (List ℕ)) → length body ≡ n → Appends a b (kind ∷ cell_bytes n) → Appends b c body → Appends a c (frame kind body)
unfolding frame
frame_of kind n body a b c e h k =
    let P : ℕ → Type 0 = λ i. Appends a c ((kind ∷ cell_bytes i) ++ body) in subst P (sym e) (appends_both a b c (kind ∷ cell_bytes n) body h k)

-- the file of an image: what is before the bytes of memory, and these
pub file_is : (i : Contents) (h b : List ℕ) → h ≡ opening i.buffers ++ field i.entry ++ field (length i.bytes) → b ≡ i.bytes → h ++ b ≡ file i
file_is i h b e f =
    ap (λ l. l ++ b) e ∙ ap (λ l. (opening i.buffers ++ field i.entry ++ field (length i.bytes)) ++ l) f
    ∙ ap (λ l. l ++ i.bytes) (append_assoc (opening i.buffers) (field i.entry) (field (length i.bytes)))
    ∙ append_assoc (opening i.buffers) (field i.entry ++ field (length i.bytes)) i.bytes
