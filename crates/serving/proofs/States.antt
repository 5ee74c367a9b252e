-- What a machine has beside memory, as cells.
use Rattle.std.proofs.Common.{◌≡◌, ℕ, zero, suc, ◌+◌, ◌*◌, ◌<◌, List, [], ◌∷◌, ◌++◌, Option, Some, length, take, drop, arith, refl, sym, ap, ◌∙◌, append-nil, append_assoc, get_or}
use Rattle.std.specs.List.{flat_map}
use Rattle.std.specs.Prelude.{slice_get}
use Rattle.std.proofs.lemmas.List.{drop_more, length-append, take-append-drop, take_more}
use Rattle.std.proofs.lemmas.List.Concat.{flat_map-append}
use Rattle.std.specs.Io.KnownBytes.{Appends}
use Rattle.memory.specs.Bytes.{cell_bytes}
use Rattle.inner_interpreter.specs.Sent.{AppendsPart}
use Rattle.inner_interpreter.proofs.Sending.{part_first, part_second}
use Rattle.block_buffers.specs.declared.entry.Entry.{Entry}
use Rattle.block_buffers.specs.Entries.{entry_at, unassigned_slot}
use Rattle.serving.specs.Registers.{cells_bytes, entry_cells}

two : (x : ℕ) → length (cell_bytes x) ≡ 2
unfolding cell_bytes
two x = refl

pub cells_length : (xs : List ℕ) → length (cells_bytes xs) ≡ 2 * length xs
cells_length [] = refl
cells_length (x ∷ xs) = length-append (cell_bytes x) (cells_bytes xs) ∙ omega (arith, two x, cells_length xs)

-- the next one of a list
next_taken : (i : ℕ) (xs : List ℕ) (x : ℕ) → slice_get xs i ≡ Some x → take (suc i) xs ≡ take i xs ++ x ∷ []
next_taken i [] x h = cc
next_taken zero (y ∷ ys) x h = let same : y ≡ x = cc in rw same refl
next_taken (suc i) (y ∷ ys) x h = ap (λ l. y ∷ l) (next_taken i ys x h)

-- cells that were added, and then the next
pub cells_more : (i : ℕ) (xs : List ℕ) (x : ℕ) (start cells : List ℕ) → slice_get xs i ≡ Some x → cells ≡ start ++ take i xs → cells ++ x ∷ [] ≡ start ++ take (i + 1) xs
cells_more i xs x start cells h k =
    let next : i + 1 ≡ suc i = omega arith in
    ap (λ l. l ++ x ∷ []) k ∙ append_assoc start (take i xs) (x ∷ []) ∙ ap (λ l. start ++ l) (sym (rw next (next_taken i xs x h)))

-- buffers that were added, and then the next
pub entries_more : (es : List Entry) (i : ℕ) (e : Entry) (start cells : List ℕ) → i < length es → e ≡ entry_at es i → cells ≡ start ++ flat_map entry_cells (take i es) → cells ++ entry_cells e ≡ start ++ flat_map entry_cells (take (i + 1) es)
unfolding entry_at
entries_more es i e start cells some is h =
    let d : Entry = unassigned_slot 0 in
    let same : flat_map entry_cells (take (i + 1) es) ≡ flat_map entry_cells (take i es) ++ entry_cells (get_or es i d) =
    ap (flat_map entry_cells) (take_more es i d some) ∙ flat_map-append entry_cells (take i es) (get_or es i d ∷ []) ∙ ap (λ l. flat_map entry_cells (take i es) ++ l) (append-nil (entry_cells (get_or es i d))) in
    ap (λ l. l ++ entry_cells e) h ∙ append_assoc start (flat_map entry_cells (take i es)) (entry_cells e) ∙ ap (λ v. start ++ (flat_map entry_cells (take i es) ++ entry_cells v)) is ∙ ap (λ l. start ++ l) (sym same)

-- a part of one of the pieces that were sent
pub piece_cut : (f : ℕ → List ℕ) (xs : List ℕ) (i d : ℕ) (a b c : Option (List ℕ)) → i < length xs → Appends a b (flat_map f (take i xs)) → AppendsPart b c (f (get_or xs i d)) → AppendsPart a c (flat_map f xs)
piece_cut f xs i d a b c some h k =
    let same : flat_map f xs ≡ flat_map f (take i xs) ++ (f (get_or xs i d) ++ flat_map f (drop (i + 1) xs)) =
    ap (flat_map f) (sym (take-append-drop i xs)) ∙ flat_map-append f (take i xs) (drop i xs) ∙ ap (λ l. flat_map f (take i xs) ++ flat_map f l) (drop_more xs i d some) in
    rw same (part_second a b c (flat_map f (take i xs)) (f (get_or xs i d) ++ flat_map f (drop (i + 1) xs)) h (part_first b c (f (get_or xs i d)) (flat_map f (drop (i + 1) xs)) k))

pub three_parts : (a b c d xs ys zs : List ℕ) → b ≡ a ++ xs → c ≡ b ++ ys → d ≡ c ++ zs → d ≡ a ++ (xs ++ (ys ++ zs))
three_parts a b c d xs ys zs h k l =
    l ∙ ap (λ v. v ++ zs) (k ∙ ap (λ v. v ++ ys) h) ∙ append_assoc (a ++ xs) ys zs ∙ append_assoc a xs (ys ++ zs)
