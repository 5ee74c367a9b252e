-- The whole image, and the loop over a source's words.
use Rattle.std.proofs.Common.{length-append, ◌≡◌, ℕ, ◌+◌, ◌*◌, ◌/◌, ◌<◌, ◌≤◌, ◌⊎◌, inl, inr, List, [], ◌∷◌, ◌++◌, length, take, get_or, zero, suc, refl, sym, ap, ◌∙◌, subst, arith, append_assoc, append-nil}
use Rattle.std.specs.Prelude.{false, Option, Some, None, Result, Ok, Err, slice_index}
use Rattle.colon_bodies.specs.Tokens.{Token}
use Rattle.memory.specs.Bytes.{cell_bytes}
use Rattle.colon_bodies.specs.declared.words.Half.{Half}
use Rattle.image_builder.specs.declared.state.Build.{Build}
use Rattle.image_builder.specs.declared.cause.Cause.{Cause}
use Rattle.image_builder.specs.declared.cause.Cause.TheVariants as c
use Rattle.image_builder.specs.declared.spot.Sort.{Sort}
use Rattle.image_builder.specs.declared.cause.BuildFault.{BuildFault}
use Rattle.image_builder.specs.declared.entry.Lead.{Lead}
use Rattle.image_builder.specs.declared.state.Begun.{Begun}
use Rattle.image_builder.specs.Built.{Built}
use Rattle.colon_bodies.specs.Meaning.{Sense}
use Rattle.image_builder.specs.Places.{Place}
use Rattle.image_builder.specs.Items.{Items, Nothing, item_words, controls, low, zero_bytes, items_bytes, heads_of, image, system, end_of, last_link, names, current, newest_record}
use Rattle.image_builder.specs.Names.{Name, newest_link}
use Rattle.image_builder.specs.Meanings.{name_first, sense_of}
use Rattle.image_builder.specs.Stages.{Stage, Whole, IsFront}
use Rattle.image_builder.specs.Faults.{cause_at, IsFault}
use Rattle.image_builder.proofs.Applying.{AtNumber, AtName, AtVocabulary, InBody, Applies, said}
use Rattle.image_builder.specs.Grammar.{AreSound, IsLimit}
use Rattle.colon_bodies.proofs.Cells.{length-cell}
use Rattle.image_builder.proofs.Sound.{sound_end, end_above}
use Rattle.image_builder.proofs.Imaging.{length-bytes}
use Rattle.image_builder.specs.State.{IsRead, Goes, TakenAt, all_cells}

pub cells_more : (xs : List ℕ) (i d : ℕ) → i < length xs → all_cells (take (suc i) xs) ≡ all_cells (take i xs) ++ cell_bytes (get_or xs i d)
cells_more (x ∷ xs) (suc i) d h = ap (λ l. cell_bytes x ++ l) (cells_more xs i d (omega arith)) ∙ sym (append_assoc (cell_bytes x) (all_cells (take i xs)) (cell_bytes (get_or xs i d)))
cells_more xs i d h = grind (arith, append-nil, append_assoc)

-- the runtime cells
pub cells_low : (n k : ℕ) (xs : List ℕ) (f : ℕ → ℕ) → n ≤ length xs → ((i : ℕ) → slice_index xs i ≡ f (k + i)) → all_cells (take n xs) ≡ low (λ a. f (a / 2)) (2 * k) n
cells_low (suc n) k (x ∷ xs) f h e =
    let a : x ≡ f (2 * k / 2) = e 0 ∙ ap f (omega arith) in
    let m : 2 * (k + 1) ≡ 2 * k + 2 = omega arith in
    ap (λ v. cell_bytes v ++ all_cells (take n xs)) a
    ∙ ap (λ l. cell_bytes (f (2 * k / 2)) ++ l) (cells_low n (k + 1) xs f (omega arith) (λ i. e (suc i) ∙ ap f (omega arith)) ∙ ap (λ p. low (λ a. f (a / 2)) p n) m)
cells_low n k xs f h e = grind arith

-- the system's cells
pub system_cells : (t : Items) (end last voc record_at head0 head1 head2 head3 : ℕ) → end ≡ end_of t → last ≡ last_link (names t) → voc ≡ current t → record_at ≡ newest_record t → head0 ≡ newest_link (names t) 42 0 → head1 ≡ newest_link (names t) 42 1 → head2 ≡ newest_link (names t) 42 2 → head3 ≡ newest_link (names t) 42 3 → all_cells (0 ∷ 0 ∷ 0 ∷ 0 ∷ 0 ∷ 0 ∷ 0 ∷ 0 ∷ 0 ∷ 10 ∷ 0 ∷ 0 ∷ 0 ∷ 0 ∷ end ∷ last ∷ voc ∷ voc ∷ 0 ∷ 0 ∷ 0 ∷ head0 ∷ head1 ∷ head2 ∷ head3 ∷ 0 ∷ record_at ∷ end ∷ 0 ∷ 0 ∷ 0 ∷ 0 ∷ []) ≡ low (system t) 0 32
system_cells t end last voc record_at head0 head1 head2 head3 a b d e f g h i = rw (a, b, d, e, f, g, h, i) refl

in_a_row : (p q z b n0 n1 n2 n3 n4 : List ℕ) → n0 ≡ [] → n1 ≡ n0 ++ p → n2 ≡ n1 ++ q → n3 ≡ n2 ++ z → n4 ≡ n3 ++ b → n4 ≡ p ++ (q ++ (z ++ b))
in_a_row p q z b n0 n1 n2 n3 n4 e0 e1 e2 e3 e4 = grind (arith, append_assoc)

pub image_laid : (t : Items) (n0 n1 n2 n3 n4 more : List ℕ) → n0 ≡ [] → n1 ≡ n0 ++ low (system t) 0 32 → n2 ≡ n1 ++ low (λ a. controls t (a / 2)) 0 32 → n3 ≡ n2 ++ zero_bytes 128 → n4 ≡ n3 ++ more → more ≡ items_bytes (heads_of t) t false → n4 ≡ image t
image_laid t n0 n1 n2 n3 n4 more e0 e1 e2 e3 e4 m =
    in_a_row (low (system t) 0 32) (low (λ a. controls t (a / 2)) 0 32) (zero_bytes 128) (items_bytes (heads_of t) t false) n0 n1 n2 n3 n4 e0 e1 e2 e3 (e4 ∙ ap (λ l. n3 ++ l) m)

-- nothing is built yet
zero_at : (n i : ℕ) → slice_index (zero_bytes n) i ≡ 0
zero_at (suc n) (suc i) = zero_at n i
zero_at n i = grind arith

pub no_runtime : (xs : List ℕ) → xs ≡ zero_bytes 256 → slice_index xs ≡ controls Nothing
no_runtime xs e = ap slice_index e ∙ (λ i k. zero_at 256 k i)

pub length-zeros : (n : ℕ) → length (zero_bytes n) ≡ n
length-zeros zero = refl
length-zeros (suc n) = ap suc (length-zeros n)

pub nothing_built : {limit : ℕ} (b : Build) → b.image.items ≡ [] → b.names.items ≡ [] → b.runtime.items ≡ zero_bytes 256 → b.current ≡ 42 → b.newest_record ≡ 42 → b.boot ≡ None → b.limit ≡ limit → IsLimit limit → Built limit b Nothing
nothing_built b i n r v w o l few = grind (arith, no_runtime, length-zeros)

pub read_on : {limit : ℕ} (b new : Build) (x y : Begun) (done : List Place) (w : Place) (r : IsRead limit b x done) → Goes limit new y r.items r.words w → IsRead limit new y (done ++ w ∷ [])
read_on b new x y done w r o = grind (arith, append_assoc)

pub is_front : {limit : ℕ} (b : Build) (x : Begun) (done : List Place) (r : IsRead limit b x done) → IsFront limit done r.items r.words r.stage
is_front b x done r = let i = r.is in record { is = r.front; sound = i.sound; begun = i.begun }

-- no word has a cause of a source's end
number_never : (limit : ℕ) (t : Items) (n : ℕ) (sort : Sort) → (AtNumber limit t n sort c.EndsInside → ⊥) × (AtNumber limit t n sort c.NoBoot → ⊥)
number_never limit t n sort = grind arith

name_never : (limit : ℕ) (t : Items) (w : Place) (l : Lead) → (AtName limit t w l c.EndsInside → ⊥) × (AtName limit t w l c.NoBoot → ⊥)
name_never limit t w l = grind arith

vocabulary_never : (sort : Sort) → (AtVocabulary sort c.EndsInside → ⊥) × (AtVocabulary sort c.NoBoot → ⊥)
vocabulary_never sort = grind arith

abbrev pub IsOfWord : Result Token Cause → Type 0
IsOfWord (Ok w) = Unit {0}
IsOfWord (Err e) = (e ≡ c.Misplaced) ⊎ (e ≡ c.Unknown)

first_cause : (h : Half) (o : Option Name) (x : Sense) → IsOfWord (name_first h o x)
first_cause h o x = grind arith

pub sense_cause : (h : Half) (o : Option Name) (x : Sense) → IsOfWord (sense_of h o x)
sense_cause h o x = grind (arith, first_cause)

body_never : (limit : ℕ) (rt : ℕ → ℕ) (at : ℕ) (before : List Token) (m : Result Token Cause) → IsOfWord m → (InBody rt at limit before m c.EndsInside → ⊥) × (InBody rt at limit before m c.NoBoot → ⊥)
body_never limit rt at before m x5 = grind arith

never : (limit : ℕ) (t : Items) (stage : Stage) (w : Place) (after : List Place) → (Applies limit t stage w after c.EndsInside → ⊥) × (Applies limit t stage w after c.NoBoot → ⊥)
never limit t stage w after = grind (arith, number_never, name_never, vocabulary_never, body_never, sense_cause)

-- the fault of a source
fault_is : (limit : ℕ) (source before after : List Place) (w : Place) (t : Items) (ws : List Place) (stage : Stage) (last screen offset : ℕ) (e : Cause) → source ≡ before ++ w ∷ after → screen ≡ w.screen → offset ≡ w.offset → IsFront limit before t ws stage → cause_at limit t stage w after ≡ Some e → IsFault limit source last screen offset e
fault_is limit source before after w t ws stage last screen offset c.OutOfMemory q a b f x = tt
fault_is limit source before after w t ws stage last screen offset c.EndsInside q a b f x = absurd ((never limit t stage w after).0 (said limit before t ws stage w after c.EndsInside f x))
fault_is limit source before after w t ws stage last screen offset c.NoBoot q a b f x = absurd ((never limit t stage w after).1 (said limit before t ws stage w after c.NoBoot f x))
fault_is limit source before after w t ws stage last screen offset _ q a b f x = (before, w, after, t, ws, stage, q, a, b, f, x)

memory_fault : (limit : ℕ) (source : List Place) (last screen offset : ℕ) (e : Cause) → e ≡ c.OutOfMemory → IsFault limit source last screen offset e
memory_fault limit source last screen offset e q = subst (λ x. IsFault limit source last screen offset x) (sym q) tt

pub stops : {limit : ℕ} (b new : Build) (x : Begun) (source done after : List Place) (w : Place) (last : ℕ) (f : BuildFault) (r : IsRead limit b x done) → source ≡ done ++ w ∷ after → TakenAt limit r.items r.words r.stage w after (Err f) new → IsFault limit source last f.screen f.offset f.cause
stops {limit} b new x source done after w last f r q (inl m) = memory_fault limit source last f.screen f.offset f.cause m
stops {limit} b new x source done after w last f r q (inr (inl h)) =
    fault_is limit source done after w r.items r.words r.stage last f.screen f.offset f.cause q h.screen h.offset (is_front b x done r) h.cause
stops {limit} b new x source done after w last f r q (inr (inr h)) =
    let i = r.is in
    fault_is limit source (item_words r.items) (w ∷ after) h.number r.items [] Whole last f.screen f.offset f.cause
    (q ∙ ap (λ l. l ++ w ∷ after) (r.front ∙ ap (λ l. item_words r.items ++ l) h.is) ∙ append_assoc (item_words r.items) (h.number ∷ []) (w ∷ after))
    h.screen h.offset (record { is = sym (append-nil (item_words r.items)); sound = i.sound; begun = refl }) h.cause

-- an image ends where its items do
pub length-low : (f : ℕ → ℕ) (at n : ℕ) → length (low f at n) ≡ 2 * n
length-low f at zero = refl
length-low f at (suc n) = omega (arith, length-append (cell_bytes (f at)) (low f (at + 2) n), length-cell (f at), length-low f (at + 2) n)

pub image_size : (limit : ℕ) (t : Items) → 256 ≤ limit → AreSound limit t → (256 ≤ length (image t)) × (length (image t) ≤ limit)
image_size limit t few h =
    let a = low (system t) 0 32 in
    let b = low (λ x. controls t (x / 2)) 0 32 in
    let z = zero_bytes 128 in
    let v = items_bytes (heads_of t) t false in
    let e = sound_end limit t few h in
    let l : length (image t) ≡ end_of t =
    omega (arith, length-append a (b ++ (z ++ v)), length-append b (z ++ v), length-append z v, length-low (system t) 0 32, length-low (λ x. controls t (x / 2)) 0 32, length-zeros 128, length-bytes (heads_of t) t false) in
    (omega (arith, l, end_above t), omega (arith, l, e))
