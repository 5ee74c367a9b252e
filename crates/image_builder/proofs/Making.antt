-- What headers do to what was built.
use Rattle.std.proofs.Common.{◌≡◌, ◌≢◌, ℕ, ◌+◌, ◌-◌, ◌*◌, ◌<◌, ◌≤◌, ◌⊎◌, inl, inr, zero, suc, List, [], ◌∷◌, ◌++◌, length, refl, sym, ap, ◌∙◌, subst, arith, append_assoc, append-nil, length-append, get_or}
use Rattle.std.specs.Prelude.{true, false, slice_index, slice_set, take, Some}
use Rattle.std.proofs.Math.Dec.{eqb}
use Rattle.std.proofs.Math.ListN.{set}
use Rattle.std.proofs.lemmas.Bool.Decides.{eqb_tells}
use Rattle.std.proofs.lemmas.List.{get_or-set_same, get_or-set_other, length-take-le}
use Rattle.std.proofs.Math.Seq.{take-suc, take-length, set-append_seam}
use Rattle.colon_bodies.specs.Tree.{Definition}
use Rattle.memory.specs.Bytes.{cell_bytes}
use Rattle.colon_bodies.specs.Code.{whole_code}
use Rattle.memory.specs.declared.limit.TheConstants.{GREATEST_LIMIT}
use Rattle.image_builder.specs.declared.entry.Sign.TheVariants as s
use Rattle.colon_bodies.specs.Draft.{Patches}
use Rattle.image_builder.specs.declared.state.Build.{Build}
use Rattle.image_builder.specs.declared.entry.Sign.{Sign}
use Rattle.image_builder.specs.declared.entry.Entry.{Entry}
use Rattle.image_builder.specs.declared.entry.Named.{Named}
use Rattle.image_builder.specs.Places.{Place}
use Rattle.image_builder.specs.Names.{Name, entry, stored, class_of, newest_link, newest_first, found}
use Rattle.image_builder.specs.declared.entry.Kind.{Kind}
use Rattle.image_builder.specs.declared.entry.Kind.TheVariants.{Primitive, Vocabulary}
use Rattle.image_builder.specs.Items.{Item, Header, Colon, Immediate, Items, Then, end_of, current, names, new_name, head, head_size, link_of, items_bytes, heads_of, zero_bytes, own, passes, parameters, code_of, sign_of, vocabulary_bytes, newest_record, mark, controls}
use Rattle.image_builder.specs.Grammar.{AreSound}
use Rattle.image_builder.specs.Meanings.{look}
use Rattle.image_builder.specs.Built.{Built, Building, Headed}
use Rattle.image_builder.proofs.Finding.{reverse_more, head_new, head_else, no_head, heads_marked, Every, every_found}
use Rattle.image_builder.proofs.Imaging.{length-bytes, record_below, bytes_same, bytes_seam, bytes_marked}
use Rattle.image_builder.proofs.Sound.{IsName, sound_names, none_above, sound_below}

pub built_end : {limit : ℕ} (b : Build) (t : Items) → Built limit b t → length b.image.items + 256 ≡ end_of t
built_end b t h = ap (λ l. length l + 256) h.laid ∙ length-bytes (heads_of t) t false

pub building_end : (b : Build) → Building b → length b.image.items + 256 ≤ GREATEST_LIMIT
building_end b h = let e = built_end b h.items h.is in let s = sound_below b.limit h.is.limited h.items h.sound in omega arith

pub within_image : (b : Build) → Building b → (b.current ≡ 42) ⊎ ((256 ≤ b.current) × (b.current + 10 ≤ length b.image.items + 256))
within_image b h = grind (arith, built_end, sound_names, record_below)

pub class_small : (bs : List ℕ) → class_of bs < 4
class_small bs = grind arith

-- the bytes once the head of the chain is the new link field
pub headed_bytes : (limit : ℕ) (t : Items) (p : Place) (sign : Sign) (old mid : List ℕ) (at : ℕ) → AreSound limit t → old ≡ items_bytes (heads_of t) t false → at ≡ current t → (at ≡ 42 → mid ≡ old) → (at ≢ 42 → Patches old mid (at + 2 * class_of p.name - 256) (end_of t + 2)) → mid ≡ items_bytes (newest_link (new_name t p sign ∷ names t)) t false
headed_bytes limit t p sign old mid at s o a f g =
    let n = new_name t p sign in
    let h = newest_link (n ∷ names t) in
    elim ((sound_names limit t s).0) [
      | inl x ↦ f (a ∙ x) ∙ o ∙ bytes_same (heads_of t) h t false (λ v r c. head_else (names t) n v c (λ e _. let z = record_below t v r in omega (arith, e, x)))
      | inr r ↦
          let z = record_below t (current t) r in
          let k = bytes_seam (heads_of t) h t false (current t) (class_of p.name) r (class_small p.name) (λ u d e. head_else (names t) n u d e) (at + 2 * class_of p.name - 256) (omega arith) in
          g (omega arith) k.front k.back k.was (o ∙ k.old_is) k.length_is
          ∙ ap (λ x. k.front ++ (cell_bytes x ++ k.back)) (sym (head_new (names t) n))
          ∙ sym k.new_is
    ]

pub named_more : (es new : List Named) (e : Named) (n : Name) (ns : List Name) → newest_first es ≡ ns → new ≡ es ++ e ∷ [] → stored e ≡ n → newest_first new ≡ n ∷ ns
named_more es new e n ns h i j = ap newest_first i ∙ reverse_more stored es e ∙ ap (λ m. m ∷ newest_first es) j ∙ ap (λ l. n ∷ l) h

pub headed_laid : {limit : ℕ} (b : Build) (t : Items) (p : Place) (sign : Sign) (code link older class : ℕ) (es : List Named) (mid new : List ℕ) → Built limit b t → AreSound limit t → link ≡ length b.image.items + 256 → class ≡ class_of p.name → es ≡ b.names.items → older ≡ newest_link (newest_first es) b.current class → (b.current ≡ 42 → mid ≡ b.image.items) → (b.current ≢ 42 → Patches b.image.items mid (b.current + 2 * class - 256) (link + 2)) → new ≡ mid ++ head older p false code → new ≡ items_bytes (newest_link (new_name t p sign ∷ names t)) t false ++ head (link_of t p) p false code
headed_laid {limit} b t p sign code link older class es mid new h s l q r o f g n =
    let at : link ≡ end_of t = l ∙ built_end b t h in
    let k : older ≡ link_of t p = o ∙ ap (λ m. newest_link (newest_first m) b.current class) r ∙ ap (λ m. newest_link m b.current class) h.named ∙ ap (λ v. newest_link (names t) v class) h.current_is ∙ ap (λ d. newest_link (names t) (current t) d) q in
    let P : ℕ → ℕ → Type 0 = λ a d. Patches b.image.items mid (b.current + 2 * d - 256) (a + 2) in
    let g' : b.current ≢ 42 → P (end_of t) (class_of p.name) = λ ne. subst (λ a. P a (class_of p.name)) at (subst (λ d. P link d) q (g ne)) in
    n ∙ ap (λ x. mid ++ head x p false code) k ∙ ap (λ x. x ++ head (link_of t p) p false code) (headed_bytes limit t p sign b.image.items mid b.current s h.laid h.current_is f g')

pub headed_named : {limit : ℕ} (b : Build) (t : Items) (p : Place) (sign : Sign) (link : ℕ) (es : List Named) (e : Named) → Built limit b t → link ≡ length b.image.items + 256 → es ≡ b.names.items ++ e ∷ [] → stored e ≡ record { name = p.name; vocabulary = b.current; link = link + 2; immediate = false; sign = sign } → newest_first es ≡ new_name t p sign ∷ names t
headed_named b t p sign link es e h l i j = grind (arith, built_end, named_more)

-- an item of which the state but the image is as before
pub laid_more : (t : Items) (ws : List Place) (i : Item) (old new more : List ℕ) → old ≡ items_bytes (heads_of t) t false → passes i false ≡ false → heads_of (Then t ws i) ≡ heads_of t → new ≡ old ++ more → more ≡ own (heads_of t) t i false → new ≡ items_bytes (heads_of (Then t ws i)) (Then t ws i) false
laid_more t ws i old new more o p h n m = grind arith

-- a header's item, from the state after its code field
pub field_laid : {limit : ℕ} (b : Build) (t : Items) (ws : List Place) (p : Place) (k : Kind) (new more : List ℕ) → Headed limit b t p (sign_of k) (code_of k) → new ≡ b.image.items ++ more → more ≡ parameters (heads_of (Then t ws (Header p k))) t (end_of t + head_size p) k → new ≡ items_bytes (heads_of (Then t ws (Header p k))) (Then t ws (Header p k)) false
field_laid b t ws p k new more h n m = grind (arith, append_assoc)

pub zeros_more : (n : ℕ) → zero_bytes n ++ 0 ∷ [] ≡ zero_bytes (suc n)
zeros_more zero = refl
zeros_more (suc n) = ap (λ l. 0 ∷ l) (zeros_more n)

-- the heads of a vocabulary that is just made are 0
zero_cell : cell_bytes 0 ≡ zero_bytes 2
unfolding cell_bytes
zero_cell = refl

pub new_record : (limit : ℕ) (t : Items) (ws : List Place) (p : Place) → 256 ≤ limit → AreSound limit t → zero_bytes 8 ++ cell_bytes (newest_record t) ≡ vocabulary_bytes (heads_of (Then t ws (Header p Vocabulary))) (end_of t + head_size p) (newest_record t)
new_record limit t ws p e s =
    let v = end_of t + head_size p in
    let ns = names (Then t ws (Header p Vocabulary)) in
    let n = length-bytes (heads_of t) t false in
    let c : current t ≢ v = λ q. elim ((sound_names limit t s).0) [ inl x ↦ absurd (omega arith) | inr r ↦ let z = record_below t (current t) r in absurd (omega arith) ] in
    let h : (d : ℕ) → newest_link ns v d ≡ 0 = λ d. no_head ns v d (c, none_above limit t v s (omega arith) (omega arith)) in
    grind (arith, zero_cell)

ext : (f g : ℕ → ℕ) → ((k : ℕ) → f k ≡ g k) → f ≡ g
ext f g h = λ i k. h k i

pub runtime_more : (r : List ℕ) (t : Items) (ws : List Place) (p : Place) (n x : ℕ) → slice_index r ≡ controls t → n < length r → x ≡ end_of t + (5 + length p.name) → slice_index (slice_set r n x) ≡ controls (Then t ws (Header p (Primitive n)))
runtime_more r t ws p n x h lt e = ext _ _ (λ k. at k (eqb_tells k n))
  where
    at : (k : ℕ) → ((eqb k n ≡ true) × (k ≡ n)) ⊎ ((eqb k n ≡ false) × (k ≢ n)) → slice_index (slice_set r n x) k ≡ controls (Then t ws (Header p (Primitive n))) k
    at k (inl z) =
        let b = z.0 in
        ap (slice_index (slice_set r n x)) z.1 ∙ get_or-set_same r n x 0 lt ∙ e ∙ rw b refl
    at k (inr z) =
        let b = z.0 in
        get_or-set_other r n k x 0 z.1 ∙ ap (λ f. f k) h ∙ rw b refl

-- IMMEDIATE
pub last_of : {X : Type 0} (es : List X) (i : ℕ) (d : X) → i + 1 ≡ length es → es ≡ take i es ++ get_or es i d ∷ []
last_of es i d e =
    let n : suc i ≡ length es = omega arith in
    sym (ap (λ j. take j es) n ∙ take-length es) ∙ take-suc es i d (omega arith)

pub marked_names : (es : List Named) (i : ℕ) (y : Named) → i + 1 ≡ length es → y ≡ get_or es i y → newest_first (set es i (record y { immediate = true })) ≡ mark (newest_first es)
marked_names es i y l h =
    let front = take i es in
    let s : es ≡ front ++ y ∷ [] = last_of es i y l ∙ ap (λ x. front ++ x ∷ []) (sym h) in
    grind (arith, set-append_seam, reverse_more, length-take-le i es (omega arith))

pub colon_laid : {limit : ℕ} (b : Build) (t : Items) (ws : List Place) (p : Place) (body : Definition) (new more : List ℕ) → Headed limit b t p s.Plain 1 → new ≡ b.image.items ++ more → more ≡ whole_code (controls t) body (end_of t + head_size p) → new ≡ items_bytes (heads_of (Then t ws (Colon p body))) (Then t ws (Colon p body)) false
colon_laid b t ws p body new more h n m = grind (arith, append_assoc)

-- IMMEDIATE's byte
pub immediate_laid : {limit : ℕ} (b : Build) (t : Items) (ws : List Place) (n : Name) (ns : List Name) (place : ℕ) → Built limit b t → names t ≡ n ∷ ns → place + 254 ≡ n.link → set b.image.items place (192 + length n.name) ≡ items_bytes (heads_of (Then t ws Immediate)) (Then t ws Immediate) false
immediate_laid b t ws n ns place h e q = grind (arith, set-append_seam, bytes_same, heads_marked, append-nil, bytes_marked (heads_of t) t n ns e place q)

pub immediate_within : {limit : ℕ} (b : Build) (t : Items) (n : Name) (ns : List Name) (place : ℕ) → Built limit b t → names t ≡ n ∷ ns → place + 254 ≡ n.link → place < length b.image.items
immediate_within b t n ns place h e q = grind (arith, length-append, bytes_marked (heads_of t) t n ns e place q)

-- the newest name is short, and its byte is in the image
pub newest_name : (b : Build) (h : Building b) (xs : List Named) (x : Entry) (ns : List Name) → xs ≡ b.names.items → newest_first xs ≡ entry x ∷ ns → names h.items ≡ entry x ∷ ns
newest_name b h xs x ns q e = let i = h.is in sym i.named ∙ ap newest_first (sym q) ∙ e

pub newest_facts : (b : Build) (h : Building b) (x : Name) (ns : List Name) → names h.items ≡ x ∷ ns → (length x.name < 32) × (258 ≤ x.link) × (x.link - 254 < length b.image.items)
newest_facts b h x ns e =
    let g = (subst (λ l. Every (IsName h.items) l) e (sound_names b.limit h.items h.sound).1).0 in
    (g.short, g.above, immediate_within b h.items x ns (x.link - 254) h.is e (omega arith))

-- a name that was found is below the end
pub found_fits : (b : Build) (h : Building b) (xs : List Named) (bs : List ℕ) (n : Name) → xs ≡ b.names.items → Some n ≡ found b.current bs (newest_first xs) → (length n.name < 32) × (n.link + 3 + length n.name + 2 ≤ GREATEST_LIMIT)
found_fits b h xs bs n q e = grind (arith, every_found, sound_names, sound_below)

pub found_look : {limit : ℕ} (b : Build) (t : Items) (p : Place) (xs : List Named) (n : Name) → Built limit b t → xs ≡ b.names.items → Some n ≡ found b.current p.name (newest_first xs) → Some n ≡ look t p
found_look b t p xs n i q e = grind arith
