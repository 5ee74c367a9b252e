-- What one more word of a source does.
use Rattle.std.proofs.Common.{◌≡◌, ℕ, ◌+◌, ◌<◌, ◌≤◌, ◌⊎◌, List, [], ◌∷◌, ◌++◌, length, refl, sym, ap, ◌∙◌, subst, arith, append-nil, inl, inr, map, append_assoc, length-append}
use Rattle.std.specs.Prelude.{Bool, true, false, IsTrue, ◌↔◌, Some, reverse, Result, Ok, Err, slice_index}
use Rattle.image_builder.specs.declared.state.Build.{Build}
use Rattle.image_builder.specs.declared.spot.Sort.{Sort}
use Rattle.image_builder.specs.declared.spot.Sort.TheVariants as s
use Rattle.image_builder.specs.declared.cause.Cause.{Cause}
use Rattle.image_builder.specs.declared.cause.Cause.TheVariants as c
use Rattle.image_builder.specs.declared.entry.Kind.{Kind}
use Rattle.image_builder.specs.declared.entry.Lead.{Lead}
use Rattle.image_builder.specs.declared.entry.Lead.TheVariants.{Makes, Defines, Starts}
use Rattle.image_builder.specs.declared.state.Begun.TheVariants as g
use Rattle.image_builder.specs.declared.entry.Named.{Named}
use Rattle.image_builder.specs.declared.state.Site.{Site}
use Rattle.image_builder.specs.declared.state.Title.{Title}
use Rattle.image_builder.specs.Places.{Place, IsTitle}
use Rattle.image_builder.specs.Names.{Name, stored, address, newest_first}
use Rattle.colon_bodies.proofs.Whole.{starts, fronts, goes_on}
use Rattle.image_builder.proofs.Sound.{sound_end}
use Rattle.std.proofs.lemmas.List.{length-reverse, length-map, map-append}
use Rattle.image_builder.specs.Items.{Item, Header, Immediate, Definitions, Boot, Items, Then, item_words, item_size, head_size, kind_size, controls, end_of, Colon}
use Rattle.image_builder.specs.Meanings.{look, record_named, meaning, meanings, half_past}
use Rattle.image_builder.specs.Grammar.{AreSound, IsSound, Spells, Fits, Leads, IsOpen}
use Rattle.image_builder.specs.Stages.{Whole, Counted, Due, Chosen, Inside, body_at, Stage}
use Rattle.image_builder.specs.Faults.{cause_at, inner_cause}
use Rattle.image_builder.proofs.Applying.{AtNumber, AtName, counted_is_full}
use Rattle.colon_bodies.specs.Faults.{body_cause}
use Rattle.std.specs.Option.{option_map}
use Rattle.std.proofs.lemmas.Bool.{lt-ltb, le-ltb}
use Rattle.image_builder.specs.Built.{Built}
use Rattle.colon_bodies.specs.Draft.{IsBlank, Drafts, Goes as BodyGoes, Finishes as BodyEnds}
use Rattle.image_builder.specs.State.{IsState, Goes, IsSame, Ends, Shows, Taken, TakenAt, located}
use Rattle.image_builder.proofs.Making.{built_end}
use Rattle.colon_bodies.specs.Tokens.{Token, SEMI}
use Rattle.colon_bodies.specs.Tree.{Body}
use Rattle.colon_bodies.specs.Rules as rules
use Rattle.colon_bodies.specs.declared.words.Half.{Half}
use Rattle.colon_bodies.specs.declared.words.Half.TheVariants.{Free}
use Rattle.colon_bodies.specs.declared.draft.Draft.{Draft}
use Rattle.colon_bodies.specs.Open.{Outer, open_words}
use Rattle.colon_bodies.proofs.Cells.{length-cell}
use Rattle.colon_bodies.proofs.Laying.{length-all}
use Rattle.colon_bodies.specs.declared.fault.BodyCause.{BodyCause}
use Rattle.colon_bodies.specs.declared.fault.BodyCause.TheVariants as r
use Rattle.colon_bodies.proofs.Taking.{half-open, known-append}
use Rattle.colon_bodies.proofs.Reading.{whole_words, whole_depth}
use Rattle.image_builder.specs.Causes.{cause_of}
use Rattle.image_builder.specs.declared.state.Begun.{Begun}

-- What one more word does, and its first cause.

-- what goes on
pub due : {limit : ℕ} (b : Build) (t : Items) (ws : List Place) (w : Place) (l : Lead) → Built limit b t → AreSound limit t → Leads l (ws ++ w ∷ []) → IsOpen t l → IsBlank b.draft → Goes limit b (g.Due l) t ws w
due b t ws w l h s e o d =
    record {
      items = t;
      words = ws ++ w ∷ [];
      stage = Due l;
      shows = refl;
      is = record { built = h; sound = s; begun = (e, o); drafts = d };
      front = refl;
    }

pub whole : {limit : ℕ} (b : Build) (t : Items) (ws : List Place) (w : Place) (i : Item) → Built limit b (Then t (ws ++ w ∷ []) i) → AreSound limit t → IsSound limit t (ws ++ w ∷ []) i → IsBlank b.draft → Goes limit b g.Whole t ws w
whole b t ws w i h s e d =
    record {
      items = Then t (ws ++ w ∷ []) i;
      words = [];
      stage = Whole;
      shows = tt;
      is = record { built = h; sound = (s, e); begun = refl; drafts = d };
      front = append-nil (item_words t ++ (ws ++ w ∷ []));
    }

-- after a number
pub counted_full : (limit : ℕ) (t : Items) (n : ℕ) (w : Place) (after : List Place) (sort : Sort) → w.sort ≡ sort → (sort ≡ s.Comma) ⊎ (sort ≡ s.CharComma) ⊎ (sort ≡ s.Allot) → AtNumber limit t n sort c.Full → cause_at limit t (Counted n) w after ≡ Some c.Full
counted_full limit t n w after sort e o h = counted_is_full limit t n w.sort (subst (λ x. AtNumber limit t n x c.Full) (sym e) h)

pub counted_due : {limit : ℕ} (b : Build) (t : Items) (n : ℕ) (ws : List Place) (w : Place) (l : Lead) (sort : Sort) → IsState limit b t ws (Counted n) → w.sort ≡ sort → ((a : Place) → a.sort ≡ s.Number n → Leads l (a ∷ w ∷ [])) → IsOpen t l → Goes limit b (g.Due l) t ws w
counted_due b t n ws w l sort h e f o = grind (arith, due)

pub counted_whole : {limit : ℕ} (b new : Build) (t : Items) (n : ℕ) (ws : List Place) (w : Place) (i : Item) → IsState limit b t ws (Counted n) → ((a : Place) → a.sort ≡ s.Number n → Spells t (a ∷ w ∷ []) i) → Fits t i → end_of t + item_size i ≤ limit → Built limit new (Then t (ws ++ w ∷ []) i) → new.draft ≡ b.draft → Goes limit new g.Whole t ws w
counted_whole b new t n ws w i h f fits room built kept = grind (arith, whole)

pub over : {limit : ℕ} (b : Build) (t : Items) (r : Bool) (more : ℕ) → Built limit b t → IsTrue r ↔ (b.limit < length b.image.items + 256 + more) → r ≡ true → limit < end_of t + more
over b t r more h i e = let x = i.0 e in let z = built_end b t h in let l = h.limit_is in omega arith

pub not_over : {limit : ℕ} (b : Build) (t : Items) (r : Bool) (more : ℕ) → Built limit b t → IsTrue r ↔ (b.limit < length b.image.items + 256 + more) → r ≡ false → end_of t + more ≤ limit
not_over {limit} b t r more h i e = grind (arith, built_end)

-- where an item begins
pub newest_length : (es : List Named) → length (newest_first es) ≡ length es
newest_length es = length-map (reverse es) stored ∙ length-reverse es

pub item_due : {limit : ℕ} (b : Build) (t : Items) (ws : List Place) (w : Place) (l : Lead) → IsState limit b t ws Whole → Leads l (w ∷ []) → IsOpen t l → Goes limit b (g.Due l) t ws w
item_due b t ws w l h e o = due b t ws w l h.built h.sound (subst (λ x. Leads l (x ++ w ∷ [])) (sym h.begun) e) o h.drafts

pub item_counted : {limit : ℕ} (b : Build) (t : Items) (ws : List Place) (n : ℕ) (a : Site) (w : Place) → IsState limit b t ws Whole → w.sort ≡ s.Number n → a.screen ≡ w.screen → a.offset ≡ w.offset → Goes limit b (g.Counted n a) t ws w
item_counted b t ws n a w h e f j =
    let q : ws ++ w ∷ [] ≡ w ∷ [] = ap (λ x. x ++ w ∷ []) h.begun in
    record {
      items = t;
      words = ws ++ w ∷ [];
      stage = Counted n;
      shows = (refl, (w, q, f, j));
      is = grind arith;
      front = refl;
    }

pub item_chosen : {limit : ℕ} (b : Build) (t : Items) (ws : List Place) (w : Place) (v : ℕ) → IsState limit b t ws Whole → w.sort ≡ s.Other → Some v ≡ record_named t w → Goes limit b (g.Chosen v) t ws w
item_chosen b t ws w v h e f =
    let q : ws ++ w ∷ [] ≡ w ∷ [] = ap (λ x. x ++ w ∷ []) h.begun in
    record {
      items = t;
      words = ws ++ w ∷ [];
      stage = Chosen v;
      shows = refl;
      is = grind arith;
      front = refl;
    }

pub item_immediate : {limit : ℕ} (b new : Build) (t : Items) (ws : List Place) (w : Place) → IsState limit b t ws Whole → w.sort ≡ s.Immediate → 0 < length b.names.items → Built limit new (Then t (ws ++ w ∷ []) Immediate) → new.draft ≡ b.draft → Goes limit new g.Whole t ws w
item_immediate {limit} b new t ws w h e n built kept =
    let q : ws ++ w ∷ [] ≡ w ∷ [] = ap (λ x. x ++ w ∷ []) h.begun in
    let i = h.built in
    let z = sound_end limit t h.built.limited.0 h.sound in
    whole new t ws w Immediate built h.sound
    (record { spells = (w, q, e); fits = λ k. let l = ap length (i.named ∙ k) in omega (arith, l, n, newest_length b.names.items); room = omega (arith, z) })
    (subst (λ x. IsBlank x) (sym kept) h.drafts)

-- after a vocabulary's name
pub chosen_whole : {limit : ℕ} (b new : Build) (t : Items) (v : ℕ) (ws : List Place) (w : Place) → IsState limit b t ws (Chosen v) → w.sort ≡ s.Definitions → Built limit new (Then t (ws ++ w ∷ []) (Definitions v)) → new.draft ≡ b.draft → Goes limit new g.Whole t ws w
chosen_whole {limit} b new t v ws w h e built kept =
    let a = h.begun in
    let z = sound_end limit t h.built.limited.0 h.sound in
    whole new t ws w (Definitions v) built h.sound
    (record { spells = (a.0, w, ap (λ x. x ++ w ∷ []) a.1, a.2, a.3, e); fits = tt; room = omega (arith, z) })
    (subst (λ x. IsBlank x) (sym kept) h.drafts)

-- a name that is due
pub made_whole : {limit : ℕ} (b new : Build) (t : Items) (k : Kind) (ws : List Place) (w : Place) → IsState limit b t ws (Due (Makes k)) → length w.name < 32 → end_of t + (head_size w + kind_size k) ≤ limit → Built limit new (Then t (ws ++ w ∷ []) (Header w k)) → new.draft ≡ b.draft → Goes limit new g.Whole t ws w
made_whole b new t k ws w h short room' built kept =
    let a = h.begun in
    whole new t ws w (Header w k) built h.sound
    (record { spells = (ws, refl, a.0); fits = (short, a.1); room = room' })
    (subst (λ x. IsBlank x) (sym kept) h.drafts)

pub boot_whole : {limit : ℕ} (b new : Build) (t : Items) (ws : List Place) (w : Place) (n : Name) (a : ℕ) → IsState limit b t ws (Due Starts) → Some n ≡ look t w → a ≡ address n → Built limit new (Then t (ws ++ w ∷ []) (Boot a)) → new.draft ≡ b.draft → Goes limit new g.Whole t ws w
boot_whole {limit} b new t ws w n a h e q built kept =
    let x = h.begun in
    let z = sound_end limit t h.built.limited.0 h.sound in
    whole new t ws w (Boot a) built h.sound
    (record { spells = (ws, w, n, refl, x.0, sym e, q); fits = x.1; room = omega (arith, z) })
    (subst (λ x. IsBlank x) (sym kept) h.drafts)

pub colon_goes : {limit : ℕ} (b : Build) (t : Items) (ws : List Place) (a : Title) (w : Place) → IsState limit b t ws (Due Defines) → length w.name < 32 → end_of t + head_size w ≤ limit → IsTitle a.screen a.name.items w → Goes limit b (g.Inside a) t ws w
colon_goes {limit} b t ws a w h short room' titled =
    let x = h.begun in
    let d = h.drafts in
    let p = starts (controls t) (body_at t w) limit b.draft room' d.0 d.1 d.2 d.3 in
    record {
      items = t;
      words = ws ++ w ∷ [];
      stage = Inside w [];
      shows = titled;
      is = record {
        built = h.built;
        sound = h.sound;
        drafts = p;
        begun = record { front = ws; inner = []; is = refl; leads = x.0; short = short; means = refl; fits = fronts (controls t) (body_at t w) limit [] b.draft p };
      };
      front = refl;
    }

pub name_full : (limit : ℕ) (t : Items) (w : Place) (after : List Place) (l : Lead) → length w.name < 32 → AtName limit t w l c.Full → cause_at limit t (Due l) w after ≡ Some c.Full
name_full limit t w after l h f = grind (arith, lt-ltb, le-ltb)

pub not_long : (b : Bool) (n : ℕ) → IsTrue b ↔ (31 < n) → b ≡ false → n < 32
not_long b n h e = let no : 31 < n → ⊥ = λ x. let y = h.1 x in cc in omega (arith, no)

-- A word of a body, and its first cause.

-- one more word's meaning
pub meanings_more : (t : Items) (h : Half) (inner : List Place) (toks : List Token) (w : Place) → meanings h t inner ≡ map (λ v. Ok v) toks → meanings h t (inner ++ w ∷ []) ≡ map (λ v. Ok v) toks ++ (meaning (rules.half_of h toks) t w ∷ [])
meanings_more t h [] [] w e = refl
meanings_more t h (p ∷ inner) (x ∷ toks) w e =
    let a : meaning h t p ≡ Ok x = cc in
    let b : meanings (half_past h (meaning h t p)) t inner ≡ map (λ v. Ok v) toks = cc in
    let c : meanings (rules.half_after h x) t inner ≡ map (λ v. Ok v) toks = ap (λ m. meanings (half_past h m) t inner) (sym a) ∙ b in
    ap (λ m. m ∷ meanings (half_past h m) t (inner ++ w ∷ [])) a ∙ ap (λ l. Ok x ∷ l) (meanings_more t (rules.half_after h x) inner toks w c)
meanings_more t h inner toks w e = grind arith

pub meanings_ok : (t : Items) (inner : List Place) (toks : List Token) (w : Place) (x : Token) → meanings Free t inner ≡ map (λ v. Ok v) toks → meaning (rules.half_of Free toks) t w ≡ Ok x → meanings Free t (inner ++ w ∷ []) ≡ map (λ v. Ok v) (toks ++ x ∷ [])
meanings_ok t inner toks w x e m = grind (arith, meanings_more, map-append)

pub means_fault : (limit : ℕ) (t : Items) (p w : Place) (before : List Token) (after : List Place) (e : Cause) → meaning (rules.half_of Free before) t w ≡ Err e → cause_at limit t (Inside p before) w after ≡ Some e
means_fault limit t p w before after e m = ap (inner_cause (controls t) (body_at t p) limit before) m

pub body_fault : (limit : ℕ) (t : Items) (p w : Place) (before : List Token) (after : List Place) (x : Token) (e : Cause) (d : BodyCause) → meaning (rules.half_of Free before) t w ≡ Ok x → e ≡ cause_of d → body_cause (controls t) (body_at t p) limit before x ≡ Some d → (e ≡ c.OutOfMemory) ⊎ (cause_at limit t (Inside p before) w after ≡ Some e)
body_fault limit t p w before after x e d m q f = inr (ap (inner_cause (controls t) (body_at t p) limit before) m ∙ ap (option_map cause_of) f ∙ ap Some (sym q))

pub same_built : {limit : ℕ} (b new : Build) (t : Items) → Built limit b t → IsSame b new → Built limit new t
same_built b new t h k = grind arith

pub inside_goes : {limit : ℕ} (b new : Build) (t : Items) (ws : List Place) (s : Title) (p w : Place) (before : List Token) (x : Token) (h : IsState limit b t ws (Inside p before)) → IsTitle s.screen s.name.items p → IsSame b new → meaning (rules.half_of Free before) t w ≡ Ok x → BodyGoes (controls t) (body_at t p) limit h.drafts.outer h.drafts.body h.drafts.half x new.draft → Goes limit new (g.Inside s) t ws w
inside_goes {limit} b new t ws s p w before x h titled k m f =
    let i = h.begun in
    let d = goes_on (controls t) (body_at t p) limit before x b.draft new.draft h.drafts f in
    record {
      items = t;
      words = ws ++ w ∷ [];
      stage = Inside p (before ++ x ∷ []);
      shows = titled;
      is = record {
        built = same_built b new t h.built k;
        sound = h.sound;
        drafts = d;
        begun = record {
          front = i.front;
          inner = i.inner ++ w ∷ [];
          is = ap (λ l. l ++ w ∷ []) i.is ∙ append_assoc i.front (p ∷ i.inner) (w ∷ []);
          leads = i.leads;
          short = i.short;
          means = meanings_ok t i.inner before w x i.means m;
          fits = fronts (controls t) (body_at t p) limit (before ++ x ∷ []) new.draft d;
        };
      };
      front = refl;
    }

pub ends_goes : {limit : ℕ} (b new : Build) (t : Items) (ws : List Place) (p w : Place) (before : List Token) (h : IsState limit b t ws (Inside p before)) → meaning (rules.half_of Free before) t w ≡ Ok SEMI → Ends limit t p before new → Goes limit new g.Whole t ws w
ends_goes b new t ws p w before h m f =
    let i = h.begun in
    whole new t ws w (Colon p f.body) (f.built (ws ++ w ∷ [])) h.sound
    (record {
      spells = (
        i.front,
        i.inner ++ w ∷ [],
        ap (λ l. l ++ w ∷ []) i.is ∙ append_assoc i.front (p ∷ i.inner) (w ∷ []),
        i.leads,
        meanings_ok t i.inner before w SEMI i.means m ∙ ap (λ l. map (λ v. Ok v) (l ++ SEMI ∷ [])) f.is,
      );
      fits = (i.short, f.shallow, f.known, f.short);
      room = f.room;
    })
    f.drafts

-- the half that the draft keeps is that of the words
pub half_is : {limit : ℕ} (b : Build) (t : Items) (ws : List Place) (p : Place) (before : List Token) (h : IsState limit b t ws (Inside p before)) → b.draft.half ≡ rules.half_of Free before
half_is b t ws p before h =
    let d = h.drafts in
    d.is.half_is ∙ sym (ap (rules.half_of Free) d.front ∙ half-open d.outer d.body d.half)

-- the draft's address and runtime cells, as the code has them
pub draft_in : {limit : ℕ} (b : Build) (t : Items) (ws : List Place) (p : Place) (before : List Token) (at : ℕ) (h : IsState limit b t ws (Inside p before)) → at ≡ body_at t p → Drafts (slice_index b.runtime.items) at h.drafts.outer h.drafts.body h.drafts.half b.draft
draft_in b t ws p before at h e = grind arith

-- the same draft, taken out of its place
pub taken_out : {limit : ℕ} (b : Build) (t : Items) (ws : List Place) (p : Place) (before : List Token) (at : ℕ) (draft : Draft) (h : IsState limit b t ws (Inside p before)) → at ≡ body_at t p → draft ≡ b.draft → Drafts (slice_index b.runtime.items) at h.drafts.outer h.drafts.body h.drafts.half draft
taken_out b t ws p before at draft h e k = grind (arith, draft_in)

pub goes_out : {limit : ℕ} (b new : Build) (t : Items) (p : Place) (at : ℕ) (o : Outer) (u : Body) (h : Half) (x : Token) → Built limit b t → at ≡ body_at t p → BodyGoes (slice_index b.runtime.items) at b.limit o u h x new.draft → BodyGoes (controls t) (body_at t p) limit o u h x new.draft
goes_out {limit} b new t p at o u h x i e g = grind arith

pub cause_out : {limit : ℕ} (b : Build) (t : Items) (ws : List Place) (p : Place) (before : List Token) (at : ℕ) (d : BodyCause) (x : Token) (h : IsState limit b t ws (Inside p before)) → at ≡ body_at t p → (body_cause (slice_index b.runtime.items) at b.limit (open_words h.drafts.outer h.drafts.body h.drafts.half) x ≡ Some d) → (body_cause (controls t) (body_at t p) limit before x ≡ Some d)
cause_out {limit} b t ws p before at d x h e f = grind arith

pub word_fault : {limit : ℕ} (b : Build) (t : Items) (ws : List Place) (p w : Place) (before : List Token) (after : List Place) (at : ℕ) (x : Token) (e : Cause) (h : IsState limit b t ws (Inside p before)) → at ≡ body_at t p → meaning (rules.half_of Free before) t w ≡ Ok x → (e ≡ c.OutOfMemory) ⊎ ((d : BodyCause) × (e ≡ cause_of d) × (body_cause (slice_index b.runtime.items) at b.limit (open_words h.drafts.outer h.drafts.body h.drafts.half) x ≡ Some d)) → (e ≡ c.OutOfMemory) ⊎ (cause_at limit t (Inside p before) w after ≡ Some e)
word_fault b t ws p w before after at x e h q m (inl z) = inl z
word_fault {limit} b t ws p w before after at x e h q m (inr z) = body_fault limit t p w before after x e z.0 m z.1 (cause_out b t ws p before at z.0 x h q z.2)

-- where the body of a titled definition begins
pub at_title : {limit : ℕ} (b : Build) (t : Items) (p : Place) (name : List ℕ) (here n : ℕ) → Built limit b t → here ≡ length b.image.items + 256 → n ≡ length name → p.name ≡ name → here + 7 + n ≡ body_at t p
at_title b t p name here n h e l q = let z = built_end b t h in let k = ap length q in omega arith

pub end_fault : (limit : ℕ) (t : Items) (p w : Place) (before : List Token) (after : List Place) (e : Cause) → meaning (rules.half_of Free before) t w ≡ Ok SEMI → (e ≡ c.OutOfMemory) ⊎ ((d : BodyCause) × (e ≡ cause_of d) × (body_cause (controls t) (body_at t p) limit before SEMI ≡ Some d)) → (e ≡ c.OutOfMemory) ⊎ (cause_at limit t (Inside p before) w after ≡ Some e)
end_fault limit t p w before after e m x8 = grind (arith, body_fault)

pub ended_cause : {limit : ℕ} (b : Build) (t : Items) (ws : List Place) (p : Place) (before : List Token) (at : ℕ) (e : Cause) (d : BodyCause) (h : IsState limit b t ws (Inside p before)) → at ≡ body_at t p → e ≡ cause_of d → (d ≡ r.Memory) ⊎ (body_cause (slice_index b.runtime.items) at b.limit (open_words h.drafts.outer h.drafts.body h.drafts.half) SEMI ≡ Some d) → (e ≡ c.OutOfMemory) ⊎ ((x : BodyCause) × (e ≡ cause_of x) × (body_cause (controls t) (body_at t p) limit before SEMI ≡ Some x))
ended_cause b t ws p before at e d h q i x11 = grind (arith, cause_out)

pub ended_in : {limit : ℕ} (b : Build) (t : Items) (ws : List Place) (p : Place) (before : List Token) (at : ℕ) (image : List ℕ) (h : IsState limit b t ws (Inside p before)) → at ≡ body_at t p → BodyEnds (slice_index b.runtime.items) at b.limit h.drafts.outer h.drafts.body h.drafts.half image → BodyEnds (controls t) (body_at t p) limit h.drafts.outer h.drafts.body h.drafts.half image
ended_in {limit} b t ws p before at image h e z = grind arith

pub ended_ends : {limit : ℕ} (b new : Build) (t : Items) (ws : List Place) (p : Place) (before : List Token) (image : List ℕ) (h : IsState limit b t ws (Inside p before)) → (z : BodyEnds (controls t) (body_at t p) limit h.drafts.outer h.drafts.body h.drafts.half image) → ((vs : List Place) → Built limit new (Then t vs (Colon p z.body))) → IsBlank new.draft → Ends limit t p before new
ended_ends b new t ws p before image h z f k = grind (arith, whole_words, whole_depth, known-append, length-append, length-all, length-cell)

pub means : {limit : ℕ} {X : Result Token Cause} (b : Build) (t : Items) (ws : List Place) (p w : Place) (before : List Token) (h : IsState limit b t ws (Inside p before)) → meaning b.draft.half t w ≡ X → meaning (rules.half_of Free before) t w ≡ X
means b t ws p w before h e = ap (λ g. meaning g t w) (sym (half_is b t ws p before h)) ∙ e

-- The stages, one by one.
pub taken_at : (limit : ℕ) (t : Items) (ws : List Place) (stage : Stage) (w : Place) (after : List Place) (r : Result Begun Cause) (b : Build) → Taken limit t ws stage w after r b → TakenAt limit t ws stage w after (located w.screen w.offset r) b
taken_at limit t ws stage w after r b x8 = grind arith

pub at_whole : {limit : ℕ} (b new : Build) (w : Place) (r : Result Begun Cause) → ((t : Items) (ws after : List Place) → IsState limit b t ws Whole → Taken limit t ws Whole w after r new) → (t : Items) (ws after : List Place) (stage : Stage) → Shows g.Whole ws stage → IsState limit b t ws stage → TakenAt limit t ws stage w after (located w.screen w.offset r) new
at_whole {limit} b new w r f t ws after stage s h = grind (arith, taken_at)

pub at_due : {limit : ℕ} (b new : Build) (l : Lead) (w : Place) (r : Result Begun Cause) → ((t : Items) (ws after : List Place) → IsState limit b t ws (Due l) → Taken limit t ws (Due l) w after r new) → (t : Items) (ws after : List Place) (stage : Stage) → Shows (g.Due l) ws stage → IsState limit b t ws stage → TakenAt limit t ws stage w after (located w.screen w.offset r) new
at_due {limit} b new l w r f t ws after (Due m) s h =
    taken_at limit t ws (Due m) w after r new (subst (λ x. Taken limit t ws (Due x) w after r new) s (f t ws after (subst (λ x. IsState limit b t ws (Due x)) (sym s) h)))
at_due b new l w r f t ws after _ s h = absurd s

pub at_chosen : {limit : ℕ} (b new : Build) (v : ℕ) (w : Place) (r : Result Begun Cause) → ((t : Items) (ws after : List Place) → IsState limit b t ws (Chosen v) → Taken limit t ws (Chosen v) w after r new) → (t : Items) (ws after : List Place) (stage : Stage) → Shows (g.Chosen v) ws stage → IsState limit b t ws stage → TakenAt limit t ws stage w after (located w.screen w.offset r) new
at_chosen {limit} b new v w r f t ws after (Chosen u) s h =
    taken_at limit t ws (Chosen u) w after r new (subst (λ x. Taken limit t ws (Chosen x) w after r new) s (f t ws after (subst (λ x. IsState limit b t ws (Chosen x)) (sym s) h)))
at_chosen b new v w r f t ws after _ s h = absurd s

pub at_inside : {limit : ℕ} (b new : Build) (p : Title) (w : Place) (r : Result Begun Cause) → ((t : Items) (ws after : List Place) (before : List Token) (q : Place) → IsTitle p.screen p.name.items q → IsState limit b t ws (Inside q before) → Taken limit t ws (Inside q before) w after r new) → (t : Items) (ws after : List Place) (stage : Stage) → Shows (g.Inside p) ws stage → IsState limit b t ws stage → TakenAt limit t ws stage w after (located w.screen w.offset r) new
at_inside {limit} b new p w r f t ws after stage s h = grind (arith, taken_at)
