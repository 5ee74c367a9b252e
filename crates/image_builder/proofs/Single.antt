-- A source has one first fault.
use Rattle.std.proofs.Common.{◌≡◌, ◌≢◌, ℕ, ◌<◌, ◌≤◌, ◌⊎◌, inl, inr, List, [], ◌∷◌, ◌++◌, length, refl, sym, ap, ◌∙◌, subst, arith, append_assoc, append-nil}
use Rattle.std.specs.Prelude.{Bool, true, false, cond, Option, Some, None, Result, Ok, Err}
use Rattle.colon_bodies.specs.Tokens.{Token, SEMI}
use Rattle.colon_bodies.specs.Tree.{Empty, Definition, all_words}
use Rattle.colon_bodies.specs.declared.words.Half.TheVariants.{Free}
use Rattle.colon_bodies.specs.Open.{Top}
use Rattle.colon_bodies.specs.Faults as body
use Rattle.colon_bodies.specs.Rules as rules
use Rattle.colon_bodies.proofs.Reading.{accept}
use Rattle.colon_bodies.proofs.Exact.{clean, accept_is, two_cuts}
use Rattle.colon_bodies.proofs.Unique.{front_clean}
use Rattle.colon_bodies.proofs.Taking.{laid-append, laid-all}
use Rattle.image_builder.specs.declared.spot.Sort.{Sort}
use Rattle.image_builder.specs.declared.spot.Sort.TheVariants as s
use Rattle.image_builder.specs.declared.cause.Cause.{Cause}
use Rattle.image_builder.specs.declared.cause.Cause.TheVariants as c
use Rattle.image_builder.specs.declared.entry.Kind.TheVariants as k
use Rattle.image_builder.specs.declared.entry.Lead.{Lead}
use Rattle.image_builder.specs.declared.entry.Lead.TheVariants.{Makes, Defines, Starts}
use Rattle.image_builder.specs.Places.{Place}
use Rattle.image_builder.specs.Names.{Name, address}
use Rattle.image_builder.specs.Items.{Header, Colon, Cell, Byte, Allot, Immediate, Boot, Items, Nothing, Then, controls, item_words, image}
use Rattle.image_builder.specs.Meanings.{look, meaning}
use Rattle.image_builder.specs.Grammar.{AreSound, IsSound}
use Rattle.image_builder.specs.Stages.{Stage, Whole, Counted, Due, Chosen, Inside, body_at, Begun, IsFront}
use Rattle.image_builder.specs.Faults.{IsGood, cause_at, IsFault, IsSameFault}
use Rattle.image_builder.proofs.Applying.{AtItem, AtNumber, AtName, AtVocabulary, InBody, Applies, refusal, rank, Next, said, ranked}
use Rattle.colon_bodies.proofs.Causes as causes
use Rattle.block_buffers.specs.Disks.{Disk}
use Rattle.image_loader.specs.Files.{Contents}
use Rattle.memory.specs.Bytes.{limit_of}
use Rattle.image_builder.specs.Spelled.{all_placed}
use Rattle.image_builder.specs.Sources.{Done, IsBuiltOf, source_of}
use Rattle.image_builder.proofs.Running.{St, At, chosen, at_item, at_number, started, at_name, at_vocabulary, is_semi, closed, in_body, step, then, run, front_run, items_in, keeps, semi_is, no_refusal}

-- where words lead
abbrev keep : St → Option St
keep x = Some x

abbrev W : List Place → St → Option St
W ws x = run St keep ws x

abbrev Good : ℕ → St → Type 0
Good limit (At t ws stage) = AreSound limit t × Begun limit t ws stage

-- what comes after: nothing, or a word with a cause
abbrev Tail : ℕ → St → List Place → Type 0
Tail limit (At t ws stage) tail = (tail ≡ []) ⊎ ((w : Place) × (after : List Place) × (d : Cause) × (tail ≡ w ∷ after) × Applies limit t stage w after d × (0 < rank d))

good_items : (limit : ℕ) (y : St) → Good limit y → AreSound limit (items_in y)
good_items limit (At t ws stage) h = h.0

walk_sound : (limit : ℕ) (rest : List Place) (t : Items) (ws : List Place) (stage : Stage) (y : St) → W rest (At t ws stage) ≡ Some y → AreSound limit (items_in y) → AreSound limit t
walk_sound limit [] t ws stage y e h = let q : At t ws stage ≡ y = cc in subst (λ z. AreSound limit (items_in z)) (sym q) h
walk_sound limit (w ∷ rest) t ws stage y e h =
    by (step (At t ws stage) w) (λ x f g. keeps limit t ws stage w x f g) (λ v vs st f. walk_sound limit rest v vs st y f h) e
  where
    by : (o : Option St) → ((x : St) → o ≡ Some x → AreSound limit (items_in x) → AreSound limit t) → ((v : Items) (vs : List Place) (st : Stage) → W rest (At v vs st) ≡ Some y → AreSound limit v) → then o (W rest) ≡ Some y → AreSound limit t
    by None f ih g = cc
    by (Some (At v vs st)) f ih g = f (At v vs st) refl (ih v vs st g)

sort_walk : (t : Items) (y : St) (n : ℕ) (ws : List Place) (b : Place) (rest : List Place) (sort : Sort) → b.sort ≡ sort → W (b ∷ rest) (At t ws (Counted n)) ≡ Some y → then (at_number t ws n b sort) (W rest) ≡ Some y
sort_walk t y n ws b rest sort e h = ap (λ x. then (at_number t ws n b x) (W rest)) (sym e) ∙ h

-- the word after a number
prim_none : (limit : ℕ) (t : Items) (n : ℕ) (d : Cause) → AtNumber limit t n s.Prim d → ⊥
prim_none limit t n d h = grind arith

tail_prim : (limit : ℕ) (t : Items) (n : ℕ) (ws tail : List Place) → Tail limit (At t ws (Counted n)) tail → Next tail s.Prim → ⊥
tail_prim limit t n ws tail x5 h = grind (arith, prim_none)

tail_allot : (limit : ℕ) (t : Items) (n : ℕ) (ws tail : List Place) → 32768 ≤ n → Tail limit (At t ws (Counted n)) tail → Next tail s.Allot → ⊥
tail_allot limit t n ws tail a x6 h = grind arith

-- no word on the way has a cause
item_clean : (limit : ℕ) (t : Items) (y : St) (w : Place) (rest tail : List Place) (sort : Sort) (cause : Cause) → AtItem t w (rest ++ tail) sort cause → Good limit y → Tail limit y tail → then (at_item t w sort) (W rest) ≡ Some y → ⊥
item_clean limit t y w rest tail s.Double c.BadNumber h so tl e = cc
item_clean limit t y w [] tail (s.Number n) c.BadNumber h so tl e =
    let q : At t (w ∷ []) (Counted n) ≡ y = cc in
    tail_allot limit t n (w ∷ []) tail h.0 (subst (λ z. Tail limit z tail) (sym q) tl) h.1
item_clean limit t y w (b ∷ rest) tail (s.Number n) c.BadNumber h so tl e =
    let f = (walk_sound limit rest (Then t ((w ∷ []) ++ b ∷ []) (Allot n)) [] Whole y (sort_walk t y n (w ∷ []) b rest s.Allot h.1 e) (good_items limit y so)).1.fits in
    let a = h.0 in
    omega (arith, a, f)
item_clean limit t y w [] tail (s.Number n) c.BadPrimitive h so tl e =
    let q : At t (w ∷ []) (Counted n) ≡ y = cc in
    tail_prim limit t n (w ∷ []) tail (subst (λ z. Tail limit z tail) (sym q) tl) h.0
item_clean limit t y w (b ∷ []) tail (s.Number n) c.BadPrimitive h so tl e =
    let f = sort_walk t y n (w ∷ []) b [] s.Prim h.0 e in
    let q : At t ((w ∷ []) ++ b ∷ []) (Due (Makes (k.Primitive n))) ≡ y = cc in
    h.1 (subst (λ z. Good limit z) (sym q) so).1.1
item_clean limit t y w (b ∷ x ∷ rest) tail (s.Number n) c.BadPrimitive h so tl e =
    h.1 (walk_sound limit rest (Then t ((w ∷ b ∷ []) ++ x ∷ []) (Header x (k.Primitive n))) [] Whole y (sort_walk t y n (w ∷ []) b (x ∷ rest) s.Prim h.0 e) (good_items limit y so)).1.fits.1
item_clean limit t y w rest tail s.Prim c.Misplaced h so tl e = cc
item_clean limit t y w rest tail s.Constant c.Misplaced h so tl e = cc
item_clean limit t y w rest tail s.Comma c.Misplaced h so tl e = cc
item_clean limit t y w rest tail s.CharComma c.Misplaced h so tl e = cc
item_clean limit t y w rest tail s.Allot c.Misplaced h so tl e = cc
item_clean limit t y w rest tail s.Definitions c.Misplaced h so tl e = cc
item_clean limit t y w rest tail s.Immediate c.Misplaced h so tl e =
    (walk_sound limit rest (Then t (w ∷ []) Immediate) [] Whole y e (good_items limit y so)).1.fits h
item_clean limit t y w [] tail s.Boot c.Misplaced h so tl e =
    let q : At t (w ∷ []) (Due Starts) ≡ y = cc in
    h (subst (λ z. Good limit z) (sym q) so).1.1
item_clean limit t y w (x ∷ rest) tail s.Boot c.Misplaced h so tl e = by (look t x) e
  where
    by : (o : Option Name) → then (started t (w ∷ []) x o) (W rest) ≡ Some y → ⊥
    by None f = cc
    by (Some n) f = h (walk_sound limit rest (Then t ((w ∷ []) ++ x ∷ []) (Boot (address n))) [] Whole y f (good_items limit y so)).1.fits
item_clean limit t y w rest tail s.Other c.Misplaced h so tl e =
    let f : None ≡ Some y = ap (λ o. then (chosen t w o) (W rest)) (sym h.1) ∙ e in cc
item_clean limit t y w rest tail s.Other c.Unknown h so tl e =
    let f : None ≡ Some y = ap (λ o. then (chosen t w o) (W rest)) (sym h.1) ∙ e in cc
item_clean limit t y w rest tail _ _ h so tl e = absurd h

number_clean : (limit : ℕ) (t : Items) (y : St) (ws : List Place) (n : ℕ) (w : Place) (rest : List Place) (sort : Sort) (cause : Cause) → AtNumber limit t n sort cause → Good limit y → then (at_number t ws n w sort) (W rest) ≡ Some y → ⊥
number_clean limit t y ws n w rest s.Comma c.Full h so e = let f = (walk_sound limit rest (Then t (ws ++ w ∷ []) (Cell n)) [] Whole y e (good_items limit y so)).1.room in omega (arith, f, h)
number_clean limit t y ws n w rest s.CharComma c.Full h so e = let f = (walk_sound limit rest (Then t (ws ++ w ∷ []) (Byte n)) [] Whole y e (good_items limit y so)).1.room in omega (arith, f, h)
number_clean limit t y ws n w rest s.Allot c.Full h so e = let f = (walk_sound limit rest (Then t (ws ++ w ∷ []) (Allot n)) [] Whole y e (good_items limit y so)).1.room in let a = h.1 in omega (arith, f, a)
number_clean limit t y ws n w rest s.Prim cause h so e = prim_none limit t n cause h
number_clean limit t y ws n w rest s.Constant cause h so e = absurd (none cause h)
  where
    none : (d : Cause) → AtNumber limit t n s.Constant d → ⊥
    none c.Full h = h
    none _ h = h
number_clean limit t y ws n w rest s.Comma _ h so e = absurd h
number_clean limit t y ws n w rest s.CharComma _ h so e = absurd h
number_clean limit t y ws n w rest s.Allot _ h so e = absurd h
number_clean limit t y ws n w rest _ cause h so e = cc

-- what an open definition comes to: a whole one, or one that is open yet
record Became (limit : ℕ) (t : Items) (p : Place) (front : List Token) : Type 0 where
  body_is : Definition
  more : List Token
  all : List Place
  is : all_words body_is ++ SEMI ∷ [] ≡ front ++ more
  sound : IsSound limit t all (Colon p body_is)

record Inner (limit : ℕ) (t : Items) (p : Place) (front : List Token) : Type 0 where
  more : List Token
  fits : body.IsFront (controls t) (body_at t p) limit (front ++ more)
  short : length p.name < 32

abbrev Outcome : ℕ → Items → Place → List Token → Type 0
Outcome limit t p front = Became limit t p front ⊎ Inner limit t p front

shorter : (limit : ℕ) (t : Items) (p : Place) (before : List Token) (x : Token) → Outcome limit t p (before ++ x ∷ []) → Outcome limit t p before
shorter limit t p before x x5 = grind (arith, append_assoc)

outcome : (limit : ℕ) (t : Items) (ws : List Place) (p : Place) (before : List Token) (w : Place) (x : Token) (rest : List Place) (y : St) (b : Bool) (o : Option Definition) → Good limit y → is_semi x ≡ b → accept Top Empty Free (before ++ SEMI ∷ []) ≡ o → (W rest (At t (ws ++ w ∷ []) (Inside p (before ++ x ∷ []))) ≡ Some y → Outcome limit t p (before ++ x ∷ [])) → then (cond b (closed t ws p w o) (Some (At t (ws ++ w ∷ []) (Inside p (before ++ x ∷ []))))) (W rest) ≡ Some y → Outcome limit t p (before ++ x ∷ [])
outcome limit t ws p before w x rest y true None h i a ih e = cc
outcome limit t ws p before w x rest y true (Some z) h i a ih e =
    inl (record {
      body_is = z;
      more = [];
      all = ws ++ w ∷ [];
      is = sym (accept_is (before ++ SEMI ∷ []) Top Empty Free z a) ∙ ap (λ v. before ++ v ∷ []) (sym (semi_is x i)) ∙ sym (append-nil (before ++ x ∷ []));
      sound = (walk_sound limit rest (Then t (ws ++ w ∷ []) (Colon p z)) [] Whole y e (good_items limit y h)).1;
    })
outcome limit t ws p before w x rest y false o h i a ih e = ih e

inside_walk : (limit : ℕ) (rest : List Place) (t : Items) (ws : List Place) (p : Place) (before : List Token) (y : St) → Good limit y → W rest (At t ws (Inside p before)) ≡ Some y → Outcome limit t p before
inside_walk limit [] t ws p before y h e =
    let q : At t ws (Inside p before) ≡ y = cc in
    let g = (subst (λ z. Good limit z) (sym q) h).1 in
    inr (record { more = []; fits = subst (λ l. body.IsFront (controls t) (body_at t p) limit l) (sym (append-nil before)) g.fits; short = g.short })
inside_walk limit (w ∷ rest) t ws p before y h e =
    by (meaning (rules.half_of Free before) t w) (λ x f. inside_walk limit rest t (ws ++ w ∷ []) p (before ++ x ∷ []) y h f) e
  where
    by : (m : Result Token Cause) → ((x : Token) → W rest (At t (ws ++ w ∷ []) (Inside p (before ++ x ∷ []))) ≡ Some y → Outcome limit t p (before ++ x ∷ [])) → then (in_body t ws p before w m) (W rest) ≡ Some y → Outcome limit t p before
    by (Err d) ih f = cc
    by (Ok x) ih f = shorter limit t p before x (outcome limit t ws p before w x rest y (is_semi x) (accept Top Empty Free (before ++ SEMI ∷ [])) h refl refl (ih x) f)

name_of_outcome : (limit : ℕ) (t : Items) (p : Place) (front : List Token) → Outcome limit t p front → (length p.name < 32) × (body_at t p ≤ limit)
name_of_outcome limit t p front x4 = grind arith

name_clean : (limit : ℕ) (t : Items) (y : St) (ws : List Place) (w : Place) (rest : List Place) (l : Lead) (cause : Cause) → AtName limit t w l cause → Good limit y → then (at_name t ws w l) (W rest) ≡ Some y → ⊥
name_clean limit t y ws w rest (Makes x) c.BadName h so e = let f = (walk_sound limit rest (Then t (ws ++ w ∷ []) (Header w x)) [] Whole y e (good_items limit y so)).1.fits.0 in omega (arith, f, h)
name_clean limit t y ws w rest (Makes x) c.Full h so e = let f = (walk_sound limit rest (Then t (ws ++ w ∷ []) (Header w x)) [] Whole y e (good_items limit y so)).1.room in omega (arith, f, h)
name_clean limit t y ws w rest Defines c.BadName h so e = let f = (name_of_outcome limit t w [] (inside_walk limit rest t (ws ++ w ∷ []) w [] y so e)).0 in omega (arith, f, h)
name_clean limit t y ws w rest Defines c.Full h so e = let f = (name_of_outcome limit t w [] (inside_walk limit rest t (ws ++ w ∷ []) w [] y so e)).1 in omega (arith, f, h)
name_clean limit t y ws w rest Starts c.Misplaced h so e = let f : None ≡ Some y = ap (λ o. then (started t ws w o) (W rest)) (sym h.0) ∙ e in cc
name_clean limit t y ws w rest Starts c.Unknown h so e = let f : None ≡ Some y = ap (λ o. then (started t ws w o) (W rest)) (sym h.0) ∙ e in cc
name_clean limit t y ws w rest _ _ h so e = absurd h

vocabulary_clean : (t : Items) (y : St) (ws : List Place) (v : ℕ) (w : Place) (rest : List Place) (sort : Sort) (cause : Cause) → AtVocabulary sort cause → then (at_vocabulary t ws v w sort) (W rest) ≡ Some y → ⊥
vocabulary_clean t y ws v w rest sort cause h e = grind arith

outcome_clean : (limit : ℕ) (t : Items) (p : Place) (before : List Token) (x : Token) (cause : Cause) → Outcome limit t p (before ++ x ∷ []) → causes.Applies (controls t) (body_at t p) limit (refusal cause) before x → ⊥
outcome_clean limit t p before x cause (inl z) h =
    let b = z.body_is in
    let g = z.sound in
    let room' = g.room in
    let l = laid-append (all_words b) (SEMI ∷ []) in
    let good : body.IsGood (controls t) (body_at t p) limit (all_words b ++ SEMI ∷ []) b (length (all_words b ++ SEMI ∷ [])) =
    record { after = []; is = sym (append-nil (all_words b ++ SEMI ∷ [])); used_is = refl; shallow = g.fits.1; known = g.fits.2; short = g.fits.3; room = omega (arith, laid-all b, l, room') } in
    no_refusal cause (clean (controls t) (body_at t p) limit (all_words b ++ SEMI ∷ []) b (length (all_words b ++ SEMI ∷ [])) before z.more x (refusal cause) good z.is h)
outcome_clean limit t p before x cause (inr z) h =
    no_refusal cause (front_clean (controls t) (body_at t p) limit before z.more x (refusal cause) (subst (λ l. body.IsFront (controls t) (body_at t p) limit l) (append_assoc before (x ∷ []) z.more) z.fits) h)

body_clean : (limit : ℕ) (t : Items) (y : St) (ws : List Place) (p : Place) (before : List Token) (w : Place) (rest : List Place) (m : Result Token Cause) (cause : Cause) → InBody (controls t) (body_at t p) limit before m cause → Good limit y → then (in_body t ws p before w m) (W rest) ≡ Some y → ⊥
body_clean limit t y ws p before w rest (Err d) cause h so e = cc
body_clean limit t y ws p before w rest (Ok x) cause h so e =
    outcome_clean limit t p before x cause (outcome limit t ws p before w x rest y (is_semi x) (accept Top Empty Free (before ++ SEMI ∷ [])) so refl refl (inside_walk limit rest t (ws ++ w ∷ []) p (before ++ x ∷ []) y so) e) h

word_clean : (limit : ℕ) (t : Items) (ws : List Place) (stage : Stage) (y : St) (w : Place) (rest tail : List Place) (cause : Cause) → Applies limit t stage w (rest ++ tail) cause → Good limit y → Tail limit y tail → W (w ∷ rest) (At t ws stage) ≡ Some y → ⊥
word_clean limit t ws Whole y w rest tail cause h so tl e = item_clean limit t y w rest tail w.sort cause h so tl e
word_clean limit t ws (Counted n) y w rest tail cause h so tl e = number_clean limit t y ws n w rest w.sort cause h so e
word_clean limit t ws (Due l) y w rest tail cause h so tl e = name_clean limit t y ws w rest l cause h so e
word_clean limit t ws (Chosen v) y w rest tail cause h so tl e = vocabulary_clean t y ws v w rest w.sort cause h e
word_clean limit t ws (Inside p before) y w rest tail cause h so tl e = body_clean limit t y ws p before w rest (meaning (rules.half_of Free before) t w) cause h so e

-- a front leads to one state
walk_to : (limit : ℕ) (before : List Place) (t : Items) (ws : List Place) (stage : Stage) → IsFront limit before t ws stage → W before (At Nothing [] Whole) ≡ Some (At t ws stage)
walk_to limit before t ws stage f = ap (λ l. W l (At Nothing [] Whole)) (sym (append-nil before)) ∙ front_run St keep limit before t ws stage [] f

walk_on : (limit : ℕ) (before rest whole : List Place) (t u : Items) (ws vs : List Place) (stage st : Stage) → IsFront limit before t ws stage → IsFront limit whole u vs st → whole ≡ before ++ rest → W rest (At t ws stage) ≡ Some (At u vs st)
walk_on limit before rest whole t u ws vs stage st f g e =
    sym (front_run St keep limit before t ws stage rest f) ∙ ap (λ l. W l (At Nothing [] Whole)) (sym e) ∙ walk_to limit whole u vs st g

same_state : (limit : ℕ) (before : List Place) (t u : Items) (ws vs : List Place) (stage st : Stage) → IsFront limit before t ws stage → IsFront limit before u vs st → (t ≡ u) × (ws ≡ vs) × (stage ≡ st)
same_state limit before t u ws vs stage st f g =
    let e : Some (At t ws stage) ≡ Some (At u vs st) = sym (walk_to limit before t ws stage f) ∙ walk_to limit before u vs st g in
    (cc, cc, cc)

-- where a fault is
record AtWord (limit : ℕ) (source : List Place) (screen offset : ℕ) (cause : Cause) : Type 0 where
  before : List Place
  word : Place
  after : List Place
  items : Items
  words : List Place
  stage : Stage
  is : source ≡ before ++ word ∷ after
  screen_is : screen ≡ word.screen
  offset_is : offset ≡ word.offset
  front : IsFront limit before items words stage
  first : cause_at limit items stage word after ≡ Some cause

record AtEnd (limit : ℕ) (source : List Place) (last screen offset : ℕ) (cause : Cause) : Type 0 where
  items : Items
  words : List Place
  stage : Stage
  screen_is : screen ≡ last
  offset_is : offset ≡ 1024
  front : IsFront limit source items words stage
  kind : ((cause ≡ c.EndsInside) × (stage ≢ Whole)) ⊎ ((cause ≡ c.NoBoot) × (stage ≡ Whole))

abbrev View : ℕ → List Place → ℕ → ℕ → ℕ → Cause → Type 0
View limit source last screen offset cause = (cause ≡ c.OutOfMemory) ⊎ AtEnd limit source last screen offset cause ⊎ AtWord limit source screen offset cause

view : (limit : ℕ) (source : List Place) (last screen offset : ℕ) (cause : Cause) → IsFault limit source last screen offset cause → View limit source last screen offset cause
view limit source last screen offset c.OutOfMemory f = inl refl
view limit source last screen offset c.EndsInside f = inr (inl (record { items = f.2.0; words = f.2.1; stage = f.2.2; screen_is = f.0; offset_is = f.1; front = f.2.3; kind = inl (refl, f.2.4) }))
view limit source last screen offset c.NoBoot f = inr (inl (record { items = f.2.0; words = []; stage = Whole; screen_is = f.0; offset_is = f.1; front = f.2.1; kind = inr (refl, refl) }))
view limit source last screen offset d f = inr (inr (record { before = f.0; word = f.1; after = f.2; items = f.3; words = f.4; stage = f.5; is = f.6; screen_is = f.7; offset_is = f.8; front = f.9; first = f.10 }))

pub turned : (p q o n : ℕ) (a b : Cause) → IsSameFault q n b p o a → IsSameFault p o a q n b
turned p q o n a b x6 = grind arith

at_one_word : (limit : ℕ) (source : List Place) (p q o n : ℕ) (a b : Cause) (f : AtWord limit source p o a) (g : AtWord limit source q n b) → g.before ≡ f.before → f.word ≡ g.word → f.after ≡ g.after → IsSameFault p o a q n b
at_one_word limit source p q o n a b f g e h i =
    let st = same_state limit f.before f.items g.items f.words g.words f.stage g.stage f.front (subst (λ l. IsFront limit l g.items g.words g.stage) e g.front) in
    inr (inr (f.screen_is ∙ ap (λ v. v.screen) h ∙ sym g.screen_is, f.offset_is ∙ ap (λ v. v.offset) h ∙ sym g.offset_is, same_cause st.0 st.2))
  where
    same_cause : f.items ≡ g.items → f.stage ≡ g.stage → a ≡ b
    same_cause j k =
        let q : cause_at limit f.items f.stage f.word f.after ≡ cause_at limit g.items g.stage g.word g.after = rw (j, k, h, i) refl in
        let z : Some a ≡ Some b = sym f.first ∙ q ∙ g.first in
        cc

words_differ : (limit : ℕ) (source : List Place) (p q o n : ℕ) (a b : Cause) (f : AtWord limit source p o a) (g : AtWord limit source q n b) (z : List Place) → g.before ≡ f.before ++ z → f.word ∷ f.after ≡ z ++ g.word ∷ g.after → IsSameFault p o a q n b
words_differ limit source p q o n a b f g [] e h =
    let x : f.word ≡ g.word = cc in
    let y : f.after ≡ g.after = cc in
    at_one_word limit source p q o n a b f g (e ∙ append-nil f.before) x y
words_differ limit source p q o n a b f g (v ∷ z) e h =
    let x : f.word ≡ v = cc in
    let y : f.after ≡ z ++ g.word ∷ g.after = cc in
    elim (ranked b) [
      | inl m ↦ inr (inl m)
      | inr m ↦ absurd (word_clean limit f.items f.words f.stage (At g.items g.words g.stage) f.word z (g.word ∷ g.after) a
          (subst (λ l. Applies limit f.items f.stage f.word l a) y (said limit f.before f.items f.words f.stage f.word f.after a f.front f.first))
          (g.front.sound, g.front.begun)
          (inr (g.word, g.after, b, refl, said limit g.before g.items g.words g.stage g.word g.after b g.front g.first, m))
          (walk_on limit f.before (f.word ∷ z) g.before f.items g.items f.words g.words f.stage g.stage f.front g.front (e ∙ ap (λ u. f.before ++ u ∷ z) (sym x))))
    ]

front_and_word : (limit : ℕ) (source : List Place) (t : Items) (ws : List Place) (stage : Stage) (screen offset : ℕ) (cause : Cause) → IsFront limit source t ws stage → AtWord limit source screen offset cause → ⊥
front_and_word limit source t ws stage screen offset cause f g =
    word_clean limit g.items g.words g.stage (At t ws stage) g.word g.after [] cause
    (subst (λ l. Applies limit g.items g.stage g.word l cause) (sym (append-nil g.after)) (said limit g.before g.items g.words g.stage g.word g.after cause g.front g.first))
    (f.sound, f.begun) (inl refl)
    (walk_on limit g.before (g.word ∷ g.after) source g.items t g.words ws g.stage stage g.front f g.is)

end_and_word : (limit : ℕ) (source : List Place) (last p q o n : ℕ) (a b : Cause) → AtEnd limit source last p o a → AtWord limit source q n b → ⊥
end_and_word limit source last p q o n a b f g = front_and_word limit source f.items f.words f.stage q n b f.front g

-- among words that nothing is wrong with, none is at fault
pub none_at_fault : (limit : ℕ) (source : List Place) (t : Items) (ws : List Place) (stage : Stage) (last screen offset : ℕ) (cause : Cause) → 1 < rank cause → rank cause < 9 → IsFront limit source t ws stage
    → IsFault limit source last screen offset cause → ⊥
none_at_fault limit source t ws stage last screen offset cause low high f h =
    elim (view limit source last screen offset cause h) [
      | inl none ↦ omega (arith, low, ap rank none)
      | inr (inl ended) ↦ elim ended.kind [
        | inl x ↦ omega (arith, low, ap rank x.0)
        | inr x ↦ omega (arith, high, ap rank x.0)
      ]
      | inr (inr word) ↦ front_and_word limit source t ws stage screen offset cause f word
    ]

one_kind : (s1 s2 : Stage) (a b : Cause) → s1 ≡ s2 → ((a ≡ c.EndsInside) × (s1 ≢ Whole)) ⊎ ((a ≡ c.NoBoot) × (s1 ≡ Whole)) → ((b ≡ c.EndsInside) × (s2 ≢ Whole)) ⊎ ((b ≡ c.NoBoot) × (s2 ≡ Whole)) → a ≡ b
one_kind s1 s2 a b e x5 x6 = grind arith

by_view : (limit : ℕ) (source : List Place) (last p q o n : ℕ) (a b : Cause) → View limit source last p o a → View limit source last q n b → IsSameFault p o a q n b
by_view limit source last p q o n a b (inl x) g = inl x
by_view limit source last p q o n a b f (inl x) = inr (inl x)
by_view limit source last p q o n a b (inr (inl x)) (inr (inl y)) = grind (arith, one_kind, same_state limit source x.items y.items x.words y.words x.stage y.stage x.front y.front)
by_view limit source last p q o n a b (inr (inl x)) (inr (inr g)) = absurd (end_and_word limit source last p q o n a b x g)
by_view limit source last p q o n a b (inr (inr f)) (inr (inl y)) = absurd (end_and_word limit source last q p n o b a y f)
by_view limit source last p q o n a b (inr (inr f)) (inr (inr g)) =
    elim (two_cuts f.before (f.word ∷ f.after) g.before (g.word ∷ g.after) (sym f.is ∙ g.is)) [
      | inl z ↦ words_differ limit source p q o n a b f g z.0 z.1 z.2
      | inr z ↦ turned p q o n a b (words_differ limit source q p n o b a g f z.0 z.1 z.2)
    ]

pub one_fault : (limit : ℕ) (source : List Place) (last p q o n : ℕ) (a b : Cause) → IsFault limit source last p o a → IsFault limit source last q n b → IsSameFault p o a q n b
one_fault limit source last p q o n a b f g = by_view limit source last p q o n a b (view limit source last p o a f) (view limit source last q n b g)

-- a good source is the words of one list of items
good_front : (limit : ℕ) (source : List Place) (t : Items) (e : ℕ) → IsGood limit source t e → IsFront limit source t [] Whole
good_front limit source t e g = record { is = g.is ∙ sym (append-nil (item_words t)); sound = g.sound; begun = refl }

pub one_list : (limit : ℕ) (source : List Place) (t u : Items) (e f : ℕ) → IsGood limit source t e → IsGood limit source u f → (t ≡ u) × (e ≡ f)
one_list limit source t u e f g h = grind (arith, good_front, same_state limit source t u [] [] Whole Whole (good_front limit source t e g) (good_front limit source u f h))

pub one_image : (count : ℕ) (d : Disk) (from to : ℕ) (a b : Contents) (x y : Done) → IsBuiltOf count d from to a x → IsBuiltOf count d from to b y → a ≡ b
one_image count d from to a b x y g h =
    let s = one_list (limit_of count) (all_placed (source_of d from to)) g.items h.items a.entry b.entry g.good h.good in
    let i : a.bytes ≡ b.bytes = g.is ∙ ap image s.0 ∙ sym h.is in
    same_contents a b (g.buffers ∙ sym h.buffers) s.1 i
  where
    same_contents : (a b : Contents) → a.buffers ≡ b.buffers → a.entry ≡ b.entry → a.bytes ≡ b.bytes → a ≡ b
    same_contents a b n e i = rw (n, e, i) refl
