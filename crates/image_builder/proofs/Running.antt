-- The words of a source, one after another, and what they come to.
use Rattle.std.proofs.Common.{◌≡◌, ℕ, inl, inr, List, [], ◌∷◌, ◌++◌, map, refl, sym, ap, ◌∙◌, subst, append_assoc, append-nil, length, arith}
use Rattle.std.specs.Prelude.{Bool, true, false, cond, Option, Some, None, Result, Ok, Err}
use Rattle.colon_bodies.specs.Tokens.{Token, NAME, NUMBER, DOUBLE, TEXT, TICK, FORCE, COMPILE, THEN, UNTIL, AGAIN, REPEAT, LOOP, DOES, SEMI}
use Rattle.colon_bodies.specs.Tree.{Body, Empty, Call, Tick, Pair, Literal, Double, Text, IfThen, IfElse, Until, Again, While, Loop, Definition, Simple, Doing, words, all_words}
use Rattle.colon_bodies.specs.declared.words.Half.{Half}
use Rattle.colon_bodies.specs.declared.words.Half.TheVariants.{Free}
use Rattle.colon_bodies.specs.Rules as rules
use Rattle.colon_bodies.proofs.Taking.{half-append, laid-append, laid-all}
use Rattle.colon_bodies.specs.Open.{Top}
use Rattle.colon_bodies.proofs.Reading.{accept, accept_all}
use Rattle.colon_bodies.proofs.Exact.{two_cuts, clean, accept_is}
use Rattle.image_builder.specs.declared.spot.Sort.{Sort}
use Rattle.image_builder.specs.declared.spot.Sort.TheVariants as s
use Rattle.image_builder.specs.declared.cause.Cause.{Cause}
use Rattle.image_builder.specs.declared.entry.Kind.TheVariants as k
use Rattle.image_builder.specs.declared.entry.Lead.{Lead}
use Rattle.image_builder.specs.declared.entry.Lead.TheVariants.{Makes, Defines, Starts}
use Rattle.image_builder.specs.Places.{Place}
use Rattle.image_builder.specs.Names.{Name, address}
use Rattle.image_builder.specs.Items.{Item, Header, Colon, Cell, Byte, Allot, Immediate, Definitions, Boot, Items, Nothing, Then, item_words, controls}
use Rattle.image_builder.specs.Meanings.{look, record_named, meaning, meanings, half_past}
use Rattle.image_builder.specs.Grammar.{AreSound, Spells, Leads, IsSound}
use Rattle.image_builder.specs.Stages.{Stage, Whole, Counted, Due, Chosen, Inside, Begun, IsFront, body_at}
use Rattle.colon_bodies.specs.Faults as body
use Rattle.colon_bodies.specs.declared.fault.BodyCause.TheVariants as r
use Rattle.image_builder.specs.declared.cause.Cause.TheVariants as c
use Rattle.image_builder.specs.Faults.{IsFault, IsGood}
use Rattle.image_builder.proofs.Applying.{AtItem, AtNumber, AtName, AtVocabulary, InBody, Applies, refusal, said}

-- A reader of items, and that a good source has no fault.
pub data St : Type 0 where
  At : Items → List Place → Stage → St

abbrev pub chosen : Items → Place → Option ℕ → Option St
chosen t w None = None
chosen t w (Some v) = Some (At t (w ∷ []) (Chosen v))

abbrev pub at_item : Items → Place → Sort → Option St
at_item t w (s.Number n) = Some (At t (w ∷ []) (Counted n))
at_item t w s.Variable = Some (At t (w ∷ []) (Due (Makes k.Variable)))
at_item t w s.Create = Some (At t (w ∷ []) (Due (Makes k.Create)))
at_item t w s.Vocabulary = Some (At t (w ∷ []) (Due (Makes k.Vocabulary)))
at_item t w s.Colon = Some (At t (w ∷ []) (Due Defines))
at_item t w s.Boot = Some (At t (w ∷ []) (Due Starts))
at_item t w s.Immediate = Some (At (Then t (w ∷ []) Immediate) [] Whole)
at_item t w s.Other = chosen t w (record_named t w)
at_item t w _ = None

abbrev pub at_number : Items → List Place → ℕ → Place → Sort → Option St
at_number t ws n w s.Prim = Some (At t (ws ++ w ∷ []) (Due (Makes (k.Primitive n))))
at_number t ws n w s.Constant = Some (At t (ws ++ w ∷ []) (Due (Makes (k.Constant n))))
at_number t ws n w s.Comma = Some (At (Then t (ws ++ w ∷ []) (Cell n)) [] Whole)
at_number t ws n w s.CharComma = Some (At (Then t (ws ++ w ∷ []) (Byte n)) [] Whole)
at_number t ws n w s.Allot = Some (At (Then t (ws ++ w ∷ []) (Allot n)) [] Whole)
at_number t ws n w _ = None

abbrev pub started : Items → List Place → Place → Option Name → Option St
started t ws w None = None
started t ws w (Some n) = Some (At (Then t (ws ++ w ∷ []) (Boot (address n))) [] Whole)

abbrev pub at_name : Items → List Place → Place → Lead → Option St
at_name t ws w (Makes x) = Some (At (Then t (ws ++ w ∷ []) (Header w x)) [] Whole)
at_name t ws w Defines = Some (At t (ws ++ w ∷ []) (Inside w []))
at_name t ws w Starts = started t ws w (look t w)

abbrev pub at_vocabulary : Items → List Place → ℕ → Place → Sort → Option St
at_vocabulary t ws v w s.Definitions = Some (At (Then t (ws ++ w ∷ []) (Definitions v)) [] Whole)
at_vocabulary t ws v w _ = None

abbrev pub is_semi : Token → Bool
is_semi SEMI = true
is_semi _ = false

abbrev pub closed : Items → List Place → Place → Place → Option Definition → Option St
closed t ws p w None = None
closed t ws p w (Some b) = Some (At (Then t (ws ++ w ∷ []) (Colon p b)) [] Whole)

abbrev pub in_body : Items → List Place → Place → List Token → Place → Result Token Cause → Option St
in_body t ws p before w (Err d) = None
in_body t ws p before w (Ok x) = cond (is_semi x) (closed t ws p w (accept Top Empty Free (before ++ SEMI ∷ []))) (Some (At t (ws ++ w ∷ []) (Inside p (before ++ x ∷ []))))

abbrev pub step : St → Place → Option St
step (At t ws Whole) w = at_item t w w.sort
step (At t ws (Counted n)) w = at_number t ws n w w.sort
step (At t ws (Due l)) w = at_name t ws w l
step (At t ws (Chosen v)) w = at_vocabulary t ws v w w.sort
step (At t ws (Inside p before)) w = in_body t ws p before w (meaning (rules.half_of Free before) t w)

abbrev pub ending : St → Option Items
ending (At t ws Whole) = Some t
ending (At t ws _) = None

abbrev pub then : {X : Type 0} → Option St → (St → Option X) → Option X
then None f = None
then (Some x) f = f x

module _ (X : Type 0) (finally : St → Option X) where
  abbrev pub run : List Place → St → Option X
  run [] x = finally x
  run (w ∷ ws) x = then (step x w) (run ws)

  -- two words of an item
  two : (t : Items) (a b : Place) (rest : List Place) (n : ℕ) (sort : Sort) → a.sort ≡ s.Number n → b.sort ≡ sort → run (a ∷ b ∷ rest) (At t [] Whole) ≡ then (at_number t (a ∷ []) n b sort) (run rest)
  two t a b rest n sort e f = ap (λ x. then (at_item t a x) (run (b ∷ rest))) e ∙ ap (λ x. then (at_number t (a ∷ []) n b x) (run rest)) f

  -- what leads up to a name
  leads : (t : Items) (l : Lead) (front rest : List Place) → Leads l front → run (front ++ rest) (At t [] Whole) ≡ run rest (At t front (Due l))
  leads t (Makes (k.Primitive n)) front rest h =
      ap (λ f. run (f ++ rest) (At t [] Whole)) h.2 ∙ two t h.0 h.1 rest n s.Prim h.3 h.4 ∙ ap (λ f. run rest (At t f (Due (Makes (k.Primitive n))))) (sym h.2)
  leads t (Makes (k.Constant n)) front rest h =
      ap (λ f. run (f ++ rest) (At t [] Whole)) h.2 ∙ two t h.0 h.1 rest n s.Constant h.3 h.4 ∙ ap (λ f. run rest (At t f (Due (Makes (k.Constant n))))) (sym h.2)
  leads t (Makes k.Variable) front rest h =
      ap (λ f. run (f ++ rest) (At t [] Whole)) h.1 ∙ ap (λ x. then (at_item t h.0 x) (run rest)) h.2 ∙ ap (λ f. run rest (At t f (Due (Makes k.Variable)))) (sym h.1)
  leads t (Makes k.Create) front rest h =
      ap (λ f. run (f ++ rest) (At t [] Whole)) h.1 ∙ ap (λ x. then (at_item t h.0 x) (run rest)) h.2 ∙ ap (λ f. run rest (At t f (Due (Makes k.Create)))) (sym h.1)
  leads t (Makes k.Vocabulary) front rest h =
      ap (λ f. run (f ++ rest) (At t [] Whole)) h.1 ∙ ap (λ x. then (at_item t h.0 x) (run rest)) h.2 ∙ ap (λ f. run rest (At t f (Due (Makes k.Vocabulary)))) (sym h.1)
  leads t Defines front rest h =
      ap (λ f. run (f ++ rest) (At t [] Whole)) h.1 ∙ ap (λ x. then (at_item t h.0 x) (run rest)) h.2 ∙ ap (λ f. run rest (At t f (Due Defines))) (sym h.1)
  leads t Starts front rest h =
      ap (λ f. run (f ++ rest) (At t [] Whole)) h.1 ∙ ap (λ x. then (at_item t h.0 x) (run rest)) h.2 ∙ ap (λ f. run rest (At t f (Due Starts))) (sym h.1)

  -- the words of a body
  abbrev pub NoSemi : List Token → Type 0
  NoSemi [] = Unit {0}
  NoSemi (x ∷ xs) = (is_semi x ≡ false) × NoSemi xs

  no_semi-append : (xs ys : List Token) → NoSemi xs → NoSemi ys → NoSemi (xs ++ ys)
  no_semi-append [] ys a b = b
  no_semi-append (x ∷ xs) ys a b = (a.0, no_semi-append xs ys a.1 b)

  no_semi : (b : Body) → NoSemi (words b)
  no_semi Empty = tt
  no_semi (Call t false w) = no_semi-append (words t) (NAME w ∷ []) (no_semi t) (refl, tt)
  no_semi (Call t true w) = no_semi-append (words t) (FORCE ∷ NAME w ∷ []) (no_semi t) (refl, (refl, tt))
  no_semi (Tick t w) = no_semi-append (words t) (TICK ∷ NAME w ∷ []) (no_semi t) (refl, (refl, tt))
  no_semi (Pair t false w) = no_semi-append (words t) (COMPILE ∷ NAME w ∷ []) (no_semi t) (refl, (refl, tt))
  no_semi (Pair t true w) = no_semi-append (words t) (COMPILE ∷ FORCE ∷ NAME w ∷ []) (no_semi t) (refl, (refl, (refl, tt)))
  no_semi (Double t w) = no_semi-append (words t) (DOUBLE w ∷ []) (no_semi t) (refl, tt)
  no_semi (Literal t w) = no_semi-append (words t) (NUMBER w ∷ []) (no_semi t) (refl, tt)
  no_semi (Text t k w) = no_semi-append (words t) (TEXT k w ∷ []) (no_semi t) (refl, tt)
  no_semi (IfThen t a) = no_semi-append (words t) _ (no_semi t) (refl, no_semi-append (words a) (THEN ∷ []) (no_semi a) (refl, tt))
  no_semi (IfElse t a b) = no_semi-append (words t) _ (no_semi t) (refl, no_semi-append (words a) _ (no_semi a) (refl, no_semi-append (words b) (THEN ∷ []) (no_semi b) (refl, tt)))
  no_semi (Until t a) = no_semi-append (words t) _ (no_semi t) (refl, no_semi-append (words a) (UNTIL ∷ []) (no_semi a) (refl, tt))
  no_semi (Again t a) = no_semi-append (words t) _ (no_semi t) (refl, no_semi-append (words a) (AGAIN ∷ []) (no_semi a) (refl, tt))
  no_semi (While t a b) = no_semi-append (words t) _ (no_semi t) (refl, no_semi-append (words a) _ (no_semi a) (refl, no_semi-append (words b) (REPEAT ∷ []) (no_semi b) (refl, tt)))
  no_semi (Loop t a k) = no_semi-append (words t) _ (no_semi t) (refl, no_semi-append (words a) (LOOP k ∷ []) (no_semi a) (refl, tt))

  no_semi_all : (b : Definition) → NoSemi (all_words b)
  no_semi_all (Simple t) = no_semi t
  no_semi_all (Doing t a) = no_semi-append (words t) (DOES ∷ words a) (no_semi t) (refl, no_semi a)

  one_more : (t : Items) (ws : List Place) (p : Place) (before : List Token) (w : Place) (rest : List Place) (x : Token) → meaning (rules.half_of Free before) t w ≡ Ok x → is_semi x ≡ false → run (w ∷ rest) (At t ws (Inside p before)) ≡ run rest (At t (ws ++ w ∷ []) (Inside p (before ++ x ∷ [])))
  one_more t ws p before w rest x m e =
      ap (λ y. then (in_body t ws p before w y) (run rest)) m
      ∙ ap (λ b. then (cond b (closed t ws p w (accept Top Empty Free (before ++ SEMI ∷ []))) (Some (At t (ws ++ w ∷ []) (Inside p (before ++ x ∷ []))))) (run rest)) e

  -- the first of some meanings, and the others
  meanings_cut : (h : Half) (t : Items) (w : Place) (inner : List Place) (x : Token) (xs : List Token) → meanings h t (w ∷ inner) ≡ map (λ v. Ok v) (x ∷ xs) → (meaning h t w ≡ Ok x) × (meanings (rules.half_after h x) t inner ≡ map (λ v. Ok v) xs)
  meanings_cut h t w inner x xs e =
      let a : meaning h t w ≡ Ok x = cc in
      let b : meanings (half_past h (meaning h t w)) t inner ≡ map (λ v. Ok v) xs = cc in
      (a, ap (λ m. meanings (half_past h m) t inner) (sym a) ∙ b)

  inner_run : (t : Items) (p : Place) (inner : List Place) (toks : List Token) (ws : List Place) (before : List Token) (rest : List Place) → meanings (rules.half_of Free before) t inner ≡ map (λ w. Ok w) toks → NoSemi toks → run (inner ++ rest) (At t ws (Inside p before)) ≡ run rest (At t (ws ++ inner) (Inside p (before ++ toks)))
  inner_run t p [] [] ws before rest m h = ap (λ l. run rest (At t l (Inside p before))) (sym (append-nil ws)) ∙ ap (λ l. run rest (At t (ws ++ []) (Inside p l))) (sym (append-nil before))
  inner_run t p [] (x ∷ xs) ws before rest m h = cc
  inner_run t p (w ∷ inner) [] ws before rest m h = cc
  inner_run t p (w ∷ inner) (x ∷ xs) ws before rest m h =
      let c = meanings_cut (rules.half_of Free before) t w inner x xs m in
      one_more t ws p before w (inner ++ rest) x c.0 h.0
      ∙ inner_run t p inner xs (ws ++ w ∷ []) (before ++ x ∷ []) rest (ap (λ g. meanings g t inner) (half-append Free before (x ∷ [])) ∙ c.1) h.1
      ∙ ap (λ l. run rest (At t l (Inside p ((before ++ x ∷ []) ++ xs)))) (append_assoc ws (w ∷ []) inner)
      ∙ ap (λ l. run rest (At t (ws ++ (w ∷ inner)) (Inside p l))) (append_assoc before (x ∷ []) xs)

  unsnoc_means : (t : Items) (h : Half) (ws : List Place) (xs : List Token) (y : Token) → meanings h t ws ≡ map (λ w. Ok w) (xs ++ y ∷ []) → (init : List Place) × (last : Place) × (ws ≡ init ++ last ∷ []) × (meanings h t init ≡ map (λ w. Ok w) xs) × (meaning (rules.half_of h xs) t last ≡ Ok y)
  unsnoc_means t h [] [] y e = cc
  unsnoc_means t h [] (x ∷ xs) y e = cc
  unsnoc_means t h (w ∷ []) [] y e = let c = meanings_cut h t w [] y [] e in ([], w, refl, refl, c.0)
  unsnoc_means t h (w ∷ v ∷ ws) [] y e = let c = meanings_cut h t w (v ∷ ws) y [] e in let z = c.1 in cc
  unsnoc_means t h (w ∷ ws) (x ∷ xs) y e =
      let c = meanings_cut h t w ws x (xs ++ y ∷ []) e in
      let r = unsnoc_means t (rules.half_after h x) ws xs y c.1 in
      (w ∷ r.0, r.1, ap (λ l. w ∷ l) r.2, ap (λ m. m ∷ meanings (half_past h m) t r.0) c.0 ∙ ap (λ l. Ok x ∷ l) r.3, r.4)

  last_word : (t : Items) (ws : List Place) (p w : Place) (b : Definition) (rest : List Place) → meaning (rules.half_of Free (all_words b)) t w ≡ Ok SEMI → run (w ∷ rest) (At t ws (Inside p (all_words b))) ≡ run rest (At (Then t (ws ++ w ∷ []) (Colon p b)) [] Whole)
  last_word t ws p w b rest m =
      ap (λ y. then (in_body t ws p (all_words b) w y) (run rest)) m ∙ ap (λ o. then (closed t ws p w o) (run rest)) (accept_all b)

  item_run : (t : Items) (ws : List Place) (i : Item) (rest : List Place) → Spells t ws i → run (ws ++ rest) (At t [] Whole) ≡ run rest (At (Then t ws i) [] Whole)
  item_run t ws (Header p x) rest h =
      ap (λ l. run (l ++ rest) (At t [] Whole)) h.1 ∙ ap (λ l. run l (At t [] Whole)) (append_assoc h.0 (p ∷ []) rest)
      ∙ leads t (Makes x) h.0 (p ∷ rest) h.2 ∙ ap (λ l. run rest (At (Then t l (Header p x)) [] Whole)) (sym h.1)
  item_run t ws (Colon p b) rest h =
      let front = h.0 in
      let r = unsnoc_means t Free h.1 (all_words b) SEMI h.4 in
      let init = r.0 in let last = r.1 in
      let w : ws ≡ front ++ p ∷ (init ++ last ∷ []) = h.2 ∙ ap (λ l. front ++ p ∷ l) r.2 in
      let x : ((front ++ p ∷ []) ++ init) ++ last ∷ [] ≡ front ++ p ∷ (init ++ last ∷ []) = simp append_assoc in
      ap (λ l. run (l ++ rest) (At t [] Whole)) w ∙ ap (λ l. run l (At t [] Whole)) (append_assoc front (p ∷ (init ++ last ∷ [])) rest)
      ∙ leads t Defines front (p ∷ ((init ++ last ∷ []) ++ rest)) h.3
      ∙ ap (λ l. run l (At t (front ++ p ∷ []) (Inside p []))) (append_assoc init (last ∷ []) rest)
      ∙ inner_run t p init (all_words b) (front ++ p ∷ []) [] (last ∷ rest) r.3 (no_semi_all b)
      ∙ last_word t ((front ++ p ∷ []) ++ init) p last b rest r.4
      ∙ ap (λ l. run rest (At (Then t l (Colon p b)) [] Whole)) (x ∙ sym w)
  item_run t ws (Cell n) rest h =
      ap (λ l. run (l ++ rest) (At t [] Whole)) h.2 ∙ two t h.0 h.1 rest n s.Comma h.3 h.4 ∙ ap (λ l. run rest (At (Then t l (Cell n)) [] Whole)) (sym h.2)
  item_run t ws (Byte n) rest h =
      ap (λ l. run (l ++ rest) (At t [] Whole)) h.2 ∙ two t h.0 h.1 rest n s.CharComma h.3 h.4 ∙ ap (λ l. run rest (At (Then t l (Byte n)) [] Whole)) (sym h.2)
  item_run t ws (Allot n) rest h =
      ap (λ l. run (l ++ rest) (At t [] Whole)) h.2 ∙ two t h.0 h.1 rest n s.Allot h.3 h.4 ∙ ap (λ l. run rest (At (Then t l (Allot n)) [] Whole)) (sym h.2)
  item_run t ws Immediate rest h =
      ap (λ l. run (l ++ rest) (At t [] Whole)) h.1 ∙ ap (λ x. then (at_item t h.0 x) (run rest)) h.2 ∙ ap (λ l. run rest (At (Then t l Immediate) [] Whole)) (sym h.1)
  item_run t ws (Definitions v) rest h =
      ap (λ l. run (l ++ rest) (At t [] Whole)) h.2 ∙ ap (λ x. then (at_item t h.0 x) (run (h.1 ∷ rest))) h.3 ∙ ap (λ o. then (chosen t h.0 o) (run (h.1 ∷ rest))) h.4
      ∙ ap (λ x. then (at_vocabulary t (h.0 ∷ []) v h.1 x) (run rest)) h.5 ∙ ap (λ l. run rest (At (Then t l (Definitions v)) [] Whole)) (sym h.2)
  item_run t ws (Boot w) rest h =
      let front = h.0 in let p = h.1 in
      ap (λ l. run (l ++ rest) (At t [] Whole)) h.3 ∙ ap (λ l. run l (At t [] Whole)) (append_assoc front (p ∷ []) rest)
      ∙ leads t Starts front (p ∷ rest) h.4 ∙ ap (λ o. then (started t front p o) (run rest)) h.5
      ∙ ap (λ l. run rest (At (Then t l (Boot (address h.2))) [] Whole)) (sym h.3) ∙ ap (λ x. run rest (At (Then t ws (Boot x)) [] Whole)) (sym h.6)

  pub sound_run : (limit : ℕ) (t : Items) (rest : List Place) → AreSound limit t → run (item_words t ++ rest) (At Nothing [] Whole) ≡ run rest (At t [] Whole)
  sound_run limit Nothing rest h = refl
  sound_run limit (Then t ws i) rest h =
      ap (λ l. run l (At Nothing [] Whole)) (append_assoc (item_words t) ws rest) ∙ sound_run limit t (ws ++ rest) h.0 ∙ item_run t ws i rest h.1.spells

  -- a front is read
  semi_front : (xs ys : List Token) → NoSemi (xs ++ ys) → NoSemi xs
  semi_front [] ys h = tt
  semi_front (x ∷ xs) ys h = (h.0, semi_front xs ys h.1)

  front_no_semi : (b : Definition) (before more : List Token) → (all_words b ++ SEMI ∷ [] ≡ before → ⊥) → all_words b ++ SEMI ∷ [] ≡ before ++ more → NoSemi before
  front_no_semi b before more f e =
      elim (two_cuts (all_words b) (SEMI ∷ []) before more e) [
        | inl z ↦ by z.0 z.1 z.2
        | inr z ↦ semi_front before z.0 (subst (λ l. NoSemi l) z.1 (no_semi_all b))
      ]
    where
      by : (z : List Token) → before ≡ all_words b ++ z → SEMI ∷ [] ≡ z ++ more → NoSemi before
      by [] u v = subst (λ l. NoSemi l) (sym (u ∙ append-nil (all_words b))) (no_semi_all b)
      by (x ∷ []) u v = let q : SEMI ≡ x = cc in absurd (f (ap (λ y. all_words b ++ y ∷ []) q ∙ sym u))
      by (x ∷ y ∷ z) u v = cc

  begun_run : (limit : ℕ) (t : Items) (ws : List Place) (stage : Stage) (rest : List Place) → Begun limit t ws stage → run (ws ++ rest) (At t [] Whole) ≡ run rest (At t ws stage)
  begun_run limit t ws Whole rest h = ap (λ l. run (l ++ rest) (At t [] Whole)) h ∙ ap (λ l. run rest (At t l Whole)) (sym h)
  begun_run limit t ws (Counted n) rest h =
      ap (λ l. run (l ++ rest) (At t [] Whole)) h.1 ∙ ap (λ x. then (at_item t h.0 x) (run rest)) h.2 ∙ ap (λ l. run rest (At t l (Counted n))) (sym h.1)
  begun_run limit t ws (Due l) rest h = leads t l ws rest h.0
  begun_run limit t ws (Chosen v) rest h =
      ap (λ l. run (l ++ rest) (At t [] Whole)) h.1 ∙ ap (λ x. then (at_item t h.0 x) (run rest)) h.2 ∙ ap (λ o. then (chosen t h.0 o) (run rest)) h.3 ∙ ap (λ l. run rest (At t l (Chosen v))) (sym h.1)
  begun_run limit t ws (Inside p before) rest h =
      let f = h.fits in
      let g = f.begins in
      let n = front_no_semi g.body before g.more (f.open_yet g.body) g.is in
      ap (λ l. run (l ++ rest) (At t [] Whole)) h.is ∙ ap (λ l. run l (At t [] Whole)) (append_assoc h.front (p ∷ h.inner) rest)
      ∙ leads t Defines h.front (p ∷ (h.inner ++ rest)) h.leads
      ∙ inner_run t p h.inner before (h.front ++ p ∷ []) [] rest h.means n
      ∙ ap (λ l. run rest (At t l (Inside p before))) (append_assoc h.front (p ∷ []) h.inner ∙ sym h.is)

  pub front_run : (limit : ℕ) (before : List Place) (t : Items) (ws : List Place) (stage : Stage) (rest : List Place) → IsFront limit before t ws stage → run (before ++ rest) (At Nothing [] Whole) ≡ run rest (At t ws stage)
  front_run limit before t ws stage rest h =
      ap (λ l. run (l ++ rest) (At Nothing [] Whole)) h.is ∙ ap (λ l. run l (At Nothing [] Whole)) (append_assoc (item_words t) ws rest)
      ∙ sound_run limit t (ws ++ rest) h.sound ∙ begun_run limit t ws stage rest h.begun

-- A good source has no fault.
abbrev pub items_in : St → Items
items_in (At t ws stage) = t

same : (limit : ℕ) (x y : St) → Some x ≡ Some y → AreSound limit (items_in y) → AreSound limit (items_in x)
same limit x y e h = let q : x ≡ y = cc in subst (λ z. AreSound limit (items_in z)) (sym q) h

keeps_number : (limit : ℕ) (t : Items) (ws : List Place) (n : ℕ) (w : Place) (sort : Sort) (x : St) → at_number t ws n w sort ≡ Some x → AreSound limit (items_in x) → AreSound limit t
keeps_number limit t ws n w sort x e h = grind (arith, same)

keeps_name : (limit : ℕ) (t : Items) (ws : List Place) (w : Place) (l : Lead) (x : St) → at_name t ws w l ≡ Some x → AreSound limit (items_in x) → AreSound limit t
keeps_name limit t ws w l x e h = grind (arith, same, started)

keeps_vocabulary : (limit : ℕ) (t : Items) (ws : List Place) (v : ℕ) (w : Place) (sort : Sort) (x : St) → at_vocabulary t ws v w sort ≡ Some x → AreSound limit (items_in x) → AreSound limit t
keeps_vocabulary limit t ws v w sort x e h = grind (arith, same)

keeps_body : (limit : ℕ) (t : Items) (ws : List Place) (p : Place) (before : List Token) (w : Place) (m : Result Token Cause) (x : St) → in_body t ws p before w m ≡ Some x → AreSound limit (items_in x) → AreSound limit t
keeps_body limit t ws p before w m x e h = grind (arith, is_semi, accept, closed, same)

pub keeps : (limit : ℕ) (t : Items) (ws : List Place) (stage : Stage) (w : Place) (x : St) → step (At t ws stage) w ≡ Some x → AreSound limit (items_in x) → AreSound limit t
keeps limit t ws stage w x e h = grind (arith, keeps_number, keeps_name, keeps_vocabulary, keeps_body)

through : (limit : ℕ) (t u : Items) (rest : List Place) (o : Option St) → ((x : St) → o ≡ Some x → AreSound limit (items_in x) → AreSound limit t) → ((v : Items) (vs : List Place) (stage : Stage) → run Items ending rest (At v vs stage) ≡ Some u → AreSound limit v) → then o (run Items ending rest) ≡ Some u → AreSound limit t
through limit t u rest None f ih e = cc
through limit t u rest (Some (At v vs stage)) f ih e = f (At v vs stage) refl (ih v vs stage e)

ended : (limit : ℕ) (t : Items) (ws : List Place) (stage : Stage) (u : Items) → ending (At t ws stage) ≡ Some u → AreSound limit u → AreSound limit t
ended limit t ws stage u e h = grind arith

-- what is read so far of sound items is sound
run_sound : (limit : ℕ) (rest : List Place) (t : Items) (ws : List Place) (stage : Stage) (u : Items) → run Items ending rest (At t ws stage) ≡ Some u → AreSound limit u → AreSound limit t
run_sound limit [] t ws stage u e h = ended limit t ws stage u e h
run_sound limit (w ∷ rest) t ws stage u e h =
    through limit t u rest (step (At t ws stage) w) (keeps limit t ws stage w) (λ v vs st f. run_sound limit rest v vs st u f h) e

-- the definition that an open one becomes
record Becomes (limit : ℕ) (t : Items) (p : Place) (front : List Token) : Type 0 where
  body_is : Definition
  more : List Token
  all : List Place
  is : all_words body_is ++ SEMI ∷ [] ≡ front ++ more
  sound : IsSound limit t all (Colon p body_is)

pub semi_is : (x : Token) → is_semi x ≡ true → x ≡ SEMI
semi_is x e = grind arith

becomes : (limit : ℕ) (t : Items) (ws : List Place) (p : Place) (before : List Token) (w : Place) (x : Token) (rest : List Place) (u : Items) (b : Bool) (o : Option Definition) → AreSound limit u → is_semi x ≡ b → accept Top Empty Free (before ++ SEMI ∷ []) ≡ o → (run Items ending rest (At t (ws ++ w ∷ []) (Inside p (before ++ x ∷ []))) ≡ Some u → Becomes limit t p (before ++ x ∷ [])) → then (cond b (closed t ws p w o) (Some (At t (ws ++ w ∷ []) (Inside p (before ++ x ∷ []))))) (run Items ending rest) ≡ Some u → Becomes limit t p (before ++ x ∷ [])
becomes limit t ws p before w x rest u true None h i a ih e = cc
becomes limit t ws p before w x rest u true (Some z) h i a ih e =
    record {
      body_is = z;
      more = [];
      all = ws ++ w ∷ [];
      is = grind (arith, accept_is, semi_is, append-nil);
      sound = (run_sound limit rest (Then t (ws ++ w ∷ []) (Colon p z)) [] Whole u e h).1;
    }
becomes limit t ws p before w x rest u false o h i a ih e = ih e

inside_sound : (limit : ℕ) (rest : List Place) (t : Items) (ws : List Place) (p : Place) (before : List Token) (u : Items) → AreSound limit u → run Items ending rest (At t ws (Inside p before)) ≡ Some u → Becomes limit t p before
inside_sound limit [] t ws p before u h e = cc
inside_sound limit (w ∷ rest) t ws p before u h e =
    by (meaning (rules.half_of Free before) t w) (λ x f. inside_sound limit rest t (ws ++ w ∷ []) p (before ++ x ∷ []) u h f) e
  where
    by : (m : Result Token Cause) → ((x : Token) → run Items ending rest (At t (ws ++ w ∷ []) (Inside p (before ++ x ∷ []))) ≡ Some u → Becomes limit t p (before ++ x ∷ [])) → then (in_body t ws p before w m) (run Items ending rest) ≡ Some u → Becomes limit t p before
    by (Err d) ih f = cc
    by (Ok x) ih f =
        let z = becomes limit t ws p before w x rest u (is_semi x) (accept Top Empty Free (before ++ SEMI ∷ [])) h refl refl (ih x) f in
        record { body_is = z.body_is; more = x ∷ z.more; all = z.all; is = z.is ∙ append_assoc before (x ∷ []) z.more; sound = z.sound }

-- a word of a good source has no cause
pub sort_of : (limit : ℕ) (t u : Items) (n : ℕ) (ws : List Place) (b : Place) (rest : List Place) (sort : Sort) → b.sort ≡ sort → run Items ending (b ∷ rest) (At t ws (Counted n)) ≡ Some u → then (at_number t ws n b sort) (run Items ending rest) ≡ Some u
sort_of limit t u n ws b rest sort e h = ap (λ x. then (at_number t ws n b x) (run Items ending rest)) (sym e) ∙ h

clean_item : (limit : ℕ) (t u : Items) (w : Place) (after : List Place) (sort : Sort) (cause : Cause) → AtItem t w after sort cause → AreSound limit u → then (at_item t w sort) (run Items ending after) ≡ Some u → ⊥
clean_item limit t u w after s.Double c.BadNumber h so e = cc
clean_item limit t u w [] (s.Number n) c.BadNumber h so e = h.1
clean_item limit t u w (b ∷ rest) (s.Number n) c.BadNumber h so e =
    let f = (run_sound limit rest (Then t ((w ∷ []) ++ b ∷ []) (Allot n)) [] Whole u (sort_of limit t u n (w ∷ []) b rest s.Allot h.1 e) so).1.fits in
    let a = h.0 in
    omega arith
clean_item limit t u w [] (s.Number n) c.BadPrimitive h so e = h.0
clean_item limit t u w (b ∷ []) (s.Number n) c.BadPrimitive h so e = let f = sort_of limit t u n (w ∷ []) b [] s.Prim h.0 e in cc
clean_item limit t u w (b ∷ q ∷ rest) (s.Number n) c.BadPrimitive h so e =
    h.1 (run_sound limit rest (Then t ((w ∷ b ∷ []) ++ q ∷ []) (Header q (k.Primitive n))) [] Whole u (sort_of limit t u n (w ∷ []) b (q ∷ rest) s.Prim h.0 e) so).1.fits.1
clean_item limit t u w after s.Prim c.Misplaced h so e = cc
clean_item limit t u w after s.Constant c.Misplaced h so e = cc
clean_item limit t u w after s.Comma c.Misplaced h so e = cc
clean_item limit t u w after s.CharComma c.Misplaced h so e = cc
clean_item limit t u w after s.Allot c.Misplaced h so e = cc
clean_item limit t u w after s.Definitions c.Misplaced h so e = cc
clean_item limit t u w after s.Immediate c.Misplaced h so e =
    (run_sound limit after (Then t (w ∷ []) Immediate) [] Whole u e so).1.fits h
clean_item limit t u w [] s.Boot c.Misplaced h so e = cc
clean_item limit t u w (q ∷ rest) s.Boot c.Misplaced h so e = by (look t q) e
  where
    by : (o : Option Name) → then (started t (w ∷ []) q o) (run Items ending rest) ≡ Some u → ⊥
    by None f = cc
    by (Some n) f = h (run_sound limit rest (Then t ((w ∷ []) ++ q ∷ []) (Boot (address n))) [] Whole u f so).1.fits
clean_item limit t u w after s.Other c.Misplaced h so e =
    let f : None ≡ Some u = ap (λ o. then (chosen t w o) (run Items ending after)) (sym h.1) ∙ e in cc
clean_item limit t u w after s.Other c.Unknown h so e =
    let f : None ≡ Some u = ap (λ o. then (chosen t w o) (run Items ending after)) (sym h.1) ∙ e in cc
clean_item limit t u w after _ _ h so e = absurd h

clean_number : (limit : ℕ) (t u : Items) (ws : List Place) (n : ℕ) (w : Place) (after : List Place) (sort : Sort) (cause : Cause) → AtNumber limit t n sort cause → AreSound limit u → then (at_number t ws n w sort) (run Items ending after) ≡ Some u → ⊥
clean_number limit t u ws n w after s.Comma c.Full h so e = let f = (run_sound limit after (Then t (ws ++ w ∷ []) (Cell n)) [] Whole u e so).1.room in omega arith
clean_number limit t u ws n w after s.CharComma c.Full h so e = let f = (run_sound limit after (Then t (ws ++ w ∷ []) (Byte n)) [] Whole u e so).1.room in omega arith
clean_number limit t u ws n w after s.Allot c.Full h so e = let f = (run_sound limit after (Then t (ws ++ w ∷ []) (Allot n)) [] Whole u e so).1.room in let a = h.1 in omega (arith, f, a)
clean_number limit t u ws n w after s.Prim cause h so e = absurd (prim cause h)
  where
    prim : (d : Cause) → AtNumber limit t n s.Prim d → ⊥
    prim c.Full h = h
    prim _ h = h
clean_number limit t u ws n w after s.Constant cause h so e = absurd (prim cause h)
  where
    prim : (d : Cause) → AtNumber limit t n s.Constant d → ⊥
    prim c.Full h = h
    prim _ h = h
clean_number limit t u ws n w after s.Comma _ h so e = absurd h
clean_number limit t u ws n w after s.CharComma _ h so e = absurd h
clean_number limit t u ws n w after s.Allot _ h so e = absurd h
clean_number limit t u ws n w after _ cause h so e = cc

clean_name : (limit : ℕ) (t u : Items) (ws : List Place) (w : Place) (after : List Place) (l : Lead) (cause : Cause) → AtName limit t w l cause → AreSound limit u → then (at_name t ws w l) (run Items ending after) ≡ Some u → ⊥
clean_name limit t u ws w after (Makes x) c.BadName h so e = let f = (run_sound limit after (Then t (ws ++ w ∷ []) (Header w x)) [] Whole u e so).1.fits.0 in omega arith
clean_name limit t u ws w after (Makes x) c.Full h so e = let f = (run_sound limit after (Then t (ws ++ w ∷ []) (Header w x)) [] Whole u e so).1.room in omega arith
clean_name limit t u ws w after Defines c.BadName h so e = let f = (inside_sound limit after t (ws ++ w ∷ []) w [] u so e).sound.fits.0 in omega arith
clean_name limit t u ws w after Defines c.Full h so e = let f = (inside_sound limit after t (ws ++ w ∷ []) w [] u so e).sound.room in omega arith
clean_name limit t u ws w after Starts c.Misplaced h so e = let f : None ≡ Some u = ap (λ o. then (started t ws w o) (run Items ending after)) (sym h.0) ∙ e in cc
clean_name limit t u ws w after Starts c.Unknown h so e = let f : None ≡ Some u = ap (λ o. then (started t ws w o) (run Items ending after)) (sym h.0) ∙ e in cc
clean_name limit t u ws w after _ _ h so e = absurd h

clean_vocabulary : (limit : ℕ) (t u : Items) (ws : List Place) (v : ℕ) (w : Place) (after : List Place) (sort : Sort) (cause : Cause) → AtVocabulary sort cause → then (at_vocabulary t ws v w sort) (run Items ending after) ≡ Some u → ⊥
clean_vocabulary limit t u ws v w after sort cause h e = grind arith

pub no_refusal : (d : Cause) → refusal d ≡ r.Memory → ⊥
no_refusal d e = grind arith

clean_body : (limit : ℕ) (t u : Items) (ws : List Place) (p : Place) (before : List Token) (w : Place) (after : List Place) (m : Result Token Cause) (cause : Cause) → InBody (controls t) (body_at t p) limit before m cause → AreSound limit u → then (in_body t ws p before w m) (run Items ending after) ≡ Some u → ⊥
clean_body limit t u ws p before w after (Err d) cause h s e = cc
clean_body limit t u ws p before w after (Ok x) cause h s e =
    let z = becomes limit t ws p before w x after u (is_semi x) (accept Top Empty Free (before ++ SEMI ∷ [])) s refl refl (inside_sound limit after t (ws ++ w ∷ []) p (before ++ x ∷ []) u s) e in
    let b = z.body_is in
    let g = z.sound in
    let l = laid-append (all_words b) (SEMI ∷ []) in
    let good : body.IsGood (controls t) (body_at t p) limit (all_words b ++ SEMI ∷ []) b (length (all_words b ++ SEMI ∷ [])) =
    record { after = []; is = sym (append-nil (all_words b ++ SEMI ∷ [])); used_is = refl; shallow = g.fits.1; known = g.fits.2; short = g.fits.3; room = omega (arith, laid-all b) } in
    no_refusal cause (clean (controls t) (body_at t p) limit (all_words b ++ SEMI ∷ []) b (length (all_words b ++ SEMI ∷ [])) before z.more x (refusal cause) good z.is h)

clean_word : (limit : ℕ) (t u : Items) (ws : List Place) (stage : Stage) (w : Place) (after : List Place) (cause : Cause) → Applies limit t stage w after cause → AreSound limit u → run Items ending (w ∷ after) (At t ws stage) ≡ Some u → ⊥
clean_word limit t u ws Whole w after cause h s e = clean_item limit t u w after w.sort cause h s e
clean_word limit t u ws (Counted n) w after cause h s e = clean_number limit t u ws n w after w.sort cause h s e
clean_word limit t u ws (Due l) w after cause h s e = clean_name limit t u ws w after l cause h s e
clean_word limit t u ws (Chosen v) w after cause h s e = clean_vocabulary limit t u ws v w after w.sort cause h e
clean_word limit t u ws (Inside p before) w after cause h s e = clean_body limit t u ws p before w after (meaning (rules.half_of Free before) t w) cause h s e

whole_run : (limit : ℕ) (source : List Place) (u : Items) (entry : ℕ) → IsGood limit source u entry → run Items ending (source ++ []) (At Nothing [] Whole) ≡ Some u
whole_run limit source u entry g = ap (λ l. run Items ending (l ++ []) (At Nothing [] Whole)) g.is ∙ sound_run Items ending limit u [] g.sound

not_ended : (t u : Items) (ws : List Place) (stage : Stage) → ending (At t ws stage) ≡ Some u → stage ≡ Whole
not_ended t u ws stage e = grind arith

clean_at : (limit : ℕ) (source before after : List Place) (w : Place) (t u : Items) (ws : List Place) (stage : Stage) (entry : ℕ) (cause : Cause) → IsGood limit source u entry → source ≡ before ++ w ∷ after → IsFront limit before t ws stage → Applies limit t stage w after cause → ⊥
clean_at limit source before after w t u ws stage entry cause g e f a =
    clean_word limit t u ws stage w after cause a g.sound
    (sym (front_run Items ending limit before t ws stage (w ∷ after) f) ∙ ap (λ l. run Items ending l (At Nothing [] Whole)) (sym e ∙ sym (append-nil source)) ∙ whole_run limit source u entry g)

pub no_fault : (limit : ℕ) (source : List Place) (u : Items) (entry last screen offset : ℕ) (cause : Cause) → IsGood limit source u entry → IsFault limit source last screen offset cause → cause ≡ c.OutOfMemory
no_fault limit source u entry last screen offset c.OutOfMemory g f = refl
no_fault limit source u entry last screen offset c.EndsInside g f =
    let t = f.2.0 in let ws = f.2.1 in let stage = f.2.2 in
    absurd (f.2.4 (not_ended t u ws stage (sym (front_run Items ending limit source t ws stage [] f.2.3) ∙ whole_run limit source u entry g)))
no_fault limit source u entry last screen offset c.NoBoot g f =
    let t = f.2.0 in
    let q : Some t ≡ Some u = sym (front_run Items ending limit source t [] Whole [] f.2.1) ∙ whole_run limit source u entry g in
    grind arith
no_fault limit source u entry last screen offset cause g f =
    absurd (clean_at limit source f.0 f.2 f.1 f.3 u f.4 f.5 entry cause g f.6 f.9 (said limit f.0 f.3 f.4 f.5 f.1 f.2 cause f.9 f.10))
