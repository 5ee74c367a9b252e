-- A whole definition that is printed is read as it was.
use Rattle.std.proofs.Common.{◌≡◌, ◌≢◌, ℕ, Bool, true, false, not, ◌&&◌, ◌==◌, List, [], ◌∷◌, ◌++◌, length, map, Some, refl, sym, ap, ◌∙◌, arith, append_assoc}
use Rattle.std.specs.Prelude.{All, codes, slice_index}
use Rattle.std.specs.List.{list_all}
use Rattle.std.proofs.lemmas.List.Elements.{All-nil, All-cons}
use Rattle.std.proofs.lemmas.List.{map-append}
use Rattle.source_words.specs.declared.modes.Mode.TheVariants.{Outside}
use Rattle.source_words.specs.Modes.{takes_text, begins_comment, ends_body, names_in_body}
use Rattle.source_words.specs.Words.{screen_words}
use Rattle.source_words.specs.Spaced.{Spelling, spelling, bare, IsStep, AreSteps, IsWhole, joined, is_plain_word, colon_words}
use Rattle.source_words.proofs.Colons.{colon_reread, plain_word_step, led_step, text_step}
use Rattle.colon_bodies.specs.Tokens.{Token, NAME, NUMBER, DOUBLE, TICK, FORCE, LOOP, TEXT, SEMI}
use Rattle.colon_bodies.specs.Tree.{Body, Empty, Definition, words, all_words, named}
use Rattle.colon_bodies.specs.Plain.{respelled, IsPlainBody, IsPlainDefinition, all_spelled}
use Rattle.colon_bodies.proofs.Spelling.{spelled_thread, all_spelled_words}
use Rattle.colon_bodies.specs.declared.words.Half.TheVariants.{Free}
use Rattle.see.specs.Extent.{controls_of, parameter_field, extent}
use Rattle.see.specs.Naming.{is_word, is_quotable, name_at, number_text, IsReadable, AreReadableWords}
use Rattle.see.specs.Printing.{printed, called, all_printed, is_forced, is_keyword, its_words, text}
use Rattle.see.specs.ReadAgain.{tokens_of, AreCells}
use Rattle.see.specs.Seeing.{IsAgain, IsDefined, IsShown, IsReadBack}
use Rattle.see.proofs.Telling.{bare_is, bare_step, neither, number_bare, number_word, all_told}
use Rattle.see.proofs.Showing.{are_all_plain, spelled_within}
use Rattle.colon_bodies.proofs.Parts.{by_parts}

-- ; ends a definition, and is nowhere else
abbrev NoEnd : List Token → Type 0
NoEnd [] = Unit {0}
NoEnd (SEMI ∷ ws) = ⊥
NoEnd (DOUBLE n ∷ ws) = ⊥
NoEnd (TICK ∷ ws) = ⊥
NoEnd (FORCE ∷ ws) = ⊥
NoEnd (w ∷ ws) = NoEnd ws

both : (a b : Bool) → (a && b) ≡ true → (a ≡ true) × (b ≡ true)
both a b h = grind arith

negated : (a : Bool) → not a ≡ true → a ≡ false
negated a h = grind arith

others : (c : ℕ) (xs : List ℕ) → list_all (λ b. not (b == c)) xs ≡ true → All (λ b. b ≢ c) xs
others c [] h = All-nil (λ b. b ≢ c)
others c (x ∷ xs) h =
    let q : (not (x == c) ≡ true) × (list_all (λ b. not (b == c)) xs ≡ true) = both (not (x == c)) (list_all (λ b. not (b == c)) xs) h in
    All-cons (λ b. b ≢ c) x xs (grind arith) (others c xs q.1)

pub whole_word : (name : List ℕ) → is_word name ≡ true → IsWhole name
unfolding is_word
whole_word name h =
    let p = both (not (length name == 0)) (list_all (λ x. not (x == 32)) name) h in
    record { some = grind arith; whole = others 32 name p.1 }

-- a name, forced or not, is a step
name_step : (name : List ℕ) (b : Bool) → is_word name ≡ true → (b ≡ false → is_keyword name ≡ false) → IsStep (called b name)
unfolding names_in_body begins_comment ends_body takes_text is_word
name_step name false w k = bare_step name w (bare_is name (k refl))
name_step name true w k = led_step (codes "[COMPILE]") name (whole_word (codes "[COMPILE]") refl) refl refl refl refl (whole_word name w)

forced_none : (m : List ℕ) (l w : ℕ) → is_forced m l w ≡ false → is_keyword (name_at m w) ≡ false
unfolding is_forced
forced_none m l w h = (neither _ (is_keyword (name_at m w)) h).1

-- the steps of some words
abbrev steps : List ℕ → ℕ → List Token → List (List Spelling)
steps m l [] = []
steps m l (NAME w ∷ ws) = called (is_forced m l w) (name_at m w) ∷ steps m l ws
steps m l (w ∷ ws) = (printed m w ∷ []) ∷ steps m l ws

named_printed : (m : List ℕ) (b : Bool) (w : ℕ) (xs : List Token) → map (printed m) (named b w ++ xs) ≡ called b (name_at m w) ++ map (printed m) xs
named_printed m b w xs = grind arith

joined_steps : (m : List ℕ) (l : ℕ) (ws : List Token) → joined (steps m l ws) ≡ all_printed m l ws
joined_steps m l [] = refl
joined_steps m l (NAME w ∷ ws) = ap (λ k. called (is_forced m l w) (name_at m w) ++ k) (joined_steps m l ws) ∙ sym (named_printed m (is_forced m l w) w (respelled (is_forced m l) ws))
joined_steps m l (w ∷ ws) = ap (λ k. printed m w ∷ k) (joined_steps m l ws)

keyword_step : (name : List ℕ) → is_plain_word name ≡ true → IsStep (bare name ∷ [])
keyword_step name h = plain_word_step name h

pub are_steps : (m : List ℕ) (l : ℕ) (ws : List Token) → NoEnd ws → AreReadableWords m l ws → AreCells ws → AreSteps (steps m l ws)
unfolding AreSteps is_plain_word begins_comment ends_body names_in_body takes_text is_quotable is_word
are_steps m l [] e r c = tt
are_steps m l (NAME w ∷ ws) e r c = (name_step (name_at m w) (is_forced m l w) r.0.0 (λ z. forced_none m l w z), are_steps m l ws e r.1 c)
are_steps m l (NUMBER n ∷ ws) e r c = (bare_step (number_text n) (number_word n c.0) (number_bare n c.0), are_steps m l ws e r.1 c.1)
are_steps m l (TEXT false bs ∷ ws) e r c = (text_step (codes ".\"") bs (whole_word (codes ".\"") refl) refl refl refl refl (others 34 bs r.0), are_steps m l ws e r.1 c)
are_steps m l (TEXT true bs ∷ ws) e r c = (text_step (codes "ABORT\"") bs (whole_word (codes "ABORT\"") refl) refl refl refl refl (others 34 bs r.0), are_steps m l ws e r.1 c)
are_steps m l (SEMI ∷ ws) e r c = absurd e
are_steps m l (DOUBLE n ∷ ws) e r c = absurd e
are_steps m l (TICK ∷ ws) e r c = absurd e
are_steps m l (FORCE ∷ ws) e r c = absurd e
are_steps m l (LOOP false ∷ ws) e r c = (keyword_step (codes "LOOP") refl, are_steps m l ws e r.1 c)
are_steps m l (_ ∷ ws) e r c = (keyword_step _ refl, are_steps m l ws e r.1 c)

noend_append : (xs ys : List Token) → NoEnd xs → NoEnd ys → NoEnd (xs ++ ys)
noend_append [] ys h k = k
noend_append (SEMI ∷ xs) ys h k = absurd h
noend_append (DOUBLE n ∷ xs) ys h k = absurd h
noend_append (TICK ∷ xs) ys h k = absurd h
noend_append (FORCE ∷ xs) ys h k = absurd h
noend_append (_ ∷ xs) ys h k = noend_append xs ys h k

noend_words : (rt : ℕ → ℕ) (t : Body) → IsPlainBody rt t → NoEnd (words t)
noend_words rt = by_parts (λ t. IsPlainBody rt t → NoEnd (words t)) (elim [ Empty ↦ λ ih h. tt | t ↦ λ ih h. grind (arith, noend_append, ih) ])

noend_all : (rt : ℕ → ℕ) (d : Definition) → IsPlainDefinition rt d → NoEnd (all_words d)
noend_all rt d h = grind (arith, noend_words, noend_append)

-- the words before the last
readable_front : (m : List ℕ) (l : ℕ) (xs ys : List Token) → AreReadableWords m l (xs ++ ys) → AreReadableWords m l xs
readable_front m l [] ys h = tt
readable_front m l (x ∷ xs) ys h = (h.0, readable_front m l xs ys h.1)

cells_front : (xs ys : List Token) → AreCells (xs ++ ys) → AreCells xs
cells_front [] ys h = tt
cells_front (NUMBER n ∷ xs) ys h = (h.0, cells_front xs ys h.1)
cells_front (_ ∷ xs) ys h = cells_front xs ys h

respelled_end : (f : ℕ → Bool) (ws : List Token) → respelled f (ws ++ SEMI ∷ []) ≡ respelled f ws ++ SEMI ∷ []
respelled_end f [] = refl
respelled_end f (NAME w ∷ ws) = ap (λ k. named (f w) w ++ k) (respelled_end f ws) ∙ sym (append_assoc (named (f w) w) (respelled f ws) (SEMI ∷ []))
respelled_end f (w ∷ ws) = ap (λ k. w ∷ k) (respelled_end f ws)

printed_end : (m : List ℕ) (l : ℕ) (ws : List Token) → all_printed m l (ws ++ SEMI ∷ []) ≡ all_printed m l ws ++ bare (codes ";") ∷ []
printed_end m l ws = ap (map (printed m)) (respelled_end (is_forced m l) ws) ∙ map-append (printed m) (respelled (is_forced m l) ws) (SEMI ∷ [])

-- the printed words are those of a colon definition
colon_is : (m : List ℕ) (l : ℕ) (name : List ℕ) (ws : List Token) → bare (codes ":") ∷ bare name ∷ all_printed m l (ws ++ SEMI ∷ []) ≡ colon_words name (steps m l ws)
unfolding colon_words
colon_is m l name ws = ap (λ k. bare (codes ":") ∷ bare name ∷ k) (printed_end m l ws ∙ ap (λ k. k ++ bare (codes ";") ∷ []) (sym (joined_steps m l ws)))

words_read : (m : List ℕ) (l : ℕ) (name : List ℕ) (d : Definition) (screen : ℕ) → IsPlainDefinition (slice_index (controls_of m)) d → IsReadable m l name (its_words d) → AreCells (its_words d) → map spelling (screen_words Outside screen (text m l name d)) ≡ bare (codes ":") ∷ bare name ∷ all_printed m l (its_words d)
unfolding text
words_read m l name d screen p r c = search (arith, colon_is, are_steps, noend_all, readable_front, cells_front, colon_reread, whole_word)

tokens_read : (m : List ℕ) (l : ℕ) (d : Definition) → IsPlainDefinition (slice_index (controls_of m)) d → AreReadableWords m l (its_words d) → AreCells (its_words d) → tokens_of m l Free (all_printed m l (its_words d)) ≡ map (λ w. Some w) (its_words (all_spelled (is_forced m l) d))
tokens_read m l d p r c = grind (arith, all_told, are_all_plain, respelled_end, all_spelled_words)

-- the text is read as a definition that is written as the word's extent
pub read_again : (m name : List ℕ) (l : ℕ) (d : Definition) → IsDefined m name l d → IsReadable m l name (its_words d) → AreCells (its_words d) → (e : Definition) × IsAgain m l name (text m l name d) e
read_again m name l d h r c =
    let rt = slice_index (controls_of m) in (
      all_spelled (is_forced m l) d,
      record {
        read = record { body = all_printed m l (its_words d); words_are = λ screen. words_read m l name d screen h.code.plain r c; tokens_are = tokens_read m l d h.code.plain r.words c };
        within = spelled_within rt (parameter_field m l) (extent m (parameter_field m l)) (is_forced m l) d h.code;
        is = spelled_thread rt (is_forced m l) d (parameter_field m l) ∙ h.code.is;
      },
    )

pub shown_read : (m name bytes : List ℕ) → IsShown m name bytes → IsReadBack m name bytes
shown_read m name bytes s = grind (arith, read_again)
