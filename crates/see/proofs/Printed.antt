-- Words are printed one after another.
use Rattle.std.proofs.Common.{◌≡◌, ℕ, Bool, true, List, [], ◌∷◌, ◌++◌, refl, sym, ap, subst, ◌∙◌, append_assoc, append-nil, map, length, drop, suc, ◌+◌, ◌<◌, ◌≤◌, get_or, Option, Some, None, arith}
use Rattle.std.proofs.Math.Seq.{drop-cons}
use Rattle.std.proofs.Math.ListN.{drop_of_length-le}
use Rattle.std.proofs.lemmas.List.{map-append}
use Rattle.source_words.specs.Spaced.{Spelling, bare, spaced, spaced_behind, quoted}
use Rattle.std.specs.Prelude.{codes, Result, Ok, Err}
use Rattle.see.specs.Seeing.{IsWritten, IsPrinted}
use Rattle.colon_bodies.specs.Tokens.{Token, NAME, laid, laid_by}
use Rattle.colon_bodies.specs.Tree.{named}
use Rattle.see.specs.ReadAgain.{AreCells}
use Rattle.see.specs.Printing.{is_forced, printed, called, all_printed, printed_text}
use Rattle.see.specs.Naming.{is_word, name_at, word_fault, words_fault, first_fault, or_fault}
use Rattle.see.specs.declared.refusal.SeeRefused.{SeeRefused}

pub spaced_append : (a b : List Spelling) → spaced_behind (a ++ b) ≡ spaced_behind a ++ spaced_behind b
unfolding spaced_behind
spaced_append [] b = refl
spaced_append (w ∷ a) b = grind (arith, append_assoc, spaced_append a b)

-- the first of some words, and the others
printed_first : (m : List ℕ) (h : ℕ) (w : Token) (ws : List Token) → all_printed m h (w ∷ ws) ≡ all_printed m h (w ∷ []) ++ all_printed m h ws
printed_first m h w ws = grind (arith, map-append)

first_spaced : (m : List ℕ) (h : ℕ) (w : Token) (ws : List Token) → spaced_behind (all_printed m h (w ∷ ws)) ≡ spaced_behind (all_printed m h (w ∷ [])) ++ spaced_behind (all_printed m h ws)
first_spaced m h w ws = ap spaced_behind (printed_first m h w ws) ∙ spaced_append (all_printed m h (w ∷ [])) (all_printed m h ws)

-- a word more is written
-- nothing more is written
pub none_written : (m : List ℕ) (h : ℕ) (old : List ℕ) → old ++ spaced_behind (all_printed m h []) ≡ old
unfolding spaced_behind
none_written m h old = append-nil old

-- two words are written
pub two_written : (x a b old mid new : List ℕ) → x ≡ a → mid ≡ old ++ spaced_behind (bare x ∷ []) → new ≡ mid ++ spaced_behind (bare b ∷ []) → new ≡ old ++ spaced_behind (bare a ∷ bare b ∷ [])
two_written x a b old mid new k e f =
    f ∙ ap (λ l. l ++ spaced_behind (bare b ∷ [])) (e ∙ ap (λ l. old ++ spaced_behind (bare l ∷ [])) k) ∙ append_assoc old (spaced_behind (bare a ∷ [])) (spaced_behind (bare b ∷ []))
    ∙ ap (λ l. old ++ l) (sym (spaced_append (bare a ∷ []) (bare b ∷ [])))

called_as : (m : List ℕ) (w : ℕ) (b : Bool) → map (printed m) (named b w ++ []) ≡ called b (name_at m w)
called_as m w b = grind arith

pub called_is : (m : List ℕ) (h : ℕ) (w : ℕ) → all_printed m h (NAME w ∷ []) ≡ called (is_forced m h w) (name_at m w)
called_is m h w = called_as m w (is_forced m h w)

-- the words from a place on
pub step_written : {X : Type 0} (tok : X → Token) (m : List ℕ) (h : ℕ) (ws : List X) (i : ℕ) (d : X) (old new all : List ℕ) → i < length ws → new ≡ old ++ spaced_behind (all_printed m h (tok (get_or ws i d) ∷ [])) → old ++ spaced_behind (all_printed m h (map tok (drop i ws))) ≡ all → new ++ spaced_behind (all_printed m h (map tok (drop (suc i) ws))) ≡ all
step_written tok m h ws i d old new all lt e k = grind (arith, drop-cons, append_assoc, first_spaced)

pub end_written : {X : Type 0} (tok : X → Token) (m : List ℕ) (h : ℕ) (ws : List X) (i : ℕ) (old all : List ℕ) → length ws ≤ i → old ++ spaced_behind (all_printed m h (map tok (drop i ws))) ≡ all → old ≡ all
end_written tok m h ws i old all le k =
    sym (none_written m h old) ∙ ap (λ l. old ++ spaced_behind (all_printed m h (map tok l))) (sym (drop_of_length-le ws le)) ∙ k

-- the words after `: NAME`
pub shown_behind : (m : List ℕ) (h : ℕ) (name : List ℕ) (ws : List Token) (old new : List ℕ) → old ≡ spaced (bare (codes ":") ∷ bare name ∷ []) → new ≡ old ++ spaced_behind (all_printed m h ws) → new ≡ printed_text m h name ws
unfolding spaced quoted
shown_behind m h name ws old new e f =
    f ∙ ap (λ l. l ++ spaced_behind (all_printed m h ws)) e
    ∙ ap (λ l. 58 ∷ l) (sym (spaced_append (bare name ∷ []) (all_printed m h ws)))

-- no fault in some words, and one in the next
pub fault_on : {X : Type 0} (tok : X → Token) (m : List ℕ) (h : ℕ) (ws : List X) (i : ℕ) (d : X) (all : Option SeeRefused) → i < length ws → words_fault m h (tok (get_or ws i d) ∷ []) ≡ None → words_fault m h (map tok (drop i ws)) ≡ all → words_fault m h (map tok (drop (suc i) ws)) ≡ all
fault_on tok m h ws i d all lt e k = grind (arith, drop-cons)

pub fault_here : {X : Type 0} (tok : X → Token) (m : List ℕ) (h : ℕ) (ws : List X) (i : ℕ) (d : X) (all : Option SeeRefused) (z : SeeRefused) → i < length ws → words_fault m h (tok (get_or ws i d) ∷ []) ≡ Some z → words_fault m h (map tok (drop i ws)) ≡ all → all ≡ Some z
fault_here tok m h ws i d all z lt e k =
    sym k ∙ ap (λ l. words_fault m h (map tok l)) (drop-cons ws i d lt) ∙ or_left (word_fault m h (tok (get_or ws i d))) (words_fault m h (map tok (drop (suc i) ws))) e
  where
    or_left : (x y : Option SeeRefused) → or_fault x None ≡ Some z → or_fault x y ≡ Some z
    or_left None y q = cc
    or_left (Some v) y q = q

pub fault_none : {X : Type 0} (tok : X → Token) (m : List ℕ) (h : ℕ) (ws : List X) (i : ℕ) (all : Option SeeRefused) → length ws ≤ i → words_fault m h (map tok (drop i ws)) ≡ all → all ≡ None
fault_none tok m h ws i all le k = sym k ∙ ap (λ l. words_fault m h (map tok l)) (drop_of_length-le ws le)

-- a whole definition is written
pub all_shown : (m : List ℕ) (l : ℕ) (name : List ℕ) (ws : List Token) (old new : List ℕ) → is_word name ≡ true → words_fault m l ws ≡ None → AreCells ws → old ≡ spaced (bare (codes ":") ∷ bare name ∷ []) → new ≡ old ++ spaced_behind (all_printed m l ws) → (first_fault m l name ws ≡ None) × AreCells ws × (new ≡ printed_text m l name ws)
all_shown m l name ws old new w f c e g = (rw w f, c, shown_behind m l name ws old new e g)

-- what was written or refused of the words is printed or refused of the definition
pub written_printed : (m : List ℕ) (l : ℕ) (name : List ℕ) (ws : List Token) (old new : List ℕ) (x : Result (Unit {0}) SeeRefused) → is_word name ≡ true → old ≡ spaced (bare (codes ":") ∷ bare name ∷ []) → IsWritten m l ws old new x → IsPrinted m l name ws new x
written_printed m l name ws old new (Ok u) w e p = all_shown m l name ws old new w p.0 p.1 e p.2
written_printed m l name ws old new (Err z) w e p = rw w p

-- numbers that are cells
pub cells_on : {X : Type 0} (tok : X → Token) (ws : List X) (i : ℕ) (d : X) (all : Type 0) → i < length ws → AreCells (tok (get_or ws i d) ∷ []) → (AreCells (map tok (drop i ws)) → all) → AreCells (map tok (drop (suc i) ws)) → all
cells_on tok ws i d all lt c k rest = grind (arith, drop-cons)

pub cells_end : {X : Type 0} (tok : X → Token) (ws : List X) (i : ℕ) (all : Type 0) → length ws ≤ i → (AreCells (map tok (drop i ws)) → all) → all
cells_end tok ws i all le k = k (subst (λ l. AreCells (map tok l)) (sym (drop_of_length-le ws le)) tt)

-- the room that the words from a place on take
pub room_on : {X : Type 0} (tok : X → Token) (ws : List X) (i : ℕ) (d : X) → i < length ws → (length (drop i ws) ≡ 1 + length (drop (suc i) ws)) × (laid (map tok (drop i ws)) ≡ laid_by (tok (get_or ws i d)) + laid (map tok (drop (suc i) ws)))
room_on tok ws i d lt = (ap length (drop-cons ws i d lt) ∙ omega arith, ap (λ l. laid (map tok l)) (drop-cons ws i d lt))
