-- What SEE answers is true, and says all.
use Rattle.std.proofs.Common.{◌≡◌, ℕ, Bool, true, List, [], ◌∷◌, Option, Some, None, refl, sym, ap, subst, ◌∙◌, if◌then◌else◌, Vec, arith}
use Rattle.std.specs.Prelude.{Result, Ok, Err, IfErr, OnOk, slice_index, ◌≢◌}
use Rattle.std.specs.declared.alloc.Global.{Global}
use Rattle.dictionary.specs.Search.{Found, sought}
use Rattle.colon_bodies.specs.Tree.{Definition}
use Rattle.colon_bodies.specs.Tokens.{Token}
use Rattle.colon_bodies.proofs.Bytes.{one_thread}
use Rattle.see.specs.Shown.{Shown}
use Rattle.see.specs.Extent.{parameter_field, extent, controls_of}
use Rattle.see.specs.Naming.{IsReadableWord, AreReadableWords, IsReadable, word_fault, words_fault, first_fault, or_fault, is_word}
use Rattle.see.specs.ReadAgain.{AreCells}
use Rattle.see.specs.Printing.{its_words, printed_text, text}
use Rattle.see.specs.Seeing.{IsColon, IsCode, HasControlsApart, IsDefined, IsPrinted, IsSeen, IsSeenIn, IsShown, IsUnseen}
use Rattle.see.specs.declared.refusal.SeeRefused.{SeeRefused}
use Rattle.see.specs.declared.refusal.SeeRefused.TheVariants as r

-- a fault of a name, number or text
abbrev IsPlaced : SeeRefused → Type 0
IsPlaced (r.Nameless w) = Unit {0}
IsPlaced r.Shadowed = Unit {0}
IsPlaced r.BadText = Unit {0}
IsPlaced _ = ⊥

abbrev IfPlaced : Option SeeRefused → Type 0
IfPlaced None = Unit {0}
IfPlaced (Some e) = IsPlaced e

either : (b : Bool) (x y : Option SeeRefused) → IfPlaced x → IfPlaced y → IfPlaced (if b then x else y)
either b x y h k = grind arith

word_placed : (m : List ℕ) (h : ℕ) (w : Token) → IfPlaced (word_fault m h w)
word_placed m h w = grind (arith, either)

or_placed : (x y : Option SeeRefused) → IfPlaced x → IfPlaced y → IfPlaced (or_fault x y)
or_placed x y h k = grind arith

words_placed : (m : List ℕ) (h : ℕ) (ws : List Token) → IfPlaced (words_fault m h ws)
words_placed m h [] = tt
words_placed m h (w ∷ ws) = or_placed (word_fault m h w) (words_fault m h ws) (word_placed m h w) (words_placed m h ws)

first_placed : (m : List ℕ) (l : ℕ) (name : List ℕ) (ws : List Token) (e : SeeRefused) → first_fault m l name ws ≡ Some e → IsPlaced e
first_placed m l name ws e q = subst IfPlaced q (either (is_word name) (words_fault m l ws) _ (words_placed m l ws) tt)

-- nothing is wrong with a word exactly if it is readable
tested : (b : Bool) (e : SeeRefused) → (if b then None else Some e) ≡ None → b ≡ true
tested b e h = grind arith

passed : (b : Bool) (e : SeeRefused) → b ≡ true → (if b then None else Some e) ≡ None
passed b e h = grind arith

word_tested : (m : List ℕ) (h : ℕ) (w : Token) → word_fault m h w ≡ None → IsReadableWord m h w
word_tested m h w e = grind (arith, tested)

word_passed : (m : List ℕ) (h : ℕ) (w : Token) → IsReadableWord m h w → word_fault m h w ≡ None
word_passed m h w p = grind (arith, passed)

or_none : (x y : Option SeeRefused) → or_fault x y ≡ None → (x ≡ None) × (y ≡ None)
or_none x y h = grind arith

none_or : (x y : Option SeeRefused) → x ≡ None → y ≡ None → or_fault x y ≡ None
none_or x y h k = grind arith

words_tested : (m : List ℕ) (h : ℕ) (ws : List Token) → words_fault m h ws ≡ None → AreReadableWords m h ws
words_tested m h [] e = tt
words_tested m h (w ∷ ws) e = let o = or_none (word_fault m h w) (words_fault m h ws) e in (word_tested m h w o.0, words_tested m h ws o.1)

words_passed : (m : List ℕ) (h : ℕ) (ws : List Token) → AreReadableWords m h ws → words_fault m h ws ≡ None
words_passed m h [] p = refl
words_passed m h (w ∷ ws) p = none_or (word_fault m h w) (words_fault m h ws) (word_passed m h w p.0) (words_passed m h ws p.1)

named_tested : (b : Bool) (x : Option SeeRefused) (e : SeeRefused) → (if b then x else Some e) ≡ None → (b ≡ true) × (x ≡ None)
named_tested b x e h = grind arith

pub readable : (m : List ℕ) (l : ℕ) (name : List ℕ) (ws : List Token) → first_fault m l name ws ≡ None → IsReadable m l name ws
readable m l name ws e = let p = named_tested (is_word name) (words_fault m l ws) _ e in record { named = p.0; words = words_tested m l ws p.1 }

pub faultless : (m : List ℕ) (l : ℕ) (name : List ℕ) (ws : List Token) → IsReadable m l name ws → first_fault m l name ws ≡ None
faultless m l name ws p = rw p.named (words_passed m l ws p.words)

-- no fault is lack of memory
pub printed_roomy : (m : List ℕ) (l : ℕ) (name : List ℕ) (ws : List Token) (bytes : List ℕ) (x : Result (Unit {0}) SeeRefused) → IsPrinted m l name ws bytes x → IfErr x (λ e. e ≢ r.OutOfMemory)
printed_roomy m l name ws bytes (Ok u) p = tt
printed_roomy m l name ws bytes (Err r.OutOfMemory) p = absurd (first_placed m l name ws _ p)
printed_roomy m l name ws bytes (Err e) p = λ q. cc

-- what is printed or refused of a definition's words
pub seen_by : (m name : List ℕ) (l : ℕ) (ws : List Token) (bytes : List ℕ) (x : Result (Unit {0}) SeeRefused) → IsColon m name l → HasControlsApart m → Shown (slice_index (controls_of m)) (parameter_field m l) (extent m (parameter_field m l)) ws → IsPrinted m l name ws bytes x → IsSeenIn m name bytes x
unfolding text
seen_by m name l ws bytes (Ok u) c a s p =
    (l, s.body, record { colon = c; apart = a; code = s.is }, readable m l name (its_words s.body) (subst (λ w. first_fault m l name w ≡ None) s.words_are p.0), subst AreCells s.words_are p.1, subst (λ w. bytes ≡ printed_text m l name w) s.words_are p.2)
seen_by m name l ws bytes (Err (r.Nameless w)) c a s q = (l, s.body, record { colon = c; apart = a; code = s.is }, subst (λ v. first_fault m l name v ≡ Some (r.Nameless w)) s.words_are q)
seen_by m name l ws bytes (Err r.Shadowed) c a s q = (l, s.body, record { colon = c; apart = a; code = s.is }, subst (λ v. first_fault m l name v ≡ Some (r.Shadowed)) s.words_are q)
seen_by m name l ws bytes (Err r.BadText) c a s q = (l, s.body, record { colon = c; apart = a; code = s.is }, subst (λ v. first_fault m l name v ≡ Some (r.BadText)) s.words_are q)
seen_by m name l ws bytes (Err r.NotFound) c a s q = absurd (first_placed m l name ws _ q)
seen_by m name l ws bytes (Err r.ChainTooLong) c a s q = absurd (first_placed m l name ws _ q)
seen_by m name l ws bytes (Err r.NotColon) c a s q = absurd (first_placed m l name ws _ q)
seen_by m name l ws bytes (Err r.NotStructured) c a s q = absurd (first_placed m l name ws _ q)
seen_by m name l ws bytes (Err r.OutOfMemory) c a s q = absurd (first_placed m l name ws _ q)

found_once : (m name : List ℕ) (k l : ℕ) → sought m name ≡ Found k → sought m name ≡ Found l → k ≡ l
found_once m name k l e f = let q : Found k ≡ Found l = sym e ∙ f in cc

-- so is the definition that its thread is of
defined_once : (m name : List ℕ) (k l : ℕ) (c d : Definition) → IsDefined m name k c → IsDefined m name l d → (k ≡ l) × (c ≡ d)
defined_once m name k l c d p q =
    let s = found_once m name k l p.colon.0.is q.colon.0.is in
    let code : IsCode m l c = subst (λ i. IsCode m i c) s p.code in
    (s, one_thread (slice_index (controls_of m)) q.apart c d (parameter_field m l) code.plain q.code.plain (code.is ∙ sym q.code.is))

-- a definition whose first fault isn't the one that is reported
told : (m name : List ℕ) (k l : ℕ) (c d : Definition) (e : SeeRefused) → IsDefined m name k c → IsDefined m name l d → first_fault m k name (its_words c) ≡ Some e → first_fault m l name (its_words d) ≡ None → ⊥
told m name k l c d e p q f g =
    let s = found_once m name k l p.colon.0.is q.colon.0.is in
    let code : IsCode m l c = subst (λ i. IsCode m i c) s p.code in
    let t : c ≡ d = one_thread (slice_index (controls_of m)) q.apart c d (parameter_field m l) code.plain q.code.plain (code.is ∙ sym q.code.is) in
    absurd (cc)

-- if there is a readable definition, no refusal is true but lack of memory
none_unseen : (m name : List ℕ) (e : SeeRefused) → IsUnseen m name e → (l : ℕ) (d : Definition) → IsDefined m name l d → IsReadable m l name (its_words d) → e ≡ r.OutOfMemory
none_unseen m name e q l d h f = grind (arith, found_once, told, faultless)

-- each answer but lack of memory is the only one
same_fault : (m name : List ℕ) (k l : ℕ) (c d : Definition) (e f : SeeRefused) → IsDefined m name k c → IsDefined m name l d → first_fault m k name (its_words c) ≡ Some e → first_fault m l name (its_words d) ≡ Some f → e ≡ f
same_fault m name k l c d e f p q a b =
    let s = defined_once m name k l c d p q in
    let i : Some e ≡ Some f = sym a ∙ ap (λ v. first_fault m v name (its_words c)) s.0 ∙ ap (λ v. first_fault m l name (its_words v)) s.1 ∙ b in
    cc

unseen_once : (m name : List ℕ) (e f : SeeRefused) → IsUnseen m name e → IsUnseen m name f → e ≢ r.OutOfMemory → f ≢ r.OutOfMemory → e ≡ f
unseen_once m name e f p q h k = grind (arith, found_once, same_fault)

shown_once : (m name a b : List ℕ) → IsShown m name a → IsShown m name b → a ≡ b
shown_once m name a b (k, c, p, i, j, x) (l, d, q, u, v, y) =
    let s = defined_once m name k l c d p q in
    x ∙ ap (λ n. text m n name c) s.0 ∙ ap (λ n. text m l name n) s.1 ∙ sym y

pub seen_once : (m name a b : List ℕ) (x y : Result (Unit {0}) SeeRefused) → IsSeenIn m name a x → IsSeenIn m name b y → IfErr x (λ e. e ≢ r.OutOfMemory) → IfErr y (λ e. e ≢ r.OutOfMemory) → (x ≡ y) × OnOk x (a ≡ b)
seen_once m name a b (Ok u) (Ok v) p q h k = (refl, shown_once m name a b p q)
seen_once m name a b (Ok u) (Err f) p q h k = absurd (k (none_unseen m name f q p.0 p.1 p.2 p.3))
seen_once m name a b (Err e) (Ok v) p q h k = absurd (h (none_unseen m name e p q.0 q.1 q.2 q.3))
seen_once m name a b (Err e) (Err f) p q h k = (ap Err (unseen_once m name e f p q h k), tt)

pub none_refused : (m name : List ℕ) (x : Result (Vec ℕ Global) SeeRefused) → IsSeen m name x → (l : ℕ) (d : Definition) → IsDefined m name l d → IsReadable m l name (its_words d) → IfErr x (λ e. e ≡ r.OutOfMemory)
none_refused m name (Ok v) q l d h f = tt
none_refused m name (Err e) q l d h f = none_unseen m name e q l d h f

pub none_refused_in : (m name bytes : List ℕ) (x : Result (Unit {0}) SeeRefused) → IsSeenIn m name bytes x → (l : ℕ) (d : Definition) → IsDefined m name l d → IsReadable m l name (its_words d) → IfErr x (λ e. e ≡ r.OutOfMemory)
none_refused_in m name bytes (Ok u) q l d h f = tt
none_refused_in m name bytes (Err e) q l d h f = none_unseen m name e q l d h f
