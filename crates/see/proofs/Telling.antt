-- Printed words, numbers and definitions are read as they were.
use Rattle.std.proofs.Common.{◌≡◌, ℕ, Bool, true, false, not, ◌&&◌, ◌||◌, ◌==◌, nat_lt, List, [], ◌∷◌, length, Option, Some, None, refl, arith, if◌then◌else◌, ◌<◌, ◌≤◌, ◌+◌, ◌-◌, ◌%◌, ◌++◌, map, suc, subst, ◌≢◌, sym, ap, ◌∙◌, append-nil, inl, inr}
use Rattle.std.specs.Prelude.{codes, is_some, pos, negsuc, ◌^◌, slice_index}
use Rattle.std.specs.List.{list_all, AllByRecursion}
use Rattle.std.specs.Str.{bytes_eq}
use Rattle.source_words.specs.Modes.{takes_text, begins_comment, ends_body, names_in_body}
use Rattle.source_words.specs.Spaced.{bare, IsStep, is_plain_word, Spelling}
use Rattle.source_words.proofs.Colons.{plain_word_step}
use Rattle.colon_bodies.specs.Tokens.{Token, TICK, FORCE, COMPILE, TEXT, DOES, SEMI, NAME, NUMBER, DOUBLE}
use Rattle.image_builder.specs.Spelled.{keyword, naming, saying, ending, either_token, choosing, repeating, counting, sense_of_word, figure_of, text_of}
use Rattle.see.specs.Naming.{is_word, number_text, is_meant, is_free, name_at, IsReadableWord, AreReadableWords}
use Rattle.see.specs.Printing.{is_keyword, gives_immediate, is_forced, printed, called, all_printed}
use Rattle.std.specs.Int.{cast_signed, w16}
use Rattle.std.specs.Fmt.{decimal}
use Rattle.std.proofs.Math.Dec.{ltb}
use Rattle.std.proofs.lemmas.Bool.{lt-ltb, le-ltb, cases_lt}
use Rattle.std.proofs.lemmas.Fmt.{decimal-digits_of, decimal_digit, decimal_nonempty}
use Rattle.std.proofs.lemmas.Int.Digits.{all_below_base_digits_of}
use Rattle.number_text.specs.Digits.{byte_of, expansion, are_digits, text_value, is_digit, digit}
use Rattle.number_text.specs.Numbers.{with_sign, sign, is_number, is_double, spelled, IsSpelling}
use Rattle.number_text.proofs.Expansions.{expansion_some, expansion_zero}
use Rattle.number_text.proofs.ExpansionLaw.{text_value-expansion, are_digits-expansion}
use Rattle.dictionary.specs.Header.{compilation_address}
use Rattle.dictionary.specs.Search.{Found, Nowhere, sought_hiding}
use Rattle.number_text.proofs.Spellings.{spelling}
use Rattle.colon_bodies.specs.Plain.{IsPlainCell, respelled}
use Rattle.colon_bodies.specs.declared.words.Half.{Half}
use Rattle.colon_bodies.specs.declared.words.Half.TheVariants.{Free, Forced, Compiling, Both}
use Rattle.colon_bodies.specs.Meaning.{Plain, Keyword, Figure, Wide}
use Rattle.see.specs.Extent.{controls_of}
use Rattle.see.specs.ReadAgain.{is_inner, named_token, token_as, token_of, tokens_of, AreCells}
use Rattle.std.proofs.lemmas.List.{map-append}
use Rattle.colon_bodies.specs.Tree.{named}
use Rattle.colon_bodies.specs.Rules.{half_after}
use Rattle.see.specs.PlainWords.{IsPlainWord, ArePlainWords}

-- The words that are printed are read as they were.
both : (a b : Bool) → (a && b) ≡ true → (a ≡ true) × (b ≡ true)
both a b h = grind arith

pub neither : (a b : Bool) → (a || b) ≡ false → (a ≡ false) × (b ≡ false)
neither a b h = grind arith

-- a keyword that is none is none of each kind
none_of : (a b : Option Token) → is_some (either_token a b) ≡ false → (a ≡ None) × (is_some b ≡ false)
none_of a b h = grind arith

naming_none : (a b c : Bool) (x y z : Token) → (if a then Some x else if b then Some y else if c then Some z else None) ≡ None → (a || b) ≡ false
naming_none a b c x y z h = grind arith

two_none : (a b : Bool) (x y : Token) → (if a then Some x else if b then Some y else None) ≡ None → ((a || b) ≡ false) × (b ≡ false)
two_none a b x y h = grind arith

-- a word that is no keyword asks for nothing more
pub record IsBare (name : List ℕ) : Type 0 where
  pub no_keyword : keyword name [] ≡ None
  pub no_comment : begins_comment name ≡ false
  pub no_lead : names_in_body name ≡ false
  pub no_text : takes_text name ≡ false
  pub no_end : ends_body name ≡ false

no_lead_in : (name : List ℕ) → naming name ≡ None → names_in_body name ≡ false
unfolding naming names_in_body
no_lead_in name h = naming_none (bytes_eq name (codes "[']")) (bytes_eq name (codes "[COMPILE]")) (bytes_eq name (codes "COMPILE")) TICK FORCE COMPILE h

no_text_in : (name : List ℕ) → saying name [] ≡ None → takes_text name ≡ false
unfolding saying takes_text
no_text_in name h = (two_none (bytes_eq name (codes ".\"")) (bytes_eq name (codes "ABORT\"")) (TEXT false []) (TEXT true []) h).0

no_end_in : (name : List ℕ) → ending name ≡ None → ends_body name ≡ false
unfolding ending ends_body
no_end_in name h = (two_none (bytes_eq name (codes "DOES>")) (bytes_eq name (codes ";")) DOES SEMI h).1

pub bare_is : (name : List ℕ) → is_keyword name ≡ false → IsBare name
unfolding is_keyword keyword
bare_is name h = grind (arith, neither, none_of, no_lead_in, no_text_in, no_end_in)

pub bare_step : (name : List ℕ) → is_word name ≡ true → IsBare name → IsStep (bare name ∷ [])
unfolding is_word is_plain_word
bare_step name w b =
    let p = both (not (length name == 0)) (list_all (λ x. not (x == 32)) name) w in
    let long : nat_lt 0 (length name) ≡ true = grind arith in
    plain_word_step name (rw (long, p.1, b.no_comment, b.no_end, b.no_lead, b.no_text) refl)

-- A number's text spells it.
shown_same : (ds : List ℕ) → AllByRecursion (λ d. d < 10) ds → map (λ d. 48 + d) ds ≡ map byte_of ds
shown_same [] a = refl
shown_same (d ∷ ds) a = let below : d < 10 = a.0 in let t : nat_lt d 10 ≡ true = grind arith in rw (t, shown_same ds a.1) refl

decimal_is : (n : ℕ) → n < 2 ^ 64 → decimal n ≡ map byte_of (expansion 10 n)
decimal_is n h = grind (arith, cases_lt, decimal-digits_of, shown_same, all_below_base_digits_of, expansion_some, decimal_digit, expansion_zero)

-- the text is a sign and digits, which stand for the number
pub record IsFigure (text : List ℕ) (n : ℕ) : Type 0 where
  pub minus : Bool
  pub ds : List ℕ
  pub is : text ≡ sign minus ++ ds
  pub some : 0 < length ds
  pub digits : are_digits 10 ds ≡ true
  pub value : with_sign minus (text_value 10 ds % 4294967296) % 65536 ≡ n

some_digits : (n : ℕ) → n < 2 ^ 64 → 0 < length (map byte_of (expansion 10 n))
some_digits n h = subst (λ l. 0 < length l) (decimal_is n h) (decimal_nonempty n h)

positive : (n : ℕ) → n < 32768 → cast_signed w16 n ≡ pos n
positive n h = let e : ltb n 32768 ≡ true = lt-ltb n 32768 h in rw e refl

negative : (n : ℕ) → 32768 ≤ n → cast_signed w16 n ≡ negsuc (65536 - suc n)
negative n h = let e : ltb n 32768 ≡ false = le-ltb n 32768 h in rw e refl

pub figured : (n : ℕ) → n < 65536 → IsFigure (number_text n) n
unfolding number_text
figured n h = grind (arith, cases_lt, positive, decimal_is, some_digits, are_digits-expansion, text_value-expansion, negative)

-- What each printed word is read as.

-- nothing, or COMPILE, is half read
abbrev pub Loose : Half → Type 0
Loose Free = Unit {0}
Loose Compiling = Unit {0}
Loose _ = ⊥

pub told_keyword : (m : List ℕ) (l : ℕ) (h : Half) (w : Spelling) (t : Token) → Loose h → sense_of_word w.name (text_of w.text) ≡ Keyword t → token_of m l h w ≡ Some t
told_keyword m l h w t p e = grind arith

-- the sense of a word that is no keyword
bare_sense : (name : List ℕ) → IsBare name → sense_of_word name [] ≡ figure_of name
unfolding sense_of_word
bare_sense name b = rw (b.no_comment, b.no_keyword) refl

figure_name : (m : List ℕ) (h : Half) (k : ℕ) (a b : Bool) (n v : ℕ) → Loose h → token_as m h (Found k) (if a then (if b then Wide v else Figure n) else Plain) ≡ named_token m h k
figure_name m h k a b n v p = grind arith

bare_named : (m : List ℕ) (h : Half) (k : ℕ) (name : List ℕ) → Loose h → token_as m h (Found k) (figure_of name) ≡ named_token m h k
unfolding figure_of
bare_named m h k name p = figure_name m h k (is_number 10 name) (is_double name) _ _ p

-- what a search came to
pub record Meant (m : List ℕ) (l : ℕ) (name : List ℕ) (w : ℕ) : Type 0 where
  pub k : ℕ
  pub is : sought_hiding m name l ≡ Found k
  pub at : compilation_address m k ≡ w

pub meant_is : (m : List ℕ) (l : ℕ) (name : List ℕ) (w : ℕ) → is_meant m l name w ≡ true → Meant m l name w
unfolding is_meant
meant_is m l name w h = grind arith

free_is : (m : List ℕ) (l : ℕ) (name : List ℕ) → is_free m l name ≡ true → sought_hiding m name l ≡ Nowhere
unfolding is_free
free_is m l name h = grind arith

-- a name that is no inner control's
inner_one : (x w : ℕ) → (x ≢ 0 → w ≢ x) → (not (x == 0) && (w == x)) ≡ false
inner_one x w h = grind arith

pub not_inner : (controls : List ℕ) (w : ℕ) → IsPlainCell (slice_index controls) w → is_inner controls w ≡ false
unfolding is_inner
not_inner controls w h =
    rw (
      inner_one (slice_index controls 6) w (h 6 (omega arith) (omega arith) (inl (omega arith))),
      inner_one (slice_index controls 7) w (h 7 (omega arith) (omega arith) (inl (omega arith))),
      inner_one (slice_index controls 8) w (h 8 (omega arith) (omega arith) (inl (omega arith))),
      inner_one (slice_index controls 9) w (h 9 (omega arith) (omega arith) (inl (omega arith))),
      inner_one (slice_index controls 10) w (h 10 (omega arith) (omega arith) (inl (omega arith))),
      inner_one (slice_index controls 11) w (h 11 (omega arith) (omega arith) (inl (omega arith))),
      inner_one (slice_index controls 16) w (h 16 (omega arith) (omega arith) (inr (omega arith))),
      inner_one (slice_index controls 17) w (h 17 (omega arith) (omega arith) (inr (omega arith))),
      inner_one (slice_index controls 18) w (h 18 (omega arith) (omega arith) (inr (omega arith))),
    ) refl

-- the first byte of a number's text
digit_range : (b : ℕ) → is_digit 10 b ≡ true → (48 ≤ b) × (b < 58)
unfolding is_digit digit
digit_range b h = (grind arith, grind arith)

no_keyword_at : (b : ℕ) (rest : List ℕ) → 44 < b → b < 58 → b ≢ 46 → IsBare (b ∷ rest)
unfolding keyword naming choosing repeating counting saying ending begins_comment Rattle.source_words.specs.Modes.names_in_body Rattle.source_words.specs.Modes.takes_text Rattle.source_words.specs.Modes.ends_body
no_keyword_at b rest lo hi dot = search arith

digits_bare : (ds : List ℕ) → 0 < length ds → are_digits 10 ds ≡ true → IsBare ds
unfolding are_digits
digits_bare [] n h = absurd (omega arith)
digits_bare (d ∷ ds) n h = let r = digit_range d (both (is_digit 10 d) _ h).0 in no_keyword_at d ds (omega (arith, r.0)) r.1 (λ e. let k = r.0 in omega (arith, e, k))

text_bare : (minus : Bool) (ds : List ℕ) → 0 < length ds → are_digits 10 ds ≡ true → IsBare (sign minus ++ ds)
text_bare true ds n h = no_keyword_at 45 ds (omega arith) (omega arith) (λ e. omega (arith, e))
text_bare false ds n h = digits_bare ds n h

pub number_bare : (n : ℕ) → n < 65536 → IsBare (number_text n)
number_bare n h = let f = figured n h in subst IsBare (sym f.is) (text_bare f.minus f.ds f.some f.digits)

no_blanks : (ds : List ℕ) → are_digits 10 ds ≡ true → list_all (λ x. not (x == 32)) ds ≡ true
unfolding are_digits
no_blanks [] h = refl
no_blanks (d ∷ ds) h =
    let p = both (is_digit 10 d) (list_all (is_digit 10) ds) h in
    let r = digit_range d p.0 in
    let e : (d == 32) ≡ false = grind arith in
    rw (e, no_blanks ds p.1) refl

some_word : (ds : List ℕ) → 0 < length ds → are_digits 10 ds ≡ true → is_word ds ≡ true
unfolding is_word
some_word ds n h = let z : (length ds == 0) ≡ false = grind arith in rw (z, no_blanks ds h) refl

signed_word : (minus : Bool) (ds : List ℕ) → 0 < length ds → are_digits 10 ds ≡ true → is_word (sign minus ++ ds) ≡ true
unfolding is_word
signed_word minus ds n h = grind (arith, no_blanks, some_word)

pub number_word : (n : ℕ) → n < 65536 → is_word (number_text n) ≡ true
number_word n h = let f = figured n h in subst (λ t. is_word t ≡ true) (sym f.is) (signed_word f.minus f.ds f.some f.digits)

number_figure : (n : ℕ) → n < 65536 → figure_of (number_text n) ≡ Figure n
unfolding figure_of
number_figure n h =
    let f = figured n h in
    let t : number_text n ≡ spelled f.minus f.ds false = f.is ∙ ap (λ l. sign f.minus ++ l) (sym (append-nil f.ds)) in
    let s : IsSpelling 10 (number_text n) f.minus f.ds false = subst (λ l. IsSpelling 10 l f.minus f.ds false) (sym t) (spelling 10 f.ds f.minus false (omega arith) f.some f.digits) in
    rw (s.number, s.double) (ap Figure (ap (λ v. v % 65536) s.value ∙ f.value))

-- a name that isn't forced
pub told_name : (m : List ℕ) (l : ℕ) (h : Half) (w : ℕ) → Loose h → (h ≡ Free → IsPlainCell (slice_index (controls_of m)) w) → is_meant m l (name_at m w) w ≡ true → is_forced m l w ≡ false → token_of m l h (bare (name_at m w)) ≡ Some (NAME w)
unfolding is_forced
told_name m l Free w p c t f =
    let name = name_at m w in
    let q = meant_is m l name w t in
    let g = neither (gives_immediate m (sought_hiding m name l)) (is_keyword name) f in
    rw (q.is, bare_sense name (bare_is name g.1)) (bare_named m Free q.k name tt ∙ rw (sym (ap (gives_immediate m) q.is) ∙ g.0, q.at, not_inner (controls_of m) w (c refl)) refl)
told_name m l Compiling w p c t f =
    let name = name_at m w in
    let q = meant_is m l name w t in
    let g = neither (gives_immediate m (sought_hiding m name l)) (is_keyword name) f in
    rw (q.is, bare_sense name (bare_is name g.1)) (bare_named m Compiling q.k name tt ∙ rw (sym (ap (gives_immediate m) q.is) ∙ g.0, q.at) refl)
told_name m l _ w p c t f = absurd p

-- and one that is, after [COMPILE]
pub told_forced : (m : List ℕ) (l : ℕ) (w : ℕ) → is_meant m l (name_at m w) w ≡ true → token_of m l Forced (bare (name_at m w)) ≡ Some (NAME w)
told_forced m l w t = let q = meant_is m l (name_at m w) w t in rw (q.is, q.at) refl

pub told_both : (m : List ℕ) (l : ℕ) (w : ℕ) → is_meant m l (name_at m w) w ≡ true → token_of m l Both (bare (name_at m w)) ≡ Some (NAME w)
told_both m l w t = let q = meant_is m l (name_at m w) w t in rw (q.is, q.at) refl

-- A printed definition is read as it was.

-- the words that plain definitions have
abbrev IsPrintable : Token → Type 0
IsPrintable (DOUBLE n) = ⊥
IsPrintable TICK = ⊥
IsPrintable FORCE = ⊥
IsPrintable _ = Unit {0}

printable : (rt : ℕ → ℕ) (h : Half) (w : Token) → Loose h → IsPlainWord rt h w → IsPrintable w
printable rt h w p q = grind arith

loose_after : (h : Half) (w : Token) → Loose h → IsPrintable w → Loose (half_after h w)
loose_after h w p q = grind arith

abbrev CellOf : Token → Type 0
CellOf (NUMBER n) = n < 65536
CellOf _ = Unit {0}

abbrev NotName : Token → Type 0
NotName (NAME w) = ⊥
NotName _ = Unit {0}

-- a word that is no name
told_token : (m : List ℕ) (l : ℕ) (h : Half) (w : Token) → Loose h → NotName w → IsPrintable w → IsReadableWord m l w → CellOf w → token_of m l h (printed m w) ≡ Some w
unfolding sense_of_word keyword naming choosing repeating counting saying ending begins_comment
told_token m l h w p x q r c = grind (arith, told_keyword, free_is, bare_sense, number_bare, number_figure)

told_force : (m : List ℕ) (l : ℕ) (h : Half) → Loose h → token_of m l h (bare (codes "[COMPILE]")) ≡ Some FORCE
unfolding sense_of_word keyword naming begins_comment
told_force m l h p = told_keyword m l h (bare (codes "[COMPILE]")) FORCE p refl

one_told : (m : List ℕ) (l : ℕ) (h : Half) (s : Spelling) (w : Token) (rest : List Spelling) → token_of m l h s ≡ Some w → tokens_of m l h (s ∷ rest) ≡ Some w ∷ tokens_of m l (half_after h w) rest
one_told m l h s w rest e = rw e refl

-- a name, forced or not
name_told : (m : List ℕ) (l : ℕ) (h : Half) (w : ℕ) (b : Bool) (rest : List Spelling) → Loose h → is_forced m l w ≡ b → IsPlainWord (slice_index (controls_of m)) h (NAME w) → is_meant m l (name_at m w) w ≡ true → tokens_of m l h (called b (name_at m w) ++ rest) ≡ map (λ t. Some t) (named b w) ++ tokens_of m l Free rest
name_told m l h w b rest p e q t = grind (arith, one_told, told_name, told_force, told_forced, told_both)

named_printed : (m : List ℕ) (b : Bool) (w : ℕ) (xs : List Token) → map (printed m) (named b w ++ xs) ≡ called b (name_at m w) ++ map (printed m) xs
named_printed m b w xs = grind arith

free_after : (h : Half) (w : ℕ) → Loose h → half_after h (NAME w) ≡ Free
free_after h w p = grind arith

-- all the words
pub all_told : (m : List ℕ) (l : ℕ) (h : Half) (ws : List Token) → Loose h → ArePlainWords (slice_index (controls_of m)) h ws → AreReadableWords m l ws → AreCells ws → tokens_of m l h (all_printed m l ws) ≡ map (λ t. Some t) (respelled (is_forced m l) ws)
all_told m l h [] p q r c = refl
all_told m l h (NAME w ∷ ws) p q r c =
    ap (tokens_of m l h) (named_printed m (is_forced m l w) w (respelled (is_forced m l) ws))
    ∙ name_told m l h w (is_forced m l w) (all_printed m l ws) p refl q.0 r.0.1
    ∙ ap (λ k. map (λ t. Some t) (named (is_forced m l w) w) ++ k) (all_told m l Free ws tt (subst (λ i. ArePlainWords (slice_index (controls_of m)) i ws) (free_after h w p) q.1) r.1 c)
    ∙ sym (map-append (λ t. Some t) (named (is_forced m l w) w) (respelled (is_forced m l) ws))
all_told m l h (NUMBER n ∷ ws) p q r c = let k = printable _ h (NUMBER n) p q.0 in one_told m l h (printed m (NUMBER n)) (NUMBER n) (all_printed m l ws) (told_token m l h (NUMBER n) p tt k r.0 c.0) ∙ ap (λ i. Some (NUMBER n) ∷ i) (all_told m l (half_after h (NUMBER n)) ws (loose_after h (NUMBER n) p k) q.1 r.1 c.1)
all_told m l h (w ∷ ws) p q r c = let k = printable _ h w p q.0 in one_told m l h (printed m w) w (all_printed m l ws) (told_token m l h w p tt k r.0 tt) ∙ ap (λ i. Some w ∷ i) (all_told m l (half_after h w) ws (loose_after h w p k) q.1 r.1 c)
