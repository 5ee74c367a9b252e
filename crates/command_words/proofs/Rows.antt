-- What the getters of clap's matches read, by their rows.
use Rattle.std.proofs.Common.{subst, ◌≡◌, ◌∙◌, sym, ap, refl, Option, Some, None, option_map, Result, Ok, Err, codes, ℕ, Bool, true, false}
use Rattle.std.specs.Prelude.{IfErr}
use Rattle.std.specs.Result.{IsErrAnd}
use Rattle.std.specs.declared.num.ParseIntError.{ParseIntError}
use Rattle.std.specs.Str.Parse.{ExplainsUnsignedError, HasUnsignedDigitsIfOk, ParsesUnsigned, digits_value, without_leading_plus}
use Rattle.clap.specs.Walk.{Text, one_of, rows_of}
use Rattle.clap.specs.Matches.{TriesOne, one_text}
use Rattle.clap.proofs.WalkLemmas.{one_text-rows}
use Rattle.clap.specs.declared.parser.matches.Found.{Found}
use Rattle.command_words.specs.Typed.{IsFlag, IsNoNumber, Lacks, NumberIfGiven, number_in}

abbrev number : Text → ℕ
number text = digits_value 10 (without_leading_plus text)

-- what `FromStr` gives for a number of k bits
abbrev gives : ℕ → Text → Result ℕ ParseIntError → Type 0
gives k text r = ParsesUnsigned k 10 text r × ExplainsUnsignedError 10 text r × HasUnsignedDigitsIfOk text r

number_of : (k : ℕ) (o : Option Text) (x : Result (Option ℕ) ParseIntError) (r : Option ℕ) → x ≡ Ok r → (o ≡ None → x ≡ Ok None)
    → ((t : Text) → o ≡ Some t → TriesOne (gives k) t x) → option_map number o ≡ r
number_of k None x r is none value = sym (ap (λ y. elim y [ Ok z ↦ z | Err _ ↦ r ]) (sym is ∙ none refl))
number_of k (Some t) x None is none value = absurd (subst (TriesOne (gives k) t) is (value t refl))
number_of k (Some t) x (Some n) is none value = ap Some (sym (subst (TriesOne (gives k) t) is (value t refl)).0.1)

pub number_read : (k : ℕ) (f : Found) (name : Text) (x : Result (Option ℕ) ParseIntError) (r : Option ℕ) → x ≡ Ok r
    → (one_text f name ≡ None → x ≡ Ok None) → ((t : Text) → one_text f name ≡ Some t → TriesOne (gives k) t x)
    → number_in name (rows_of f) ≡ r
number_read k f name x r is none value =
    ap (option_map number) (sym (one_text-rows f name)) ∙ number_of k (one_text f name) x r is none value

-- a text that could not be read is no such number
no_number : (k : ℕ) (o : Option Text) (x : Result (Option ℕ) ParseIntError) (e : ParseIntError) → x ≡ Err e → (o ≡ None → x ≡ Ok None)
    → ((t : Text) → o ≡ Some t → TriesOne (gives k) t x) → (text : Text) × (o ≡ Some text) × IsNoNumber k text
no_number k None x e is none value = let other : x ≡ Ok None = none refl in absurd (cc)
no_number k (Some t) x e is none value = (t, refl, (subst (TriesOne (gives k) t) is (value t refl)).0)

pub number_lacking : (k : ℕ) (f : Found) (name : Text) (x : Result (Option ℕ) ParseIntError) (e : ParseIntError) → x ≡ Err e
    → (one_text f name ≡ None → x ≡ Ok None) → ((t : Text) → one_text f name ≡ Some t → TriesOne (gives k) t x)
    → Lacks (rows_of f) (NumberIfGiven k name)
number_lacking k f name x e is none value =
    let no = no_number k (one_text f name) x e is none value in (no.0, sym (one_text-rows f name) ∙ no.1, no.2)

none_there : (k : ℕ) (o : Option Text) (x : Result (Option ℕ) ParseIntError) → x ≡ Ok None → ((t : Text) → o ≡ Some t → TriesOne (gives k) t x) → o ≡ None
none_there k None x is value = refl
none_there k (Some t) x is value = absurd (subst (TriesOne (gives k) t) is (value t refl))

-- nothing was read if there is no text
pub none_lacking : (k : ℕ) (f : Found) (name : Text) (x : Result (Option ℕ) ParseIntError) → x ≡ Ok None
    → ((t : Text) → one_text f name ≡ Some t → TriesOne (gives k) t x) → one_of name (rows_of f) ≡ None
none_lacking k f name x is value = sym (one_text-rows f name) ∙ none_there k (one_text f name) x is value

-- two facts of an optional pair, as one
pub entered : {X A B : Type 0} (h : X → A × B) (o : Option X) (a : A) (b : B) → option_map (λ x. (h x).0) o ≡ Some a
    → option_map (λ (p : A × B). p.1) (option_map h o) ≡ Some b → option_map h o ≡ Some (a, b)
entered h None a b name rows = absurd (cc)
entered h (Some x) a b name rows =
    let first : (h x).0 ≡ a = cc in
    let second : (h x).1 ≡ b = cc in
    ap (λ y. Some (y, (h x).1)) first ∙ ap (λ y. Some (a, y)) second

-- what holds of the refusal that `?` passes on
pub of_err : {T E : Type 0} (r : Result T E) (e : E) (P : E → Type 0) → IsErrAnd r (λ x. x ≡ e) → P e → IfErr r P
of_err (Err x) e P is h = subst P (sym is) h
of_err (Ok x) e P is h = tt

pub flag_read : (f : Found) (name : Text) (given : Bool) → (one_text f name ≡ None → given ≡ false)
    → (one_text f name ≡ Some (codes "true") → given ≡ true) → (one_text f name ≡ Some (codes "false") → given ≡ false)
    → IsFlag (rows_of f) name given
flag_read f name given a y n = record {
  absent = λ e. a (one_text-rows f name ∙ e);
  yes = λ e. y (one_text-rows f name ∙ e);
  no = λ e. n (one_text-rows f name ∙ e);
}
