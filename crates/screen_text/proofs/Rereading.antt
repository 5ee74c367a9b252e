use Rattle.std.proofs.Common.{◌≡◌, ◌∙◌, ℕ, zero, suc, ◌+◌, ◌-◌, ◌*◌, ◌<◌, ◌≤◌, List, [], ◌∷◌, ◌++◌, length, take, drop, map, Bool, true, false, if◌then◌else◌, append_assoc, length-append, take-append-drop, length-take-le, length-drop, arith, Ok, refl, ap, sym}
use Rattle.std.specs.List.{list_all}
use Rattle.std.proofs.lemmas.Bool.{and_parts, and_from}
use Rattle.screen_text.specs.Bytes.{blanks, padded, is_blank, trimmed}
use Rattle.screen_text.specs.Escapes.{is_byte}
use Rattle.screen_text.specs.Screens.{written, screen_lines}
use Rattle.screen_text.specs.Reading.{State, whole, with_line, with_text, with_texts}
use Rattle.screen_text.proofs.Lines.{texts_more}
use Rattle.screen_text.proofs.Tidy.{blank-is, padded-trimmed}
use Rattle.screen_text.proofs.Escaping.{line-read}

-- lines lead from one state to another
pub record Leads (s : State) (texts : List (List ℕ)) (t : State) : Type 0 where
  pub reads : (line : ℕ) (more : List (List ℕ)) → with_texts line s (texts ++ more) ≡ with_texts (line + length texts) t more

pub stays : (s : State) → Leads s [] s
stays s = record { reads = λ line more. ap (λ k. with_texts k s more) (let e : line ≡ line + 0 = omega arith in e) }

pub one : (s t : State) (text : List ℕ) → with_text s text ≡ Ok t → Leads s (text ∷ []) t
one s t text e = record { reads = λ line more. texts_more line s t text more e }

pub joins : (s t u : State) (xs ys : List (List ℕ)) → Leads s xs t → Leads t ys u → Leads s (xs ++ ys) u
joins s t u xs ys a b = grind (arith, append_assoc, length-append)

-- a line goes into a screen that has room
room : (s : State) (line : List ℕ) → length line ≤ 64 → length s.bytes < 1024 * length s.numbers → with_line s line ≡ Ok (record s { bytes = s.bytes ++ padded 64 line })
unfolding with_line
room s line short some = grind arith

-- what is added to the last screen, which is filled by it
pub record Adds (s : State) (texts : List (List ℕ)) (part : List ℕ) : Type 0 where
  pub after : State
  pub leads : Leads s texts after
  pub headed : after.headed ≡ s.headed
  pub numbers : after.numbers ≡ s.numbers
  pub bytes : whole after ≡ s.bytes ++ part

-- the rest of a screen is blank
adds_blank : (s : State) (part : List ℕ) → length s.bytes + length part ≡ 1024 * length s.numbers → is_blank part ≡ true → Adds s [] part
unfolding whole padded
adds_blank s part fits e =
    let k : 1024 * length s.numbers - length s.bytes ≡ length part = omega arith in
    record { after = s; leads = stays s; headed = refl; numbers = refl; bytes = ap (λ n. s.bytes ++ blanks n) k ∙ ap (λ xs. s.bytes ++ xs) (sym (blank-is part e)) }

shorter : (t : Bool) (b : ℕ) (bs : List ℕ) → length (trimmed bs) ≤ length bs → length (if t then [] else b ∷ trimmed bs) ≤ length (b ∷ bs)
shorter t b bs e = grind arith

length-trimmed : (bs : List ℕ) → length (trimmed bs) ≤ length bs
unfolding trimmed
length-trimmed [] = omega arith
length-trimmed (b ∷ bs) = shorter (is_blank (b ∷ bs)) b bs (length-trimmed bs)

pub all-front : (p : ℕ → Bool) (n : ℕ) (bs : List ℕ) → list_all p bs ≡ true → list_all p (take n bs) ≡ true
all-front p (suc n) (b ∷ bs) e =
    let t = and_parts (p b) (list_all p bs) e in
    and_from (p b) (list_all p (take n bs)) t.0 (all-front p n bs t.1)
all-front p n bs e = grind (arith, and_parts, and_from)

-- one line, then the lines after it
adds_line : (s : State) (part : List ℕ) (texts : List (List ℕ)) → 64 ≤ length part → list_all is_byte part ≡ true → length s.bytes + length part ≡ 1024 * length s.numbers →
    Adds (record s { bytes = s.bytes ++ take 64 part }) texts (drop 64 part) → Adds s (written (trimmed (take 64 part)) ∷ texts) part
adds_line s part texts long text fits more =
    let size : length (take 64 part) ≡ 64 = length-take-le 64 part long in
    let cut : list_all is_byte (take 64 part) ≡ true = all-front is_byte 64 part text in
    let short : length (trimmed (take 64 part)) ≤ 64 = omega (arith, length-trimmed (take 64 part)) in
    let filled : padded 64 (trimmed (take 64 part)) ≡ take 64 part = ap (λ n. padded n (trimmed (take 64 part))) (sym size) ∙ padded-trimmed (take 64 part) in
    let read : with_text s (written (trimmed (take 64 part))) ≡ Ok (record s { bytes = s.bytes ++ take 64 part }) =
    line-read s (take 64 part) cut ∙ room s (trimmed (take 64 part)) short (omega arith) ∙ ap (λ xs. Ok (record s { bytes = s.bytes ++ xs })) filled in
    record {
      after = more.after;
      leads = joins s (record s { bytes = s.bytes ++ take 64 part }) more.after (written (trimmed (take 64 part)) ∷ []) texts (one s (record s { bytes = s.bytes ++ take 64 part }) (written (trimmed (take 64 part))) read) more.leads;
      headed = more.headed;
      numbers = more.numbers;
      bytes = more.bytes ∙ append_assoc s.bytes (take 64 part) (drop 64 part) ∙ ap (λ xs. s.bytes ++ xs) (take-append-drop 64 part);
    }

pub all-back : (p : ℕ → Bool) (n : ℕ) (bs : List ℕ) → list_all p bs ≡ true → list_all p (drop n bs) ≡ true
all-back p (suc n) (b ∷ bs) e = all-back p n bs (and_parts (p b) (list_all p bs) e).1
all-back p n bs e = grind (arith, and_parts)

adds_by : (t : Bool) (n : ℕ) (s : State) (part : List ℕ) → is_blank part ≡ t → 64 ≤ length part → list_all is_byte part ≡ true → length s.bytes + length part ≡ 1024 * length s.numbers →
    Adds (record s { bytes = s.bytes ++ take 64 part }) (map written (screen_lines n (drop 64 part))) (drop 64 part) →
    Adds s (map written (if t then [] else trimmed (take 64 part) ∷ screen_lines n (drop 64 part))) part
adds_by true n s part e long text fits more = adds_blank s part fits e
adds_by false n s part e long text fits more = adds_line s part (map written (screen_lines n (drop 64 part))) long text fits more

-- the lines of a screen
pub adds_lines : (n : ℕ) (s : State) (part : List ℕ) → length part ≡ 64 * n → list_all is_byte part ≡ true → length s.bytes + length part ≡ 1024 * length s.numbers → Adds s (map written (screen_lines n part)) part
unfolding screen_lines
adds_lines zero s [] size text fits = adds_blank s [] fits (unfold is_blank in refl)
adds_lines zero s (b ∷ part) size text fits = absurd (omega arith)
adds_lines (suc n) s part size text fits =
    let long : 64 ≤ length part = omega arith in
    adds_by (is_blank part) n s part refl long text fits
    (adds_lines n (record s { bytes = s.bytes ++ take 64 part }) (drop 64 part) (omega (arith, length-drop 64 part)) (all-back is_byte 64 part text)
    (omega (arith, length-drop 64 part, length-append s.bytes (take 64 part), length-take-le 64 part long)))
