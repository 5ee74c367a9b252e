-- Lines and keys at the front of the typed bytes.
use Rattle.std.proofs.Common.{rules, ◌≡◌, ℕ, suc, ◌+◌, ◌-◌, ◌<◌, List, ◌∷◌, Bool, true, false, ◌++◌, length, take, drop, get_or, ap, ◌∙◌, append-nil, drop-cons, arith}
use Rattle.std.proofs.lemmas.List.{take_more}
use Rattle.std.specs.List.{list_all}
use Rattle.block_buffers.specs.Disks.{Disk}
use Rattle.machine_parts.specs.declared.parts.Request.TheVariants as request
use Rattle.machine.specs.Answer.{Key, Line, InputEnd, is_return, is_typed}
use Rattle.inner_interpreter.specs.Lines.{Taken, line_of, line_reply, with_front}
use Rattle.inner_interpreter.specs.Runs.{served, key_served}
use Rattle.machine.specs.State.{State}
use Rattle.inner_interpreter.proofs.Lining.{returned_here, more_here, typed_more}
use Rattle.std.proofs.lemmas.Grind.{common_steps}

drop_one : (typed : List ℕ) (i : ℕ) → i < length typed → drop i typed ≡ get_or typed i 0 ∷ drop (i + 1) typed
drop_one typed i lt = let on : suc i ≡ i + 1 = omega arith in drop-cons typed i 0 lt ∙ ap (λ k. get_or typed i 0 ∷ drop k typed) on

one_and : (typed more : List ℕ) (i : ℕ) → i < length typed → drop i typed ++ more ≡ get_or typed i 0 ∷ (drop (i + 1) typed ++ more)
one_and typed more i lt = ap (λ ts. ts ++ more) (drop_one typed i lt)

-- the byte at i ends the line
pub line_here : (n i p : ℕ) (typed more : List ℕ) → p ≡ i → i < n → i < length typed → is_return (get_or typed p 0) ≡ true
    → with_front (take i typed) (line_of (n - i) (drop i typed ++ more)) ≡ line_of n (typed ++ more)
    → line_of n (typed ++ more) ≡ record { bytes = take p typed; returned = true; rest = drop (p + 1) typed ++ more }
line_here n i p typed more q lt there r h = grind (arith, returned_here, one_and, append-nil)

-- it doesn't
pub line_on : (n i p : ℕ) (typed more : List ℕ) → p ≡ i → i < n → i < length typed → is_return (get_or typed p 0) ≡ false
    → with_front (take i typed) (line_of (n - i) (drop i typed ++ more)) ≡ line_of n (typed ++ more)
    → with_front (take (i + 1) typed) (line_of (n - (i + 1)) (drop (i + 1) typed ++ more)) ≡ line_of n (typed ++ more)
line_on n i p typed more q lt there r h = grind (arith, common_steps, take_more, more_here, one_and)

-- all n bytes are typed
pub line_full : (n i : ℕ) (typed more : List ℕ) → i ≡ n
    → with_front (take i typed) (line_of (n - i) (drop i typed ++ more)) ≡ line_of n (typed ++ more)
    → line_of n (typed ++ more) ≡ record { bytes = take n typed; returned = false; rest = drop n typed ++ more }
line_full n i typed more q h = grind (arith, append-nil)

pub typed_on : (i p : ℕ) (typed : List ℕ) → p ≡ i → i < length typed → is_return (get_or typed p 0) ≡ false
    → list_all is_typed (take i typed) ≡ true → list_all is_typed (take (i + 1) typed) ≡ true
typed_on i p typed q there r h = grind (arith, common_steps, take_more, typed_more)

pub key_here : (s : State) (typed : List ℕ) (i : ℕ) → i < length typed → (disk : Disk) (more : List ℕ)
    → served s request.Key (drop i typed ++ more) disk ≡ record { reply = Key (get_or typed i 0); typed = drop (i + 1) typed ++ more; disk = disk }
key_here s typed i lt disk more = ap (λ ts. key_served ts disk) (one_and typed more i lt)

pub line_there : (s : State) (n : ℕ) (unread rest bytes : List ℕ) (returned : Bool) → ((more : List ℕ) → line_of n (unread ++ more) ≡ record { bytes = bytes; returned = returned; rest = rest ++ more }) → (disk : Disk) (more : List ℕ)
    → served s (request.Line n) (unread ++ more) disk ≡ record { reply = line_reply bytes returned; typed = rest ++ more; disk = disk }
line_there s n unread rest bytes returned h disk more = ap (λ (l : Taken). record { reply = line_reply l.bytes l.returned; typed = l.rest; disk = disk }) (h more)

-- which answer a line is
pub reply_none : (bytes : List ℕ) → length bytes ≡ 0 → line_reply bytes false ≡ InputEnd
reply_none bytes e = search rules

pub reply_some : (bytes : List ℕ) → 0 < length bytes → line_reply bytes false ≡ Line bytes false
reply_some bytes e = search rules

pub reply_returned : (bytes : List ℕ) → line_reply bytes true ≡ Line bytes true
reply_returned bytes = search rules
