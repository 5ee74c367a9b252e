-- Moves that a host makes, one after another.
use Rattle.std.proofs.Common.{◌≡◌, ℕ, zero, suc, ◌-◌, arith, replicate, Ok, List, [], ◌∷◌, ◌++◌, true, false, refl, sym, ap, subst, ◌∙◌, append-nil, append_assoc, map, drop, length, ◌<◌, ◌≤◌, ◌+◌, get_or}
use Rattle.std.proofs.lemmas.List.{drop_more, drop_all}
use Rattle.inner_interpreter.specs.declared.hosts.Move.{Move}
use Rattle.machine.specs.declared.act.Act.{Act}
use Rattle.machine.specs.declared.act.Event.{Event}
use Rattle.machine.specs.State.{State}
use Rattle.inner_interpreter.specs.Moves.{Turn, Tick, shown_bytes}
use Rattle.inner_interpreter.specs.Histories.{acted, made_after, made, takes, told_event}
use Rattle.inner_interpreter.proofs.HostCalls.{ManyTicked}
use Rattle.inner_interpreter.specs.Hosts.{IsMade, HasMade, turn_of}
use Rattle.inner_interpreter.proofs.Hosting.{taken_move, left_move, tick_left, stays_refused, one_call}
use Rattle.machine.specs.Tick.{AreTicked, IsRefused}
use Rattle.machine.specs.declared.act.Refused.{Refused}

-- bytes that are noted one part after another, or none
pub noted_both : (a b c xs ys : List ℕ) → b ≡ a ++ xs → c ≡ b ++ ys → c ≡ a ++ (xs ++ ys)
noted_both a b c xs ys h k = k ∙ ap (λ l. l ++ ys) h ∙ append_assoc a xs ys

pub noted_none : (a : List ℕ) → a ≡ a ++ []
noted_none a = sym (append-nil a)

-- no move is made yet, or none that is taken
pub none_made : (s : State) (ts : List Turn) (o : List ℕ) (es : List Event) → HasMade s ts s ts o o es es
none_made s ts o es = record { bytes = []; told = []; made_is = refl; shown_is = sym (append-nil o); events_are = sym (append-nil es) }

pub left_made : (s t : State) (x : Turn) (ts : List Turn) (o : List ℕ) (es : List Event) → takes s x ≡ false → t ≡ s → HasMade s (x ∷ ts) t ts o o es es
left_made s t x ts o es h e = record {
  bytes = [];
  told = [];
  made_is = left_move s x ts h ∙ ap (λ u. made u ts) (sym e);
  shown_is = sym (append-nil o);
  events_are = sym (append-nil es);
}

pub taken_made : (s t : State) (act : Act) (x : Turn) (ts : List Turn) (o o' : List ℕ) (es es' : List Event) → takes s x ≡ true → (t, act) ≡ acted s x → o' ≡ o ++ shown_bytes t.parts.memory act.shown → es' ≡ es ++ told_event act.event
    → HasMade s (x ∷ ts) t ts o o' es es'
taken_made s t act x ts o o' es es' h e sent told = grind (arith, taken_move)

pub made_more : (s t u : State) (ts us vs : List Turn) (o o' o'' : List ℕ) (es es' es'' : List Event) → HasMade s ts t us o o' es es' → HasMade t us u vs o' o'' es' es'' → HasMade s ts u vs o o'' es es''
made_more s t u ts us vs o o' o'' es es' es'' x y = grind (arith, append_assoc)

pub all_made : (s t : State) (ts : List Turn) (o o' : List ℕ) (es es' : List Event) → HasMade s ts t [] o o' es es' → IsMade (made s ts) t o o' es es'
unfolding made
all_made s t ts o o' es es' h = grind (arith, append-nil)

-- the next move of a list was made
pub next_made : (moves : List Move) (i : ℕ) (d : Move) (s t u : State) (all : List Turn) (o o' o'' : List ℕ) (es es' es'' : List Event) → i < length moves → HasMade s all t (map turn_of (drop i moves)) o o' es es'
    → ((ts : List Turn) → HasMade t (turn_of (get_or moves i d) ∷ ts) u ts o' o'' es' es'') → HasMade s all u (map turn_of (drop (i + 1) moves)) o o'' es es''
next_made moves i d s t u all o o' o'' es es' es'' some x y =
    made_more s t u all (map turn_of (drop i moves)) (map turn_of (drop (i + 1) moves)) o o' o'' es es' es'' x
    (subst (λ (vs : List Move). HasMade t (map turn_of vs) u (map turn_of (drop (i + 1) moves)) o' o'' es' es'') (sym (drop_more moves i d some)) (y (map turn_of (drop (i + 1) moves))))

-- no move is left
pub last_made : (moves : List Move) (i : ℕ) (s t : State) (o o' : List ℕ) (es es' : List Event) → length moves ≤ i → HasMade s (map turn_of moves) t (map turn_of (drop i moves)) o o' es es' → IsMade (made s (map turn_of moves)) t o o' es es'
last_made moves i s t o o' es es' none x =
    all_made s t (map turn_of moves) o o' es es'
    (subst (λ (vs : List Move). HasMade s (map turn_of moves) t (map turn_of vs) o o' es es') (drop_all i moves none) x)

-- ticks that a machine doesn't take change nothing
ticks_left : (n : ℕ) (s : State) (ts : List Turn) → takes s Tick ≡ false → made s (replicate n Tick ++ ts) ≡ made s ts
ticks_left zero s ts h = refl
ticks_left (suc n) s ts h = left_move s Tick (replicate n Tick ++ ts) h ∙ ticks_left n s ts h

replicate-add : (m n : ℕ) → replicate (m + n) Tick ≡ replicate m Tick ++ replicate n Tick
replicate-add zero n = let e : 0 + n ≡ n = omega arith in ap (λ k. replicate k Tick) e
replicate-add (suc m) n = let e : suc m + n ≡ suc (m + n) = omega arith in ap (λ k. replicate k Tick) e ∙ ap (λ ts. Tick ∷ ts) (replicate-add m n)

-- so many ticks were made by a call
pub many_made : (all : List Turn) (a s t : State) (left count : ℕ) (act : Act) (o o' o'' : List ℕ) (es es' es'' : List Event) → AreTicked left s t (count, act) → count ≤ left → HasMade a all s (replicate left Tick) o o' es es'
    → o'' ≡ o' ++ shown_bytes t.parts.memory act.shown → es'' ≡ es' ++ told_event act.event → HasMade a all t (replicate (left - count) Tick) o o'' es es''
many_made all a s t left count act o o' o'' es es' es'' h most x sent told =
    let sum : left ≡ count + (left - count) = omega (arith, most) in
    let split : replicate left Tick ≡ replicate count Tick ++ replicate (left - count) Tick = ap (λ k. replicate k Tick) sum ∙ replicate-add count (left - count) in
    made_more a s t all (replicate left Tick) (replicate (left - count) Tick) o o' o'' es es' es'' x (record {
      bytes = shown_bytes t.parts.memory act.shown;
      told = told_event act.event;
      made_is = ap (made s) split ∙ one_call s t (ManyTicked left (Ok (count, act))) (replicate (left - count) Tick) h;
      shown_is = sent;
      events_are = told;
    })

pub ticks_refused : (all : List Turn) (a s t : State) (left : ℕ) (refused : Refused) (o o' : List ℕ) (es es' : List Event) → IsRefused s t refused → HasMade a all s (replicate left Tick) o o' es es' → IsMade (made a all) t o o' es es'
ticks_refused all a s t left refused o o' es es' h x =
    let none : takes s Tick ≡ false = tick_left s t refused h in
    let stays : t ≡ s = stays_refused s t refused h in
    let end : made s (replicate left Tick) ≡ made s [] = ap (made s) (sym (append-nil (replicate left Tick))) ∙ ticks_left left s [] none in
    rw stays (all_made a s all o o' es es' (record { bytes = x.bytes; told = x.told; made_is = x.made_is ∙ ap (made_after x.bytes x.told) end; shown_is = x.shown_is; events_are = x.events_are }))

pub ticks_done : (all : List Turn) (a s : State) (left : ℕ) (o o' : List ℕ) (es es' : List Event) → left ≡ 0 → HasMade a all s (replicate left Tick) o o' es es' → IsMade (made a all) s o o' es es'
ticks_done all a s left o o' es es' e x = all_made a s all o o' es es' (subst (λ n. HasMade a all s (replicate n Tick) o o' es es') e x)
