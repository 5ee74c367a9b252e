-- What a writer into a room has taken, and which room it is.
use Rattle.std.proofs.Common.{◌≡◌, ◌≤◌, ◌<◌, ◌+◌, ◌-◌, ◌^◌, ℕ, List, [], ◌∷◌, ◌++◌, Option, Some, None, Result, Ok, Err, OnOk, true, false, inl, inr, refl, sym, ap, subst, ◌∙◌, arith, length, take, drop, min, append_assoc}
use Rattle.std.proofs.lemmas.List.{length-append, same_lists, places}
use Rattle.std.proofs.lemmas.Grind.{common_steps}
use Rattle.block_buffers.specs.DeviceCalls.{DeviceCall}
use Rattle.machine.specs.State.{State, state_at}
use Rattle.inner_interpreter.specs.Ends.{Marks}
use Rattle.inner_interpreter.specs.declared.ends.EndFault.{EndFault}
use Rattle.serving.specs.Requests.{Wish}
use Rattle.serving.specs.Room.{SendsFew, move_room}
use Rattle.serving.specs.Served.{IsServed, MayObey, Served}
use Rattle.serving.proofs.Anywhere.{may_at}
use Rattle.serving.proofs.Blockless.{may_call_none}
use Rattle.serving.proofs.Places.{may_stay}
use Rattle.forth83_c.specs.Replied.{filled, size_as}

-- a room before it takes a byte
pub filled_none : (room : List ℕ) → filled room [] ≡ room
unfolding filled
filled_none room = grind (arith, common_steps)

pub none_size : 0 ≡ size_as 0
unfolding size_as
none_size = refl

-- a room that takes more bytes
more_filled : (before sent part room : List ℕ) (at : ℕ) → room ≡ filled before sent → at ≡ size_as (length sent) → length room < 2 ^ 63
    → take at room ++ (take (length room - at) part ++ drop (at + length part) room) ≡ filled before (sent ++ part)
unfolding filled size_as
more_filled before sent part room at is size few = rw is (same_lists _ _ (grind (arith, places)) (λ k d h. grind (arith, places)))

pub filled_more : (before sent sent' part room room' : List ℕ) (at : ℕ) → room ≡ filled before sent → at ≡ size_as (length sent) → length room < 2 ^ 63 → sent' ≡ sent ++ part
    → room' ≡ take at room ++ (take (length room - at) part ++ drop (at + length part) room) → room' ≡ filled before sent'
filled_more before sent sent' part room room' at is size few more put = put ∙ more_filled before sent part room at is size few ∙ ap (filled before) (sym more)

pub more_size : (sent sent' part : List ℕ) (at at' : ℕ) → at ≡ size_as (length sent) → sent' ≡ sent ++ part → at' ≡ min (at + length part) 18446744073709551615 → at' ≡ size_as (length sent')
unfolding size_as
more_size sent sent' part at at' size more next = grind (arith, length-append)

pub put_fits : (room part : List ℕ) (at fits : ℕ) → at < length room → fits ≡ min (length room - at) (length part)
    → take at room ++ (take fits part ++ drop (at + fits) room) ≡ take at room ++ (take (length room - at) part ++ drop (at + length part) room)
put_fits room part at fits inside e = same_lists _ _ (grind (arith, places)) (λ k d h. grind (arith, places))

pub put_none : (room part : List ℕ) (at : ℕ) → length room ≤ at
    → room ≡ take at room ++ (take (length room - at) part ++ drop (at + length part) room)
put_none room part at out = same_lists _ _ (grind (arith, places)) (λ k d h. grind (arith, places))

-- which room it is, what that had, and the bytes that it took
abbrev pub marked : (name : ℕ) → (before taken : List ℕ) → List ℕ
marked name before taken = name ∷ (length before ∷ (before ++ taken))

-- lists that begin with as many
pub front_same : (xs ys bs cs : List ℕ) → length ys ≡ length xs → ys ++ cs ≡ xs ++ bs → (ys ≡ xs) × (cs ≡ bs)
front_same [] [] bs cs e h = (refl, h)
front_same [] (y ∷ ys) bs cs e h = grind arith
front_same (x ∷ xs) [] bs cs e h = grind arith
front_same (x ∷ xs) (y ∷ ys) bs cs e h = grind (arith, front_same xs ys bs cs)

-- more bytes were taken by the same room
pub record TookMore (name name' : ℕ) (before before' taken taken' bytes : List ℕ) : Type 0 where
  pub same : name' ≡ name
  pub room : before' ≡ before
  pub more : taken' ≡ taken ++ bytes

pub took_more : (name name' : ℕ) (before before' taken taken' bytes : List ℕ) → marked name' before' taken' ≡ marked name before taken ++ bytes → TookMore name name' before before' taken taken' bytes
took_more name name' before before' taken taken' bytes e =
    let same : name' ≡ name = grind (arith, e) in
    let size : length before' ≡ length before = grind (arith, e) in
    let rest : before' ++ taken' ≡ before ++ (taken ++ bytes) = grind (arith, e, append_assoc before taken bytes) in
    let both = front_same before before' (taken ++ bytes) taken' size rest in
    record { same = same; room = both.0; more = both.1 }

served_in : (r : Served) (t : State) (taken taken' : List ℕ) (c : List DeviceCall) (o o' : Option (List ℕ)) → IsServed r true t [] c o o' → c ≡ [] → taken' ≡ taken ++ r.replies → IsServed r true t [] [] (Some taken) (Some taken')
served_in r t taken taken' c o o' h none e = record { state_is = h.state_is; calls_are = sym none ∙ h.calls_are; sent_is = e }

-- the replies of what was obeyed, in a room
pub record Took (w : Wish) (s t : State) (name name' : ℕ) (before before' taken taken' : List ℕ) : Type 0 where
  pub same : name' ≡ name
  pub room : before' ≡ before
  pub obeyed : MayObey 0 w true s t [] [] (Some taken) (Some taken')

took_by : (w : Wish) (s t : State) (c : List DeviceCall) (name name' : ℕ) (before before' taken taken' : List ℕ) → c ≡ [] → MayObey 0 w true s t [] c (Some (marked name before taken)) (Some (marked name' before' taken')) → Took w s t name name' before before' taken taken'
took_by w s t c name name' before before' taken taken' none (inl h) =
    let more = took_more name name' before before' taken taken' h.one.replies h.served_is.sent_is in
    record {
      same = more.same;
      room = more.room;
      obeyed = inl (record { one = h.one; serves = h.serves; served_is = served_in h.one t taken taken' c _ _ h.served_is none more.more });
    }
took_by w s t c name name' before before' taken taken' none (inr h) =
    let more = took_more name name' before before' taken taken' _ h.refused.sent_is in
    record {
      same = more.same;
      room = more.room;
      obeyed = inr (record { needs = h.needs; refused = served_in _ t taken taken' c _ _ h.refused none more.more });
    }

pub took : (w : Wish) (s t : State) (c : List DeviceCall) (name name' : ℕ) (before before' taken taken' : List ℕ) → MayObey 0 w true s t [] c (Some (marked name before taken)) (Some (marked name' before' taken')) → Took w s t name name' before before' taken taken'
took w s t c name name' before before' taken taken' h =
    took_by w s t c name name' before before' taken taken' (may_call_none w true s t c _ _ h) h

-- what a request came to over a device without blocks, by a writer into a room that never fails
pub record Obeyed (w : Wish) (s t : State) (name name' : ℕ) (before before' taken' : List ℕ) : Type 0 where
  pub stays : t.parts.place ≡ s.parts.place
  pub same : name' ≡ name
  pub room : before' ≡ before
  pub obeyed : MayObey 0 w true s t [] [] (Some []) (Some taken')

obeyed_by : (w : Wish) (s t : State) (d c : List DeviceCall) (name name' : ℕ) (before before' taken taken' : List ℕ) → d ≡ [] → taken ≡ [] → MayObey 0 w true s t d c (Some (marked name before taken)) (Some (marked name' before' taken')) → Obeyed w s t name name' before before' taken'
obeyed_by w s t d c name name' before before' taken taken' none empty h =
    let h' : MayObey 0 w true s t [] c (Some (marked name before [])) (Some (marked name' before' taken')) =
    subst (λ (l : List ℕ). MayObey 0 w true s t [] c (Some (marked name before l)) (Some (marked name' before' taken'))) empty
    (subst (λ (l : List DeviceCall). MayObey 0 w true s t l c (Some (marked name before taken)) (Some (marked name' before' taken'))) none h) in
    let k = took w s t c name name' before before' [] taken' h' in
    record { stays = may_stay 0 w true s t [] c _ _ h'; same = k.same; room = k.room; obeyed = k.obeyed }

pub obeyed_in : {T : Type 0} (r : Result T EndFault) (w : Wish) (s t : State) (d c : List DeviceCall) (name name' : ℕ) (before before' taken taken' : List ℕ) → Marks false false r → d ≡ [] → taken ≡ [] → OnOk r (MayObey 0 w true s t d c (Some (marked name before taken)) (Some (marked name' before' taken'))) → Obeyed w s t name name' before before' taken'
obeyed_in (Ok x) w s t d c name name' before before' taken taken' mark none empty h = obeyed_by w s t d c name name' before before' taken taken' none empty h
obeyed_in (Err x) w s t d c name name' before before' taken taken' mark none empty h = grind arith

-- a machine over lent memory obeyed a request; so did that which the record keeps
pub obeyed_lent : (name : ℕ) (w : Wish) (m m' s s' : State) (reply : List ℕ) → s.parts.place ≡ None → m ≡ state_at (Some name) s → s' ≡ state_at None m' → MayObey 0 w true m m' [] [] (Some []) (Some reply) → MayObey 0 w true s s' [] [] (Some []) (Some reply)
obeyed_lent name w m m' s s' reply none from to h =
    let back : state_at None m ≡ s = ap (state_at None) from ∙ ap (λ p. state_at p s) (sym none) in
    subst (λ (t : State). MayObey 0 w true t s' [] [] (Some []) (Some reply)) back
    (subst (λ (t : State). MayObey 0 w true (state_at None m) t [] [] (Some []) (Some reply)) (sym to) (may_at None 0 w true m m' [] [] (Some []) (Some reply) h))

-- a room that was empty took no more than this
pub room_in : {T : Type 0} (r : Result T EndFault) (name name' : ℕ) (before before' taken taken' : List ℕ) → Marks false false r → taken ≡ [] → before' ≡ before → OnOk r (SendsFew move_room (Some (marked name before taken)) (Some (marked name' before' taken'))) → length taken' ≤ move_room
room_in (Ok x) name name' before before' taken taken' mark empty same few =
    let old : length (before ++ taken) ≡ length before + length taken = length-append before taken in
    let new : length (before' ++ taken') ≡ length before' + length taken' = length-append before' taken' in
    let none : length taken ≡ 0 = ap length empty in
    let size : length before' ≡ length before = ap length same in
    omega (arith, few, old, new, none, size)
room_in (Err x) name name' before before' taken taken' mark empty same few = grind arith

pub size_few : (size n most : ℕ) → size ≡ size_as n → n ≤ most → size ≤ most
unfolding size_as
size_few size n most e h = grind arith
