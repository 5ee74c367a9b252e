-- A request leaves memory where it is.
use Rattle.std.proofs.Common.{◌≡◌, ◌∙◌, ℕ, List, [], ◌∷◌, Option, Bool, true, false, inl, inr, refl, ap, length, if◌then◌else◌}
use Rattle.block_buffers.specs.DeviceCalls.{DeviceCall}
use Rattle.machine.specs.declared.act.Act.{Act}
use Rattle.machine.specs.Entering.{with_bytes}
use Rattle.machine.specs.State.{State}
use Rattle.machine.proofs.Places.{answer_stays, ticked_at}
use Rattle.inner_interpreter.specs.Histories.{acted, takes}
use Rattle.inner_interpreter.specs.Moves.{Turn, Tick, Answer as AnswerTurn, Enter as EnterTurn}
use Rattle.serving.specs.Replies.{refusal}
use Rattle.serving.specs.Requests.{Wish, Run, Answer, Enter, SetCell, SetBytes, Look, Registers, PutBack, Memory, Find, View, See, Listed, Extent, Image, Save, Quit, Version, Unknown}
use Rattle.serving.specs.Running.{Lead, Progress}
use Rattle.serving.specs.Served.{MayObey, Served, Serves, act_reply, is_stretch, move_refusal, moved, resumed, told}

pub acted_stays : (s : State) (t : Turn) → (acted s t).0.parts.place ≡ s.parts.place
acted_stays s Tick = ap (λ (x : State × Act). x.0.parts.place) (ticked_at s.parts.place s.parts)
acted_stays s (AnswerTurn reply) = answer_stays s reply
acted_stays s (EnterTurn word) = refl

lead_stays : (count limit : ℕ) (p : Progress) (ts : List Turn) (q : Progress) → Lead count limit p ts q → q.state.parts.place ≡ p.state.parts.place
unfolding Lead
lead_stays count limit p [] q h = ap (λ (m : Progress). m.state.parts.place) h
lead_stays count limit p (t ∷ ts) q h =
    ap (λ (m : Progress). m.state.parts.place) h.3 ∙ acted_stays h.0.state t ∙ lead_stays count limit p ts h.0 h.1

-- where the state of what was served has its memory
abbrev place_in : Served → Option ℕ
place_in r = r.state.parts.place

if_stays : (b : Bool) (p : Option ℕ) (x y : Served) → place_in x ≡ p → place_in y ≡ p → place_in (if b then x else y) ≡ p
if_stays true p x y h k = h
if_stays false p x y h k = k

moved_stays : (s : State) (t : Turn) → place_in (moved s t) ≡ s.parts.place
moved_stays s t =
    let m = acted s t in if_stays (takes s t) s.parts.place (told m.0 (act_reply m.0 m.1)) (told s (move_refusal s)) (acted_stays s t) refl

bytes_stay : (s : State) (at : ℕ) (bytes : List ℕ) → place_in (if is_stretch (length bytes) then resumed (with_bytes s at bytes) else told s (refusal 3)) ≡ s.parts.place
bytes_stay s at bytes = if_stays (is_stretch (length bytes)) s.parts.place (resumed (with_bytes s at bytes)) (told s (refusal 3)) refl refl

pub serves_stays : (count : ℕ) (s : State) (w : Wish) (whole : Bool) (r : Served) → Serves count s w whole r → place_in r ≡ s.parts.place
serves_stays count s (Run limit) whole r h = ap place_in h.2 ∙ lead_stays count limit _ h.1.turns h.0 h.1.lead
serves_stays count s (Answer reply) whole r h = ap place_in h ∙ moved_stays s (AnswerTurn reply)
serves_stays count s (Enter word) whole r h = ap place_in h ∙ moved_stays s (EnterTurn word)
serves_stays count s (SetCell address x) whole r h = ap place_in h
serves_stays count s (SetBytes at bytes) whole r h = ap place_in h ∙ bytes_stay s at bytes
serves_stays count s Look whole r h = ap place_in h
serves_stays count s Registers whole r h = ap place_in h
serves_stays count s (PutBack body) whole r (inl h) = ap place_in h.2 ∙ ap (λ (t : State). t.parts.place) h.1.shares.same
serves_stays count s (PutBack body) whole r (inr h) = ap place_in h.1
serves_stays count s (Memory at n) whole r h = ap place_in h
serves_stays count s (Find name) whole r h = ap place_in h
serves_stays count s (View name) whole r h = ap place_in h
serves_stays count s (See name) whole r h = ap place_in h.4
serves_stays count s (Listed listing) whole r h = ap place_in h
serves_stays count s (Extent name) whole r h = ap place_in h
serves_stays count s (Image entry) whole r h = ap place_in h
serves_stays count s Save whole r h = ap place_in h.3
serves_stays count s Quit whole r h = ap place_in h.3
serves_stays count s Version whole r h = ap place_in h
serves_stays count s Unknown whole r h = ap place_in h

pub may_stay : (count : ℕ) (w : Wish) (whole : Bool) (s t : State) (c c' : List DeviceCall) (o o' : Option (List ℕ)) → MayObey count w whole s t c c' o o' → t.parts.place ≡ s.parts.place
may_stay count w whole s t c c' o o' (inl h) = ap (λ (u : State). u.parts.place) h.served_is.state_is ∙ serves_stays count s w whole h.one h.serves
may_stay count w whole s t c c' o o' (inr h) = ap (λ (u : State). u.parts.place) h.refused.state_is
