-- A device without blocks is given no call.
use Rattle.std.proofs.Common.{◌≡◌, ◌∙◌, ℕ, List, [], ◌∷◌, ◌++◌, Option, Some, None, Bool, true, false, inl, inr, refl, sym, ap, arith, map, append-nil, length, if◌then◌else◌}
use Rattle.std.specs.List.{flat_map}
use Rattle.block_buffers.specs.declared.entry.Entry.{Entry}
use Rattle.block_buffers.specs.DeviceCalls.{DeviceCall}
use Rattle.machine_parts.specs.Whole.{Whole}
use Rattle.machine_parts.specs.declared.parts.Request.{Request}
use Rattle.machine.specs.declared.act.Event.{Event}
use Rattle.machine.specs.State.{State}
use Rattle.inner_interpreter.specs.Histories.{acted, takes}
use Rattle.inner_interpreter.specs.Moves.{Turn, Tick, Answer as AnswerTurn, Enter as EnterTurn, device_call}
use Rattle.serving.specs.Replies.{refusal}
use Rattle.serving.specs.Requests.{Wish, Run, Answer, Enter, SetCell, SetBytes, Look, Registers, PutBack, Memory, Find, View, See, Listed, Extent, Image, Save, Quit, Version, Unknown}
use Rattle.serving.specs.Running.{Comes, Lead, Progress, next_at, next_of}
use Rattle.serving.specs.Saving.{AreSaved, as_done, unsaved, write_if, writes_of}
use Rattle.serving.specs.Served.{MayObey, Served, Serves, act_reply, is_stretch, move_refusal, moved, resumed, told}
use Rattle.serving.specs.declared.running.Next.{Next}
use Rattle.serving.specs.declared.running.Next.TheVariants as next

none_answered : (limit : ℕ) (s : State) (e : Event) (d sh : ℕ) (r : Request) → next_of 0 limit s e d sh ≡ next.Answers r → ⊥
unfolding next_of
none_answered limit s e d sh r h = grind arith

no_call : (n : Next) (s : State) (t : Turn) → ((r : Request) → n ≡ next.Answers r → ⊥) → Comes n s t → device_call s t ≡ []
no_call next.Ticks s Tick none h = refl
no_call next.Ticks s (AnswerTurn reply) none h = absurd h
no_call next.Ticks s (EnterTurn word) none h = absurd h
no_call (next.Answers r) s t none h = absurd (none r refl)
no_call next.Ends s t none h = absurd h

lead_calls : (limit : ℕ) (a : Progress) (ts : List Turn) (b : Progress) → Lead 0 limit a ts b → b.calls ≡ a.calls
unfolding Lead
lead_calls limit a [] b h = ap (λ (m : Progress). m.calls) h
lead_calls limit a (t ∷ ts) b h =
    let none : device_call h.0.state t ≡ [] =
    no_call (next_at 0 limit h.0) h.0.state t (none_answered limit h.0.state h.0.event h.0.done h.0.shown) h.2 in
    ap (λ (m : Progress). m.calls) h.3 ∙ ap (λ cs. h.0.calls ++ cs) none ∙ append-nil h.0.calls ∙ lead_calls limit a ts h.0 h.1

no_write : (s : Whole) (e : Entry) → writes_of 0 s e ≡ []
unfolding unsaved
no_write s e = grind arith

no_writes : (s : Whole) (es : List Entry) → flat_map (writes_of 0 s) es ≡ []
no_writes s [] = refl
no_writes s (e ∷ es) = ap (λ cs. cs ++ flat_map (writes_of 0 s) es) (no_write s e) ∙ no_writes s es

none_done : (calls : List DeviceCall) → map as_done calls ≡ [] → calls ≡ []
none_done [] h = refl
none_done (c ∷ cs) h = grind arith

saved_calls : (s : Whole) (es : List Entry) (calls : List DeviceCall) (lost : ℕ) → AreSaved 0 s es calls lost → calls ≡ []
saved_calls s es calls lost h = none_done calls (h.writes ∙ no_writes s es)

-- the calls of what was served
abbrev calls_in : Served → List DeviceCall
calls_in r = r.calls

if_none : (b : Bool) (x y : Served) → calls_in x ≡ [] → calls_in y ≡ [] → calls_in (if b then x else y) ≡ []
if_none true x y h k = h
if_none false x y h k = k

moved_calls : (s : State) (t : Turn) → calls_in (moved s t) ≡ []
moved_calls s t =
    let m = acted s t in if_none (takes s t) (told m.0 (act_reply m.0 m.1)) (told s (move_refusal s)) refl refl

serves_none : (s : State) (w : Wish) (whole : Bool) (r : Served) → Serves 0 s w whole r → r.calls ≡ []
serves_none s (Run limit) whole r h = ap calls_in h.2 ∙ lead_calls limit _ h.1.turns h.0 h.1.lead
serves_none s (Answer reply) whole r h = ap calls_in h ∙ moved_calls s (AnswerTurn reply)
serves_none s (Enter word) whole r h = ap calls_in h ∙ moved_calls s (EnterTurn word)
serves_none s (SetCell address x) whole r h = ap calls_in h
serves_none s (SetBytes at bytes) whole r h = ap calls_in h ∙ if_none (is_stretch (length bytes)) _ _ refl refl
serves_none s Look whole r h = ap calls_in h
serves_none s Registers whole r h = ap calls_in h
serves_none s (PutBack body) whole r (inl h) = ap calls_in h.2
serves_none s (PutBack body) whole r (inr h) = ap calls_in h.1
serves_none s (Memory at n) whole r h = ap calls_in h
serves_none s (Find name) whole r h = ap calls_in h
serves_none s (View name) whole r h = ap calls_in h
serves_none s (See name) whole r h = ap calls_in h.4
serves_none s (Listed listing) whole r h = ap calls_in h
serves_none s (Extent name) whole r h = ap calls_in h
serves_none s (Image entry) whole r h = ap calls_in h
serves_none s Save whole r h = ap calls_in h.3 ∙ saved_calls s.parts _ h.0 h.1 h.2
serves_none s Quit whole r h = ap calls_in h.3 ∙ saved_calls s.parts _ h.0 h.1 h.2
serves_none s Version whole r h = ap calls_in h
serves_none s Unknown whole r h = ap calls_in h

pub may_call_none : (w : Wish) (whole : Bool) (s t : State) (c : List DeviceCall) (o o' : Option (List ℕ)) → MayObey 0 w whole s t [] c o o' → c ≡ []
may_call_none w whole s t c o o' (inl h) = h.served_is.calls_are ∙ serves_none s w whole h.one h.serves
may_call_none w whole s t c o o' (inr h) = h.refused.calls_are
