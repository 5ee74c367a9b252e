-- A request does the same wherever the machine's memory is.
use Rattle.std.proofs.Common.{◌≡◌, ◌∙◌, ℕ, ◌+◌, List, [], ◌∷◌, ◌++◌, Option, Some, None, Bool, true, false, inl, inr, refl, sym, ap, subst, length, if◌then◌else◌}
use Rattle.block_buffers.specs.DeviceCalls.{DeviceCall}
use Rattle.debug_tracer.specs.Lines.{line}
use Rattle.dictionary.specs.Order.{is_beyond_limit}
use Rattle.machine_parts.specs.Whole.{Whole, at_place}
use Rattle.machine_parts.specs.declared.parts.Request.{Request}
use Rattle.machine_parts.specs.declared.parts.Request.TheVariants.{Key, Line, Read as ReadBlock, Write as WriteBlock}
use Rattle.machine.specs.Answer.{Reply, Key as KeyReply, Line as LineReply, InputEnd, InputFault, ReadOk, ReadFault, WriteOk, WriteFault, asked_by}
use Rattle.machine.specs.declared.act.Act.{Act}
use Rattle.machine.specs.Entering.{can_save, with_bytes}
use Rattle.machine.specs.State.{State, state_at}
use Rattle.machine.proofs.Places.{answer_at, ticked_at}
use Rattle.inner_interpreter.specs.Histories.{acted, takes}
use Rattle.inner_interpreter.specs.Moves.{Turn, Tick, Answer as AnswerTurn, Enter as EnterTurn, call_by, device_call, shown_bytes}
use Rattle.serving.specs.Frames.{shown_reply}
use Rattle.serving.specs.Registers.{IsPutBack, register_cells, state_cells}
use Rattle.serving.specs.Replies.{image_reply, listing_reply, refusal, registers_reply, state_reply}
use Rattle.serving.specs.Requests.{Wish, Run, Answer, Enter, SetCell, SetBytes, Look, Registers, PutBack, Memory, Find, View, See, Listed, Extent, Image, Save, Quit, Version, Unknown}
use Rattle.serving.specs.Running.{Comes, Lead, Progress, next_at, next_of, onward}
use Rattle.serving.specs.Served.{IsServed, MayObey, Served, Serves, act_reply, is_stretch, move_refusal, moved, resumed, told}
use Rattle.serving.specs.declared.requests.Listing.{Listing}
use Rattle.serving.specs.declared.requests.Listing.TheVariants.{Headers, Words, TraceLine}
use Rattle.serving.specs.declared.running.Next.{Next}
use Rattle.serving.specs.declared.running.Next.TheVariants as next

abbrev pub served_at : Option ℕ → Served → Served
served_at p r = record r { state = state_at p r.state }

abbrev progress_at : Option ℕ → Progress → Progress
progress_at p m = record m { state = state_at p m.state }

acted_at : (p : Option ℕ) (s : State) (t : Turn) → acted (state_at p s) t ≡ (state_at p (acted s t).0, (acted s t).1)
acted_at p s Tick = ticked_at p s.parts
acted_at p s (AnswerTurn reply) = answer_at p s reply
acted_at p s (EnterTurn word) = refl

-- the device is given the same call
call_at : (p : Option ℕ) (r : Option Request) (s : Whole) (reply : Reply) → call_by r (at_place p s) reply ≡ call_by r s reply
call_at p None s reply = refl
call_at p (Some Key) s reply = refl
call_at p (Some (Line n)) s reply = refl
call_at p (Some (ReadBlock u)) s reply = refl
call_at p (Some (WriteBlock u)) s (KeyReply c) = refl
call_at p (Some (WriteBlock u)) s (LineReply bytes returned) = refl
call_at p (Some (WriteBlock u)) s InputEnd = refl
call_at p (Some (WriteBlock u)) s InputFault = refl
call_at p (Some (WriteBlock u)) s (ReadOk page) = refl
call_at p (Some (WriteBlock u)) s ReadFault = refl
call_at p (Some (WriteBlock u)) s WriteOk = refl
call_at p (Some (WriteBlock u)) s WriteFault = refl

-- where a move leads that comes to this
abbrev gone : Progress → (done : ℕ) → List DeviceCall → State × Act → Progress
gone m done calls x =
    let bytes = shown_bytes x.0.parts.memory x.1.shown in
    record { state = x.0; event = x.1.event; done = done; shown = m.shown + length bytes; calls = m.calls ++ calls; replies = m.replies ++ shown_reply bytes }

onward_at : (p : Option ℕ) (m : Progress) (t : Turn) → onward (progress_at p m) t ≡ progress_at p (onward m t)
onward_at p m Tick = ap (gone m (m.done + 1) []) (acted_at p m.state Tick)
onward_at p m (AnswerTurn reply) =
    ap (gone m (m.done + 0) (device_call (state_at p m.state) (AnswerTurn reply))) (acted_at p m.state (AnswerTurn reply))
    ∙ ap (λ calls. gone m (m.done + 0) calls (state_at p (acted m.state (AnswerTurn reply)).0, (acted m.state (AnswerTurn reply)).1)) (call_at p (asked_by m.state.wait) m.state.parts reply)
onward_at p m (EnterTurn word) = refl

next_same : (count limit : ℕ) (p : Option ℕ) (m : Progress) → next_at count limit (progress_at p m) ≡ next_at count limit m
unfolding next_of
next_same count limit p m = refl

comes_at : (p : Option ℕ) (n : Next) (s : State) (t : Turn) → Comes n s t → Comes n (state_at p s) t
comes_at p next.Ticks s Tick h = h
comes_at p next.Ticks s (AnswerTurn reply) h = h
comes_at p next.Ticks s (EnterTurn word) h = h
comes_at p (next.Answers r) s Tick h = h
comes_at p (next.Answers r) s (AnswerTurn reply) h = h
comes_at p (next.Answers r) s (EnterTurn word) h = h
comes_at p next.Ends s t h = absurd h

lead_at : (count limit : ℕ) (p : Option ℕ) (a : Progress) (ts : List Turn) (b : Progress) → Lead count limit a ts b → Lead count limit (progress_at p a) ts (progress_at p b)
unfolding Lead
lead_at count limit p a [] b h = ap (progress_at p) h
lead_at count limit p a (t ∷ ts) b h = (
  progress_at p h.0,
  lead_at count limit p a ts h.0 h.1,
  subst (λ n. Comes n (state_at p h.0.state) t) (sym (next_same count limit p h.0)) (comes_at p (next_at count limit h.0) h.0.state t h.2),
  ap (progress_at p) h.3 ∙ sym (onward_at p h.0 t),
)

-- a move that is taken, or why not
choice : (p : Option ℕ) (b : Bool) (s : State) (t : Turn) → served_at p (if b then told (acted s t).0 (act_reply (acted s t).0 (acted s t).1) else told s (move_refusal s)) ≡ (if b then told (acted (state_at p s) t).0 (act_reply (acted (state_at p s) t).0 (acted (state_at p s) t).1) else told (state_at p s) (move_refusal (state_at p s)))
unfolding move_refusal
choice p true s t = ap (λ (x : State × Act). told x.0 (act_reply x.0 x.1)) (sym (acted_at p s t))
choice p false s t = refl

moved_at : (p : Option ℕ) (s : State) (t : Turn) → served_at p (moved s t) ≡ moved (state_at p s) t
moved_at p s Tick = choice p (takes s Tick) s Tick
moved_at p s (AnswerTurn reply) = choice p (takes s (AnswerTurn reply)) s (AnswerTurn reply)
moved_at p s (EnterTurn word) = choice p (takes s (EnterTurn word)) s (EnterTurn word)

bytes_at : (p : Option ℕ) (b : Bool) (s : State) (at : ℕ) (bytes : List ℕ) → served_at p (if b then resumed (with_bytes s at bytes) else told s (refusal 3)) ≡ (if b then resumed (with_bytes (state_at p s) at bytes) else told (state_at p s) (refusal 3))
bytes_at p true s at bytes = refl
bytes_at p false s at bytes = refl

listing_at : (p : Option ℕ) (l : Listing) (s : Whole) → listing_reply l s ≡ listing_reply l (at_place p s)
unfolding listing_reply line
listing_at p Headers s = refl
listing_at p Words s = refl
listing_at p TraceLine s = refl

image_at : (p : Option ℕ) (entry : ℕ) (s : Whole) → image_reply s entry ≡ image_reply (at_place p s) entry
unfolding image_reply can_save
image_at p entry s = refl

state_at_reply : (p : Option ℕ) (s : Whole) → state_reply s ≡ state_reply (at_place p s)
unfolding state_reply state_cells
state_at_reply p s = refl

registers_at : (p : Option ℕ) (s : State) → registers_reply s ≡ registers_reply (state_at p s)
unfolding registers_reply register_cells
registers_at p s = refl

put_at : (p : Option ℕ) (s : State) (body : List ℕ) (t : State) → IsPutBack s body t → IsPutBack (state_at p s) body (state_at p t)
unfolding register_cells
put_at p s body t h = record {
  machine = record { values = h.machine.values; returns = h.machine.returns; buffers = h.machine.buffers };
  shares = record { same = ap (state_at p) h.shares.same; count = h.shares.count };
  registers = h.registers;
}

pub serves_at : (p : Option ℕ) (count : ℕ) (s : State) (w : Wish) (whole : Bool) (r : Served) → Serves count s w whole r → Serves count (state_at p s) w whole (served_at p r)
serves_at p count s (Run limit) whole r h = (
  progress_at p h.0,
  record { turns = h.1.turns; lead = lead_at count limit p _ h.1.turns h.0 h.1.lead; ends = λ all. next_same count limit p h.0 ∙ h.1.ends all },
  ap (served_at p) h.2,
)
serves_at p count s (Answer reply) whole r h = ap (served_at p) h ∙ moved_at p s (AnswerTurn reply)
serves_at p count s (Enter word) whole r h = ap (served_at p) h ∙ moved_at p s (EnterTurn word)
serves_at p count s (SetCell address x) whole r h = ap (served_at p) h
serves_at p count s (SetBytes at bytes) whole r h = ap (served_at p) h ∙ bytes_at p (is_stretch (length bytes)) s at bytes
serves_at p count s Look whole r h = ap (served_at p) h ∙ ap (told (state_at p s)) (state_at_reply p s.parts)
serves_at p count s Registers whole r h = ap (served_at p) h ∙ ap (told (state_at p s)) (registers_at p s)
serves_at p count s (PutBack body) whole r (inl h) = inl (state_at p h.0, put_at p s body h.0 h.1, ap (served_at p) h.2)
serves_at p count s (PutBack body) whole r (inr h) =
    inr ((λ t put. h.0 (state_at s.parts.place t) (put_at s.parts.place (state_at p s) body t put)), ap (served_at p) h.1)
serves_at p count s (Memory at n) whole r h = ap (served_at p) h
serves_at p count s (Find name) whole r h = ap (served_at p) h
serves_at p count s (View name) whole r h = ap (served_at p) h
serves_at p count s (See name) whole r h = (h.0, h.1, h.2, h.3, ap (served_at p) h.4)
serves_at p count s (Listed l) whole r h = ap (served_at p) h ∙ ap (told (state_at p s)) (listing_at p l s.parts)
serves_at p count s (Extent name) whole r h = ap (served_at p) h
serves_at p count s (Image entry) whole r h = ap (served_at p) h ∙ ap (told (state_at p s)) (image_at p entry s.parts)
serves_at p count s Save whole r h = (h.0, h.1, record { writes = h.2.writes; lost_is = h.2.lost_is }, ap (served_at p) h.3)
serves_at p count s Quit whole r h = (h.0, h.1, record { writes = h.2.writes; lost_is = h.2.lost_is }, ap (served_at p) h.3)
serves_at p count s Version whole r h = ap (served_at p) h
serves_at p count s Unknown whole r h = ap (served_at p) h

pub may_at : (p : Option ℕ) (count : ℕ) (w : Wish) (whole : Bool) (s t : State) (c c' : List DeviceCall) (o o' : Option (List ℕ)) → MayObey count w whole s t c c' o o' → MayObey count w whole (state_at p s) (state_at p t) c c' o o'
may_at p count w whole s t c c' o o' (inl h) = inl (record {
  one = served_at p h.one;
  serves = serves_at p count s w whole h.one h.serves;
  served_is = record { state_is = ap (state_at p) h.served_is.state_is; calls_are = h.served_is.calls_are; sent_is = h.served_is.sent_is };
})
may_at p count w whole s t c c' o o' (inr h) = inr (record {
  needs = h.needs;
  refused = record { state_is = ap (state_at p) h.refused.state_is; calls_are = h.refused.calls_are; sent_is = h.refused.sent_is };
})
