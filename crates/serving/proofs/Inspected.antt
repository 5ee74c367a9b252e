-- Requests that look, and those that write the updated buffers.
use Rattle.std.proofs.Common.{◌≡◌, ℕ, List, Option, Bool, inl, inr, refl, sym, subst, append-nil, Result}
use Rattle.std.specs.Io.KnownBytes.{Appends}
use Rattle.inner_interpreter.specs.Sent.{AppendsPart}
use Rattle.std.specs.Prelude.{IfErr, Ok, Err, ◌≢◌}
use Rattle.block_buffers.specs.DeviceCalls.{DeviceCall}
use Rattle.machine.specs.State.{State}
use Rattle.see.specs.Seeing.{IsSeenIn, IsShown, IsUnseen}
use Rattle.see.specs.declared.refusal.SeeRefused.{SeeRefused}
use Rattle.see.specs.declared.refusal.SeeRefused.TheVariants as r
use Rattle.serving.proofs.Storing.{HaveSaved}
use Rattle.serving.specs.Frames.{long_reply}
use Rattle.serving.specs.Registers.{IsPutBack}
use Rattle.serving.specs.Replies.{cell_reply, refusal, see_reply}
use Rattle.serving.specs.declared.requests.Command.{Command}
use Rattle.serving.specs.Requests.{wish_of, Wish, PutBack, See}
use Rattle.serving.specs.Served.{HasObeyed, HasSaved, IsServed, Looks, MayObey, Sends, Served, Serves, resumed, served_as, told}

-- what only looks was served
looked : (whole : Bool) (s : State) (c : List DeviceCall) (o o' : Option (List ℕ)) (bytes : List ℕ) → Sends whole o o' bytes → IsServed (told s bytes) whole s c c o o'
looked whole s c o o' bytes k = record { state_is = refl; calls_are = sym (append-nil c); sent_is = k }

obeyed : (whole : Bool) (count : ℕ) (w : Wish) (s : State) (c : List DeviceCall) (o o' : Option (List ℕ)) (bytes : List ℕ) → Serves count s w whole (told s bytes) → Sends whole o o' bytes → HasObeyed count w whole s s c c o o'
obeyed whole count w s c o o' bytes h k = record { one = told s bytes; serves = h; served_is = looked whole s c o o' bytes k }

pub see_obeyed : (whole : Bool) (count : ℕ) (s : State) (name text : List ℕ) (v : Result (Unit {0}) SeeRefused) (c : List DeviceCall) (o o' : Option (List ℕ)) → IsSeenIn s.parts.memory name text v → IfErr v (λ e. e ≢ r.OutOfMemory) → Sends whole o o' (see_reply text v) → HasObeyed count (See name) whole s s c c o o'
see_obeyed whole count s name text v c o o' h n k = obeyed whole count (See name) s c o o' (see_reply text v) (text, v, h, n, refl) k

-- so it was in memory that was asked for
pub shown_in_place : (whole : Bool) (count : ℕ) (s : State) (name text : List ℕ) (c : List DeviceCall) (o o' : Option (List ℕ)) → IsShown s.parts.memory name text → Sends whole o o' (see_reply text (Ok tt)) → MayObey count (See name) whole s s c c o o'
shown_in_place whole count s name text c o o' h k = inl (see_obeyed whole count s name text (Ok tt) c o o' h tt k)

pub unseen_in_place : (whole : Bool) (count : ℕ) (s : State) (name text : List ℕ) (e : SeeRefused) (c : List DeviceCall) (o o' : Option (List ℕ)) → IsUnseen s.parts.memory name e → e ≢ r.OutOfMemory → Sends whole o o' (see_reply text (Err e)) → MayObey count (See name) whole s s c c o o'
unseen_in_place whole count s name text e c o o' h n k = inl (see_obeyed whole count s name text (Err e) c o o' h n k)

pub lacks_in_place : (whole : Bool) (count : ℕ) (s : State) (name : List ℕ) (c : List DeviceCall) (o o' : Option (List ℕ)) → Sends whole o o' (refusal 11) → MayObey count (See name) whole s s c c o o'
lacks_in_place whole count s name c o o' k = inr (record { needs = refl; refused = looked whole s c o o' (refusal 11) k })

-- a machine was put back, or none was
pub put_obeyed : (whole : Bool) (count : ℕ) (s t : State) (body : List ℕ) (c : List DeviceCall) (o o' : Option (List ℕ)) → IsPutBack s body t → Sends whole o o' (resumed t).replies → HasObeyed count (PutBack body) whole s t c c o o'
put_obeyed whole count s t body c o o' h k = record { one = resumed t; serves = inl (t, h, refl); served_is = looked whole t c o o' (resumed t).replies k }

pub put_refused : (whole : Bool) (count : ℕ) (s t : State) (body : List ℕ) (c : List DeviceCall) (o o' : Option (List ℕ)) → t ≡ s → ((u : State) → IsPutBack s body u → ⊥) → Sends whole o o' (refusal 12) → HasObeyed count (PutBack body) whole s t c c o o'
put_refused whole count s t body c o o' e h k = rw e (obeyed whole count (PutBack body) s c o o' (refusal 12) (inr (h, refl)) k)

-- the updated buffers were written, and the reply was sent
pub saved_obeyed : (whole : Bool) (count kind lost : ℕ) (s : State) (c c' : List DeviceCall) (o o' : Option (List ℕ)) → HaveSaved count s.parts s.parts.buffers c c' lost → Sends whole o o' (cell_reply kind lost) → HasSaved count kind whole s c c' o o'
saved_obeyed whole count kind lost s c c' o o' h k = record {
  one = served_as s h.0 (cell_reply kind lost);
  saves = (h.0, lost, h.2, refl);
  served_is = record { state_is = refl; calls_are = h.1; sent_is = k };
}

-- a long reply of the same bytes
pub sent_as : (old new : Option (List ℕ)) (a b : List ℕ) → a ≡ b → Appends old new (long_reply 116 a) → Appends old new (long_reply 116 b)
sent_as old new a b e h = subst (λ l. Appends old new (long_reply 116 l)) e h

pub part_as : (old new : Option (List ℕ)) (a b : List ℕ) → a ≡ b → AppendsPart old new (long_reply 116 a) → AppendsPart old new (long_reply 116 b)
part_as old new a b e h = subst (λ l. AppendsPart old new (long_reply 116 l)) e h

-- a request that gives the device no call was obeyed
pub looks_obeyed : (whole : Bool) (count : ℕ) (d e : Command) (s t : State) (r : Served) (c : List DeviceCall) (o o' : Option (List ℕ)) → d ≡ e → Serves count s (wish_of e) whole r → Looks r whole t o o' → HasObeyed count (wish_of d) whole s t c c o o'
looks_obeyed whole count d e s t r c o o' same h k = rw same (record { one = r; serves = h; served_is = k c })
