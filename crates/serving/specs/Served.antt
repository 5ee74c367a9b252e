-- What a request leaves, what the device is given for it, and what it replies; and a list of requests as a fold.
use Rattle.std.specs.Prelude.{◌≡◌, ◌⊎◌, ℕ, List, [], ◌∷◌, ◌++◌, Option, Bool, true, false, is_none, ◌&&◌, length, nat_le, Result, IfErr, ◌≢◌, if◌then◌else◌}
use Rattle.std.specs.Io.KnownBytes.{Appends}
use Rattle.block_buffers.specs.DeviceCalls.{DeviceCall}
use Rattle.machine.specs.declared.act.Act.{Act}
use Rattle.machine.specs.declared.act.Event.TheVariants.{Went}
use Rattle.machine.specs.State.{State}
use Rattle.machine.specs.Entering.{with_bytes, with_cell}
use Rattle.inner_interpreter.specs.Moves.{Turn, Answer as AnswerTurn, Enter as EnterTurn, shown_bytes}
use Rattle.inner_interpreter.specs.Histories.{acted, takes}
use Rattle.inner_interpreter.specs.Sent.{AppendsPart}
use Rattle.debug_tracer.specs.Debugged.{debugged}
use Rattle.dictionary.specs.Search.{by_address, sought}
use Rattle.see.specs.declared.refusal.SeeRefused.{SeeRefused}
use Rattle.see.specs.declared.refusal.SeeRefused.TheVariants as see
use Rattle.see.specs.Seeing.{IsSeenIn}
use Rattle.see.specs.View.{viewed}
use Rattle.serving.specs.Frames.{shown_reply}
use Rattle.serving.specs.Replies.{standing_after, end_reply, refusal, cell_reply, extent_reply, found_reply, view_reply, see_reply, image_reply, listing_reply, memory_reply, registers_reply, state_reply}
use Rattle.serving.specs.Registers.{IsPutBack}
use Rattle.serving.specs.Requests.{Wish, Run, Answer, Enter, SetCell, SetBytes, Look, Registers, PutBack, Memory, Find, View, See, Listed, Extent, Image, Save, Quit, Version}
use Rattle.serving.specs.Running.{Progress, HasRunTo}
use Rattle.serving.specs.Saving.{AreSaved}
use Rattle.serving.specs.declared.requests.TheConstants.{VERSION}

-- the state, the calls that the device was given, and the bytes of the replies
pub record Served : Type 0 where
  pub state : State
  pub calls : List DeviceCall
  pub replies : List ℕ

abbrev pub served_as : State → List DeviceCall → List ℕ → Served
served_as s calls replies = record { state = s; calls = calls; replies = replies }

-- a request that only looks
abbrev pub told : State → List ℕ → Served
told s replies = served_as s [] replies

-- why a move isn't taken: 2 if the machine is halted, otherwise 1
unfoldable pub move_refusal : State → List ℕ
move_refusal s = refusal (if is_none s.halt then 1 else 2)

-- the reply to a move that was taken: what it showed, and what the machine does after it
abbrev pub act_reply : State → Act → List ℕ
act_reply s act = shown_reply (shown_bytes s.parts.memory act.shown) ++ end_reply 0 (standing_after s act.event)

-- a move that the machine takes, or why not
abbrev pub moved : State → Turn → Served
moved s t = let m = acted s t in if takes s t then told m.0 (act_reply m.0 m.1) else told s (move_refusal s)

-- a run ends here
abbrev pub run_served : Progress → Served
run_served p = served_as p.state p.calls (p.replies ++ end_reply p.done (standing_after p.state p.event))

-- the machine goes on from this state
abbrev pub resumed : State → Served
resumed t = told t (end_reply 0 (standing_after t Went))

-- 1 to 2,046 bytes are written at once
abbrev pub is_stretch : (size : ℕ) → Bool
is_stretch size = nat_le 1 size && nat_le size 2046

-- a request that the machine and its memory decide
abbrev pub served : State → Wish → Served
served s (Answer reply) = moved s (AnswerTurn reply)
served s (Enter word) = moved s (EnterTurn word)
served s (SetCell address x) = resumed (with_cell s address x)
served s (SetBytes at bytes) = if is_stretch (length bytes) then resumed (with_bytes s at bytes) else told s (refusal 3)
served s Look = told s (state_reply s.parts)
served s Registers = told s (registers_reply s)
served s (Memory at n) = told s (memory_reply s.parts.memory at n)
served s (Find name) = told s (found_reply (by_address s.parts.memory (sought s.parts.memory name)))
served s (View name) = told s (view_reply (viewed s.parts.memory (sought s.parts.memory name)))
served s (Listed listing) = told s (listing_reply listing s.parts)
served s (Extent name) = told s (extent_reply (debugged s.parts.memory name))
served s (Image entry) = told s (image_reply s.parts entry)
served s Version = told s (cell_reply 86 VERSION)
served s _ = told s (refusal 3)

-- the updated buffers are written, and how many could not be is the reply
abbrev pub Saves : (count kind : ℕ) → State → Served → Type 0
Saves count kind s r =
    (calls : List DeviceCall) × (lost : ℕ) × AreSaved count s.parts s.parts.buffers calls lost × (r ≡ served_as s calls (cell_reply kind lost))

-- a machine has these bytes as its registers and is put back, or none has them
abbrev pub PutsBack : State → (body : List ℕ) → Served → Type 0
PutsBack s body r =
    ((t : State) × IsPutBack s body t × (r ≡ resumed t)) ⊎ (((t : State) → IsPutBack s body t → ⊥) × (r ≡ told s (refusal 12)))

-- what a request may leave over a device of so many blocks; of a run, if it is not whole, as far as it came
abbrev pub Serves : (count : ℕ) → State → Wish → (whole : Bool) → Served → Type 0
Serves count s (Run limit) whole r = (p : Progress) × HasRunTo count limit s whole p × (r ≡ run_served p)
Serves count s (See name) whole r =
    (text : List ℕ) × (seen : Result (Unit {0}) SeeRefused) × IsSeenIn s.parts.memory name text seen × IfErr seen (λ e. e ≢ see.OutOfMemory)
    × (r ≡ told s (see_reply text seen))
Serves count s (PutBack body) whole r = PutsBack s body r
Serves count s Save whole r = Saves count 98 s r
Serves count s Quit whole r = Saves count 113 s r
Serves count s w whole r = r ≡ served s w

-- these bytes were sent, or a front of them
abbrev pub Sends : (whole : Bool) → Option (List ℕ) → Option (List ℕ) → List ℕ → Type 0
Sends true old new bytes = Appends old new bytes
Sends false old new bytes = AppendsPart old new bytes

-- so a request was served: the state after it, the calls that the device was given, and what was sent
pub record IsServed (r : Served) (whole : Bool) (state : State) (calls calls' : List DeviceCall) (sent sent' : Option (List ℕ)) : Type 0 where
  pub state_is : state ≡ r.state
  pub calls_are : calls' ≡ calls ++ r.calls
  pub sent_is : Sends whole sent sent' r.replies

pub record HasObeyed (count : ℕ) (w : Wish) (whole : Bool) (old new : State) (calls calls' : List DeviceCall) (sent sent' : Option (List ℕ)) : Type 0 where
  pub one : Served
  pub serves : Serves count old w whole one
  pub served_is : IsServed one whole new calls calls' sent sent'

-- a request that gives the device no call
abbrev pub Looks : Served → (whole : Bool) → State → (sent sent' : Option (List ℕ)) → Type 0
Looks r whole state sent sent' = (calls : List DeviceCall) → IsServed r whole state calls calls sent sent'

-- the updated buffers were written, and the reply was sent
pub record HasSaved (count kind : ℕ) (whole : Bool) (s : State) (calls calls' : List DeviceCall) (sent sent' : Option (List ℕ)) : Type 0 where
  pub one : Served
  pub saves : Saves count kind s one
  pub served_is : IsServed one whole s calls calls' sent sent'

-- a request that needs room, for a list of headers or for SEE
abbrev pub needs_room : Wish → Bool
needs_room (See name) = true
needs_room (Listed listing) = true
needs_room (Extent name) = true
needs_room _ = false

-- it is refused, as there is no memory for that
pub record LacksRoom (w : Wish) (whole : Bool) (old new : State) (calls calls' : List DeviceCall) (sent sent' : Option (List ℕ)) : Type 0 where
  pub needs : needs_room w ≡ true
  pub refused : IsServed (told old (refusal 11)) whole new calls calls' sent sent'

-- a request was obeyed if no room was taken before
abbrev pub MayObey : (count : ℕ) → Wish → (whole : Bool) → (old new : State) → (calls calls' : List DeviceCall) → (sent sent' : Option (List ℕ)) → Type 0
MayObey count w whole old new calls calls' sent sent' =
    HasObeyed count w whole old new calls calls' sent sent' ⊎ LacksRoom w whole old new calls calls' sent sent'

-- one after the other
abbrev pub then_served : Served → Served → Served
then_served a b = served_as b.state (a.calls ++ b.calls) (a.replies ++ b.replies)

-- one request after another
unfoldable pub ServesAll : (count : ℕ) → State → List Wish → Served → Type 0
ServesAll count s [] r = r ≡ told s []
ServesAll count s (w ∷ ws) r =
    (a : Served) × (b : Served) × Serves count s w true a × ServesAll count a.state ws b × (r ≡ then_served a b)
