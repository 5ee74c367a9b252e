-- What is so of a record's memory is so of the memory of the state that it keeps.
use Rattle.std.proofs.Common.{Option, Some, [], ap, ◌∙◌, ◌++◌, ◌≡◌, ℕ, List, false, Ok, Err, Vec, refl}
use Rattle.std.specs.declared.alloc.Global.{Global}
use Rattle.std.specs.Io.KnownBytes.{Appends}
use Rattle.memory.specs.Mirrored.{stored}
use Rattle.debug_tracer.specs.Debugged.{debugged}
use Rattle.debug_tracer.specs.Lines.{line}
use Rattle.dictionary.specs.Order.{headers, is_beyond_limit}
use Rattle.dictionary.specs.Search.{sought}
use Rattle.machine.specs.State.{State, state_at}
use Rattle.see.specs.Seeing.{IsSeen}
use Rattle.see.specs.View.{viewed}
use Rattle.see.specs.declared.refusal.SeeRefused.{SeeRefused}
use Rattle.see.specs.declared.refusal.SeeRefused.TheVariants as sr
use Rattle.forth83_c.specs.declared.record.Forth83.{Forth83}
use Rattle.machine.specs.declared.rest.Rest.{Rest}
use Rattle.machine.specs.Registers.{state_of}
use Rattle.forth83_c.specs.Kept.{IsRecord, IsKept}
use Rattle.forth83_c.specs.Called.{Tells}
use Rattle.forth83_c.specs.Looked.{HasExtent, HasListed, HasSeen, HasViewed, WhyNotSeen, by_refusal}
use Rattle.forth83_c.proofs.Same.{kept_state, kept_kept}

pub there : (P : List ℕ → Type 0) → (k : Forth83) → IsRecord k → P (stored k.memory) → (s : State) × IsKept k s × P s.parts.memory
unfolding kept_state
there P k h p = (kept_state k, kept_kept k h, p)

pub viewed_there : (k : Forth83) (name : List ℕ) (block : ℕ) → IsRecord k
    → viewed (stored k.memory) (sought (stored k.memory) name) ≡ Ok block → HasViewed k name block
unfolding kept_state
viewed_there k name block h e = record { state = kept_state k; is_kept = kept_kept k h; is = e }

pub listed_there : (k : Forth83) (list : List ℕ) → IsRecord k → is_beyond_limit (stored k.memory) ≡ false
    → list ≡ headers (stored k.memory) → HasListed k list
unfolding kept_state
listed_there k list h b e = record { state = kept_state k; is_kept = kept_kept k h; within = b; is = e }

pub extent_there : (k : Forth83) (name : List ℕ) (from end : ℕ) → IsRecord k
    → debugged (stored k.memory) name ≡ Ok (record { from = from; end = end }) → HasExtent k name from end
unfolding kept_state
extent_there k name from end h e = record { state = kept_state k; is_kept = kept_kept k h; is = e }

pub seen_there : (k : Forth83) (name text : List ℕ) (v : Vec ℕ Global) → IsRecord k → IsSeen (stored k.memory) name (Ok v)
    → text ≡ v.items → HasSeen k name text
unfolding kept_state
seen_there k name text v h s e = record { state = kept_state k; is_kept = kept_kept k h; seen = v; is_seen = s; is = e }

-- a refusal of SEE is no other status
pub refused_there : (k : Forth83) (name : List ℕ) (room : ℕ) (e : SeeRefused) → IsRecord k → IsSeen (stored k.memory) name (Err e)
    → Tells (WhyNotSeen name room) k (by_refusal e)
unfolding kept_state
refused_there k name room sr.NotFound h p = (kept_state k, kept_kept k h, (sr.NotFound, refl, p))
refused_there k name room sr.ChainTooLong h p = (kept_state k, kept_kept k h, (sr.ChainTooLong, refl, p))
refused_there k name room sr.NotColon h p = (kept_state k, kept_kept k h, (sr.NotColon, refl, p))
refused_there k name room sr.NotStructured h p = (kept_state k, kept_kept k h, (sr.NotStructured, refl, p))
refused_there k name room (sr.Nameless w) h p = (kept_state k, kept_kept k h, (sr.Nameless w, refl, p))
refused_there k name room sr.Shadowed h p = (kept_state k, kept_kept k h, (sr.Shadowed, refl, p))
refused_there k name room sr.BadText h p = (kept_state k, kept_kept k h, (sr.BadText, refl, p))
refused_there k name room sr.OutOfMemory h p = (kept_state k, kept_kept k h, (sr.OutOfMemory, refl, p))

-- DEBUG's line is the same wherever memory is
line_at : (m listed : List ℕ) (p : Option ℕ) (s : State) → line m listed (state_at p s).parts ≡ line m listed s.parts
unfolding line
line_at m listed p s = refl

appended : (old new sent : List ℕ) → old ≡ [] → Appends (Some old) (Some new) sent → new ≡ sent
appended old new sent e a = a ∙ ap (λ xs. xs ++ sent) e

-- the line of a machine over a copy of memory
pub line_there : (old new m copy listed : List ℕ) (p : Option ℕ) (s : State) (r : Rest) → old ≡ [] → s ≡ state_at p (state_of copy r)
    → copy ≡ m → Appends (Some old) (Some new) (line m listed s.parts) → new ≡ line m listed (state_of m r).parts
line_there old new m copy listed p s r e f q a =
    appended old new (line m listed s.parts) e a
    ∙ ap (λ (t : State). line m listed t.parts) f
    ∙ line_at m listed p (state_of copy r)
    ∙ ap (λ n. line m listed (state_of n r).parts) q
