-- What a row asks of its device, what it leaves of the buffers, and what it keeps where it stops: by its shape.
use Rattle.std.proofs.Common.{◌≡◌, ℕ, ◌==◌, ◌||◌, ◌<◌, ◌≤◌, List, [], ◌∷◌, ◌++◌, length, Option, Some, None, Bool, true, false, refl, sym, subst, if◌then◌else◌, arith}
use Rattle.block_buffers.specs.declared.entry.Entry.{Entry}
use Rattle.block_buffers.specs.Entries.{holds, slot_of, victim, has_updated, first_updated, moved_front, after_references, assigned, front_marked, unassigned, AreBuffers, HasNoBlockTwice}
use Rattle.block_buffers.proofs.Kept.{are_moved, are_assigned, are_marked, are_unassigned, blocks_moved}
use Rattle.block_buffers.proofs.Blocks.{blocks_assigned, blocks_marked, blocks_unassigned}
use Rattle.input_source.specs.declared.words.Stream.{Stream}
use Rattle.input_source.specs.Streams.{stream_of}
use Rattle.memory.specs.Bytes.{cell}
use Rattle.memory.specs.declared.system.TheConstants.{BLK}
use Rattle.machine_parts.specs.Whole.{Whole}
use Rattle.machine_parts.specs.Row.{After, takes1, takes2, takes3, fault, room}
use Rattle.plain_rows.specs.Plain.{IsPlain}
use Rattle.machine_parts.specs.declared.parts.Outcome.{Outcome}
use Rattle.machine_parts.specs.declared.parts.Outcome.TheVariants as outcome
use Rattle.machine_parts.specs.declared.parts.Request.TheVariants as request
use Rattle.machine_parts.specs.declared.parts.Span.{Span}
use Rattle.machine_parts.proofs.Shapes.{by_if, by_room, by_takes1, by_takes2, by_takes3}
use Rattle.primitives.specs.Blocks.{has_block, without_block, write_of, referenced, fetches}
use Rattle.primitives.specs.Devices.{saves_victim, saves}
use Rattle.primitives.specs.Names.{searches, forgets}
use Rattle.std.specs.Prelude.{Result, Ok, Err}
use Rattle.dictionary.specs.declared.fault.ForgetFault.{ForgetFault}
use Rattle.dictionary.specs.declared.fault.ForgetFault.TheVariants.{NameLength, NotFound, ChainTooLong}
use Rattle.dictionary.specs.Search.{Sought, Found, Nowhere, TooLong}
use Rattle.primitives.specs.Needs.{stream_needs}
use Rattle.primitives.specs.Stops.{Keeps, StopsKeeping}
use Rattle.primitives.specs.Streams.{has_stream, stream_buffers, with_stream, reads}

-- what every list of buffers keeps
pub record AreOrderly (b : List Entry) : Type 0 where
  pub buffers : AreBuffers b
  pub once : HasNoBlockTwice b

-- a block is asked to be read or to be written
abbrev pub asks_device : Outcome → Bool
asks_device (outcome.Ask (request.Read u)) = true
asks_device (outcome.Ask (request.Write u)) = true
asks_device _ = false

-- where a row stops that needs these blocks, those before being referenced: at the first that no buffer has
unfoldable pub missing : List ℕ → Whole → Option After
missing [] s = None
missing (u ∷ us) s = if has_block s u then missing us (referenced s u) else Some (s, without_block s u)

-- a key is asked if its byte has room, and a line if its address and count exist
abbrev pub AsksFitly : After → Type 0
AsksFitly (t, outcome.Ask request.Key) = length t.values < 256
AsksFitly (t, outcome.Ask (request.Line n)) = 2 ≤ length t.values
AsksFitly (t, _) = Unit {0}

-- a row that asks its device at most this
pub record Behaves (asked : Option After) (s : Whole) (x : After) : Type 0 where
  pub stops : StopsKeeping s x
  pub asks : asks_device x.1 ≡ true → asked ≡ Some x
  pub keeps : AreOrderly s.buffers → AreOrderly x.0.buffers
  pub fitly : AsksFitly x

pub orderly_moved : (slot : ℕ) (b : List Entry) → AreOrderly b → AreOrderly (moved_front slot b)
orderly_moved slot b h = record { buffers = are_moved slot b h.buffers; once = blocks_moved slot b h.once }

pub orderly_assigned : (u : ℕ) (b : List Entry) → holds b u ≡ false → AreOrderly b → AreOrderly (assigned u b)
orderly_assigned u b q h = record { buffers = are_assigned u b h.buffers; once = blocks_assigned u b q h.once }

pub orderly_marked : (b : List Entry) → AreOrderly b → AreOrderly (front_marked b)
orderly_marked b h = record { buffers = are_marked b h.buffers; once = blocks_marked b h.once }

pub orderly_unassigned : (b : List Entry) → AreOrderly b → AreOrderly (unassigned b)
orderly_unassigned b h = record { buffers = are_unassigned b h.buffers; once = blocks_unassigned b }

keeps_all : (s : Whole) → Keeps s s
unfolding after_references
keeps_all s = record { memory = refl; values = refl; returns = refl; ip = refl; pending = refl; buffers = ([], refl); block_count = refl; place = refl }

stops_same : (s : Whole) (o : Outcome) → StopsKeeping s (s, o)
stops_same s outcome.Done = tt
stops_same s (outcome.Show span) = tt
stops_same s (outcome.Byte c) = tt
stops_same s (outcome.Ask r) = keeps_all s
stops_same s (outcome.Fault f) = keeps_all s
stops_same s (outcome.Abort span) = keeps_all s
stops_same s outcome.Halt = tt

behaves_same : (m : Option After) (s : Whole) (o : Outcome) → asks_device o ≡ false → AsksFitly (s, o) → Behaves m s (s, o)
behaves_same m s o q f = record { stops = stops_same s o; asks = λ r. cc; keeps = λ k. k; fitly = f }

pub behaves_fault : (m : Option After) (s : Whole) (f : ℕ) → Behaves m s (fault s f)
behaves_fault m s f = behaves_same m s (outcome.Fault f) refl tt

pub behaves_key : (m : Option After) (s : Whole) → length s.values < 256 → Behaves m s (s, outcome.Ask request.Key)
behaves_key m s room = behaves_same m s (outcome.Ask request.Key) refl room

pub behaves_line : (m : Option After) (s : Whole) (n : ℕ) → 2 ≤ length s.values → Behaves m s (s, outcome.Ask (request.Line n))
behaves_line m s n two = behaves_same m s (outcome.Ask (request.Line n)) refl two

pub behaves_done : (m : Option After) (s t : Whole) → (AreOrderly s.buffers → AreOrderly t.buffers) → Behaves m s (t, outcome.Done)
behaves_done m s t k = record { stops = tt; asks = λ q. cc; keeps = k; fitly = tt }

pub behaves_show : (m : Option After) (s t : Whole) (span : Span) → (AreOrderly s.buffers → AreOrderly t.buffers) → Behaves m s (t, outcome.Show span)
behaves_show m s t span k = record { stops = tt; asks = λ q. cc; keeps = k; fitly = tt }

pub behaves_byte : (m : Option After) (s t : Whole) (c : ℕ) → (AreOrderly s.buffers → AreOrderly t.buffers) → Behaves m s (t, outcome.Byte c)
behaves_byte m s t c k = record { stops = tt; asks = λ q. cc; keeps = k; fitly = tt }

pub behaves_if : (m : Option After) (s : Whole) (b : Bool) (x y : After) → Behaves m s x → Behaves m s y → Behaves m s (if b then x else y)
behaves_if m s b x y h k = by_if (Behaves m s) b x y h k

pub behaves_room : (m : Option After) (s t : Whole) (d : List ℕ) (x : After) → Behaves m s (fault t 2) → Behaves m s x → Behaves m s (room t d x)
behaves_room m s t d x none h = by_room (Behaves m s) t d x none h

pub behaves_takes1 : (m : Option After) (s : Whole) (f : ℕ → List ℕ → After) → ((c0 : ℕ) (d : List ℕ) → Behaves m s (f c0 d)) → Behaves m s (takes1 s f)
behaves_takes1 m s f h = by_takes1 (Behaves m s) s f (behaves_fault m s 1) h

pub behaves_takes2 : (m : Option After) (s : Whole) (f : ℕ → ℕ → List ℕ → After) → ((c0 c1 : ℕ) (d : List ℕ) → Behaves m s (f c0 c1 d)) → Behaves m s (takes2 s f)
behaves_takes2 m s f h = by_takes2 (Behaves m s) s f (behaves_fault m s 1) h

pub behaves_takes3 : (m : Option After) (s : Whole) (f : ℕ → ℕ → ℕ → List ℕ → After) → ((c0 c1 c2 : ℕ) (d : List ℕ) → Behaves m s (f c0 c1 c2 d)) → Behaves m s (takes3 s f)
behaves_takes3 m s f h = by_takes3 (Behaves m s) s f (behaves_fault m s 1) h

pub behaves_searches : (m : Option After) (s : Whole) (x : Sought) (nowhere : After) (found : ℕ → After) → Behaves m s nowhere → ((l : ℕ) → Behaves m s (found l)) → Behaves m s (searches s x nowhere found)
unfolding searches
behaves_searches m s (Found l) nowhere found h k = k l
behaves_searches m s Nowhere nowhere found h k = h
behaves_searches m s TooLong nowhere found h k = behaves_fault m s 11

pub behaves_forgets : (m : Option After) (s : Whole) (x : Result ℕ ForgetFault) (after : ℕ → After) → ((t : ℕ) → Behaves m s (after t)) → Behaves m s (forgets s x after)
unfolding forgets
behaves_forgets m s (Ok t) after h = h t
behaves_forgets m s (Err NameLength) after h = behaves_fault m s 15
behaves_forgets m s (Err NotFound) after h = behaves_fault m s 13
behaves_forgets m s (Err ChainTooLong) after h = behaves_fault m s 11

-- after a reference, which keeps all but the order of the buffers
keeps_behind : (s t : Whole) (slot : ℕ) → Keeps (record s { buffers = moved_front slot s.buffers }) t → Keeps s t
unfolding after_references
keeps_behind s t slot h = record {
  memory = h.memory;
  values = h.values;
  returns = h.returns;
  ip = h.ip;
  pending = h.pending;
  buffers = (slot ∷ h.buffers.0, h.buffers.1);
  block_count = h.block_count;
  place = h.place;
}

stops_behind : (s : Whole) (slot : ℕ) (x : After) → StopsKeeping (record s { buffers = moved_front slot s.buffers }) x → StopsKeeping s x
stops_behind s slot (t, outcome.Done) h = tt
stops_behind s slot (t, outcome.Show span) h = tt
stops_behind s slot (t, outcome.Byte c) h = tt
stops_behind s slot (t, outcome.Ask r) h = keeps_behind s t slot h
stops_behind s slot (t, outcome.Fault f) h = keeps_behind s t slot h
stops_behind s slot (t, outcome.Abort span) h = keeps_behind s t slot h
stops_behind s slot (t, outcome.Halt) h = tt

behaves_referenced : (m : Option After) (s : Whole) (u : ℕ) (x : After) → Behaves m (referenced s u) x → Behaves m s x
behaves_referenced m s u x h = grind (arith, stops_behind, orderly_moved)

-- a row that stops here
stopped : (s : Whole) (o : Outcome) → AsksFitly (s, o) → Behaves (Some (s, o)) s (s, o)
stopped s o f = record { stops = stops_same s o; asks = λ q. refl; keeps = λ k. k; fitly = f }

without_fitly : (s : Whole) (u : ℕ) → AsksFitly (s, without_block s u)
unfolding without_block
without_fitly s u = grind arith

pub behaves_fetches : (us : List ℕ) (s : Whole) (u : ℕ) (f : Whole → ℕ → After) → ((slot : ℕ) → Behaves (missing us (referenced s u)) (referenced s u) (f (referenced s u) slot)) → Behaves (missing (u ∷ us) s) s (fetches s u f)
unfolding missing
behaves_fetches us s u f h = by_test (has_block s u) where
  by_test : (b : Bool) → Behaves (if b then missing us (referenced s u) else Some (s, without_block s u)) s (if b then f (referenced s u) (slot_of s.buffers u) else (s, without_block s u))
  by_test true = behaves_referenced (missing us (referenced s u)) s u (f (referenced s u) (slot_of s.buffers u)) (h (slot_of s.buffers u))
  by_test false = stopped s (without_block s u) (without_fitly s u)

pub behaves_reads : (us : List ℕ) (s : Whole) (f : Whole → Stream → After) → ((stream : Stream) → Behaves (missing us (with_stream s)) (with_stream s) (f (with_stream s) stream)) → Behaves (missing (stream_needs s ++ us) s) s (reads s f)
unfolding has_stream stream_buffers stream_needs
behaves_reads us s f h = by_zero (cell s.memory BLK == 0) h where
  with_stream_of : Bool → Whole
  with_stream_of z = record s { buffers = if z then s.buffers else moved_front (slot_of s.buffers (cell s.memory BLK)) s.buffers }

  by_zero : (z : Bool) → ((stream : Stream) → Behaves (missing us (with_stream_of z)) (with_stream_of z) (f (with_stream_of z) stream)) → Behaves (missing ((if z then [] else cell s.memory BLK ∷ []) ++ us) s) s (if z || has_block s (cell s.memory BLK) then f (with_stream_of z) (stream_of s.memory s.buffers) else (s, without_block s (cell s.memory BLK)))
  by_zero true k = k (stream_of s.memory s.buffers)
  by_zero false k = behaves_fetches us s (cell s.memory BLK) (λ t slot. f t (stream_of s.memory s.buffers)) (λ slot. k (stream_of s.memory s.buffers))

-- what BUFFER asks at most: that the victim be written
unfoldable pub given : Whole → Option After
given s = if (victim s.buffers).updated then Some (s, write_of (victim s.buffers)) else None

pub behaves_saves_victim : (s : Whole) (x : After) → Behaves None s x → Behaves (given s) s (saves_victim s x)
unfolding saves_victim given
behaves_saves_victim s x h = grind (arith, stopped)

-- what SAVE-BUFFERS and FLUSH ask at most: that the first updated buffer be written
unfoldable pub saved : Whole → Option After
saved s = if has_updated s.buffers then Some (s, write_of (first_updated s.buffers)) else None

pub behaves_saves : (s : Whole) (x : After) → Behaves None s x → Behaves (saved s) s (saves s x)
unfolding saves saved
behaves_saves s x h = grind (arith, stopped)

-- a plain row
pub behaves_plain : (m : Option After) (s : Whole) (x : After) → IsPlain s x → Behaves m s x
behaves_plain m s (t, outcome.Done) h = behaves_done m s t (subst AreOrderly (sym h))
behaves_plain m s (t, outcome.Show span) h = behaves_show m s t span (subst AreOrderly (sym h))
behaves_plain m s (t, outcome.Byte c) h = behaves_byte m s t c (subst AreOrderly (sym h))
behaves_plain m s (t, outcome.Ask r) h = absurd h
behaves_plain m s (t, outcome.Fault f) h = subst (λ (w : Whole). Behaves m s (w, outcome.Fault f)) (sym h) (behaves_same m s (outcome.Fault f) refl tt)
behaves_plain m s (t, outcome.Abort span) h = subst (λ (w : Whole). Behaves m s (w, outcome.Abort span)) (sym h) (behaves_same m s (outcome.Abort span) refl tt)
behaves_plain m s (t, outcome.Halt) h = record { stops = tt; asks = λ q. cc; keeps = subst AreOrderly (sym h); fitly = tt }

pub ruleset behaves = (behaves_fault, behaves_done, behaves_show, behaves_byte, behaves_if, behaves_room, behaves_takes1, behaves_takes2, behaves_takes3, behaves_searches, behaves_forgets, behaves_fetches, behaves_reads, orderly_marked, orderly_unassigned)
