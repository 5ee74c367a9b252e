-- The buffers of a machine stay in order.
use Rattle.std.proofs.Common.{rules, arith, ◌≡◌, ℕ, ◌==◌, ◌∷◌, length, nat_lt, Option, Some, None, true, false, refl, ap, sym, subst, ◌∙◌}
use Rattle.block_buffers.specs.Entries.{holds}
use Rattle.block_buffers.proofs.Kept.{are_started, are_assigned, are_unmarked}
use Rattle.block_buffers.proofs.Blocks.{blocks_started, blocks_assigned, blocks_unmarked}
use Rattle.image_loader.specs.Files.{Contents, IsImage}
use Rattle.memory.specs.Bytes.{cell}
use Rattle.memory.specs.declared.system.TheConstants.{FAULT}
use Rattle.machine_parts.specs.Whole.{Whole}
use Rattle.machine_parts.specs.Row.{After}
use Rattle.machine_parts.specs.declared.parts.Outcome.{Outcome}
use Rattle.machine_parts.specs.declared.parts.Outcome.TheVariants.{Done, Show, Byte as ByteOut, Ask as AskOut, Fault as FaultOut, Abort, Halt as HaltOut}
use Rattle.machine_parts.specs.declared.parts.Request.{Request}
use Rattle.machine_parts.specs.declared.parts.Request.TheVariants as request
use Rattle.machine_parts.proofs.Shapes.{by_if, by_room, by_room_r}
use Rattle.primitives.specs.Table.{row}
use Rattle.primitives.proofs.Behaves.{AreOrderly, AsksFitly}
use Rattle.primitives.proofs.Rows.{behaves_row}
use Rattle.primitives.proofs.Requests.{absent_read, held_write}
use Rattle.machine.specs.declared.act.Cause.{Cause}
use Rattle.machine.specs.declared.act.Cause.TheVariants.{Bye, Fault as FaultCause, InputEnded, InputFault as InputFaulted}
use Rattle.machine.specs.declared.act.Shown.TheVariants.{Nothing}
use Rattle.machine.specs.declared.act.Shown.{Shown}
use Rattle.machine.specs.State.{State, loaded_state}
use Rattle.machine.specs.Tick.{taken, thread, executed, faulted, by_fault, concluded, ticked, shown_span}
use Rattle.machine.specs.Answer as answering
use Rattle.machine.specs.Answer.{Reply, block_of, answered, answer_of, asked_by, is_answer, fits_request, key_answered, line_answered, read_answered, write_answered}
use Rattle.inner_interpreter.specs.Moves.{Turn, Tick, Answer, Enter, Accepts, after_turn}
use Rattle.inner_interpreter.specs.Requests.{IsOrderly}
use Rattle.inner_interpreter.proofs.Shapes.{either, by_answer, is_taken}

-- a state that asks nothing
unasked : (s : Whole) (c : Option Cause) → AreOrderly s.buffers → IsOrderly (record { parts = s; wait = None; halt = c })
unasked s c h = record { buffers = h.buffers; once = h.once; absent = λ u w q. cc; held = λ u w q. cc; room = λ w q. cc; two = λ n w q. cc }

faulted_orderly : (s : Whole) (shown : Shown) (f : ℕ) → AreOrderly s.buffers → IsOrderly (by_fault s shown f).0
unfolding by_fault
faulted_orderly s shown f h = either IsOrderly (cell s.memory FAULT == 0) _ _ (unasked (faulted s f) (Some (FaultCause f)) h) (unasked (faulted s f) None h)

-- no block is asked to be read that a buffer has
abbrev ReadsAbsent : After → Type 0
ReadsAbsent x = (u : ℕ) → x.1 ≡ AskOut (request.Read u) → holds x.0.buffers u ≡ false

-- each block that is asked to be written is in a buffer
abbrev WritesHeld : After → Type 0
WritesHeld x = (u : ℕ) → x.1 ≡ AskOut (request.Write u) → holds x.0.buffers u ≡ true

same_request : (p q : Request × ℕ) → Some p ≡ Some q → p.0 ≡ q.0
same_request p q e = ap (λ (o : Option (Request × ℕ)). elim o [ Some x ↦ x.0 | None ↦ p.0 ]) e

concluded_orderly : (w : ℕ) (x : After) → AreOrderly x.0.buffers → ReadsAbsent x → WritesHeld x → AsksFitly x → IsOrderly (concluded w x).0
unfolding concluded
concluded_orderly w (s, Done) h a k f = unasked s None h
concluded_orderly w (s, Show span) h a k f = unasked s None h
concluded_orderly w (s, ByteOut c) h a k f = unasked s None h
concluded_orderly w (s, AskOut r) h a k f = grind (arith, same_request)
concluded_orderly w (s, FaultOut n) h a k f = faulted_orderly s Nothing n h
concluded_orderly w (s, Abort span) h a k f = faulted_orderly s (shown_span span) 17 h
concluded_orderly w (s, HaltOut) h a k f = unasked s (Some Bye) h

thread_orderly : (c w : ℕ) (s : Whole) → AreOrderly s.buffers → AreOrderly (thread c w s).0.buffers
thread_orderly c w s h = by_room P s _ _ h (by_room_r P s _ _ h h) where
  P : After → Type 0
  P x = AreOrderly x.0.buffers

executed_orderly : (w : ℕ) (s : Whole) → AreOrderly s.buffers → AreOrderly (executed w s).0.buffers
unfolding executed
executed_orderly w s h = search (rules, by_if, behaves_row, thread_orderly)

thread_absent : (c w : ℕ) (s : Whole) → ReadsAbsent (thread c w s)
thread_absent c w s = by_room ReadsAbsent s _ _ (λ u q. cc) (by_room_r ReadsAbsent s _ _ (λ u q. cc) (λ u q. cc))

row_absent : (c w : ℕ) (s : Whole) → ReadsAbsent (row c w s)
row_absent c w s u q = absent_read c w s (row c w s).0 u (ap (λ (o : Outcome). ((row c w s).0, o)) q)

executed_absent : (w : ℕ) (s : Whole) → ReadsAbsent (executed w s)
unfolding executed
executed_absent w s = search (rules, by_if, row_absent, thread_absent)

thread_held : (c w : ℕ) (s : Whole) → WritesHeld (thread c w s)
thread_held c w s = by_room WritesHeld s _ _ (λ u q. cc) (by_room_r WritesHeld s _ _ (λ u q. cc) (λ u q. cc))

row_held : (c w : ℕ) (s : Whole) → AreOrderly s.buffers → WritesHeld (row c w s)
row_held c w s h u q = held_write c w s (row c w s).0 u h (ap (λ (o : Outcome). ((row c w s).0, o)) q)

executed_held : (w : ℕ) (s : Whole) → AreOrderly s.buffers → WritesHeld (executed w s)
unfolding executed
executed_held w s h = search (rules, by_if, row_held, thread_held)

thread_fitly : (c w : ℕ) (s : Whole) → AsksFitly (thread c w s)
thread_fitly c w s = by_room AsksFitly s _ _ tt (by_room_r AsksFitly s _ _ tt tt)

executed_fitly : (w : ℕ) (s : Whole) → AsksFitly (executed w s)
unfolding executed
executed_fitly w s = search (rules, by_if, behaves_row, thread_fitly)

taken_orderly : (s : Whole) → AreOrderly s.buffers → AreOrderly (taken s).1.buffers
taken_orderly s h = subst AreOrderly (sym (is_taken s).buffers) h

ticked_orderly : (s : Whole) → AreOrderly s.buffers → IsOrderly (ticked s).0
unfolding ticked
ticked_orderly s h = search (rules, concluded_orderly, executed_orderly, taken_orderly, executed_absent, executed_held, executed_fitly)

answered_orderly : (s : Whole) (p : Request × ℕ) (reply : Reply) → AreOrderly s.buffers → ((u w : ℕ) → Some p ≡ Some (request.Read u, w) → holds s.buffers u ≡ false) → fits_request p.0 reply ≡ true → IsOrderly (answered s p reply).0
unfolding answered key_answered line_answered read_answered write_answered
answered_orderly s p (answering.Key c) h a f = either IsOrderly (nat_lt 256 (length (c ∷ s.values))) _ _ (faulted_orderly s Nothing 2 h) (unasked _ None h)
answered_orderly s p (answering.Line bytes returned) h a f = either IsOrderly (nat_lt (length s.values) 2) _ _ (faulted_orderly s Nothing 1 h) (unasked _ None h)
answered_orderly s p answering.InputEnd h a f = unasked s (Some InputEnded) h
answered_orderly s p answering.InputFault h a f = unasked s (Some InputFaulted) h
answered_orderly s (request.Key, w) (answering.ReadOk page) h a f = cc
answered_orderly s (request.Line n, w) (answering.ReadOk page) h a f = cc
answered_orderly s (request.Read u, w) (answering.ReadOk page) h a f =
    unasked _ None (record { buffers = are_assigned u s.buffers h.buffers; once = blocks_assigned u s.buffers (a u w refl) h.once })
answered_orderly s (request.Write u, w) (answering.ReadOk page) h a f = cc
answered_orderly s p answering.ReadFault h a f = faulted_orderly s Nothing 9 h
answered_orderly s p answering.WriteOk h a f =
    let u : ℕ = block_of p.0
    in unasked _ None (record { buffers = are_unmarked u s.buffers h.buffers; once = blocks_unmarked u s.buffers h.once })
answered_orderly s p answering.WriteFault h a f = faulted_orderly s Nothing 10 h

answer_orderly : (s : State) (reply : Reply) → is_answer (asked_by s.wait) reply ≡ true → IsOrderly s → IsOrderly (answer_of s reply).0
answer_orderly s reply f h =
    by_answer IsOrderly s reply
    (λ p q. answered_orderly s.parts p reply (record { buffers = h.buffers; once = h.once }) (λ u w k. h.absent u w (q ∙ k)) (ap (λ (o : Option (Request × ℕ)). is_answer (asked_by o) reply) (sym q) ∙ f))
    (λ q. h)

pub moved_orderly : (s : State) (t : Turn) → Accepts s t → IsOrderly s → IsOrderly (after_turn s t)
moved_orderly s Tick a h = ticked_orderly s.parts (record { buffers = h.buffers; once = h.once })
moved_orderly s (Answer reply) a h = answer_orderly s reply a.2 h
moved_orderly s (Enter word) a h = grind arith

pub start_orderly : (image : Contents) (block_count : ℕ) → IsImage image → IsOrderly (loaded_state image block_count)
start_orderly image block_count h = unasked _ None (record { buffers = are_started image.buffers h.buffers; once = blocks_started image.buffers })
