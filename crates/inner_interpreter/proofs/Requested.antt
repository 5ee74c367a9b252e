-- How many requests of the device a token makes, each answered Ok.
use Rattle.std.proofs.Common.{◌≡◌, ℕ, ◌+◌, ◌<◌, ◌≤◌, ◌==◌, List, [], ◌∷◌, length, Option, Some, None, true, false, refl, arith, ap, sym, subst, ◌∙◌}
use Rattle.std.specs.Prelude.{All}
use Rattle.std.proofs.lemmas.List.Elements.{All-head, All-tail}
use Rattle.block_buffers.specs.declared.entry.Entry.{Entry}
use Rattle.block_buffers.specs.Entries.{limit, address_of, victim, IsReordered, AreBuffers, HasNoBlockTwice}
use Rattle.block_buffers.proofs.Blocks.{length-references}
use Rattle.block_buffers.proofs.Found.{victim_small}
use Rattle.block_buffers.proofs.Kept.{length-assigned, length-unmarked}
use Rattle.memory.specs.Bytes.{cell, with_page, limit_of}
use Rattle.memory.specs.declared.system.TheConstants.{BLK, SCR, FAULT}
use Rattle.memory.proofs.Limits.{limit_is}
use Rattle.memory.proofs.Pages.{cell_below, length-with_page}
use Rattle.machine_parts.specs.Whole.{Whole}
use Rattle.machine_parts.specs.Row.{After}
use Rattle.machine_parts.specs.declared.parts.Outcome.{Outcome}
use Rattle.machine_parts.specs.declared.parts.Outcome.TheVariants.{Ask as AskOut}
use Rattle.machine_parts.specs.declared.parts.Request.{Request}
use Rattle.machine_parts.specs.declared.parts.Request.TheVariants as request
use Rattle.machine_parts.proofs.Shapes.{by_room, by_room_r}
use Rattle.primitives.specs.Needs.{most_requests}
use Rattle.primitives.specs.Stops.{Keeps, StopsKeeping}
use Rattle.primitives.specs.Table.{row}
use Rattle.primitives.proofs.Behaves.{AreOrderly, asks_device as device_asked}
use Rattle.primitives.proofs.Rows.{behaves_row}
use Rattle.primitives.proofs.Requests.{answered as buffers_answered, left, left_most, left_same, fewer_requests}
use Rattle.machine.specs.declared.act.Shown.{Shown}
use Rattle.machine.specs.State.{State}
use Rattle.machine.specs.Tick.{taken, thread, executed, running, by_fault, concluded, ticked, Runs}
use Rattle.machine.specs.Answer.{is_answer, IsSpelled, answered, answer_of, asked_by, read_answered, write_answered}
use Rattle.inner_interpreter.specs.Moves.{Tick, Answer, after_turn}
use Rattle.inner_interpreter.specs.Requests.{IsOrderly, asks_device, ok_to, AreAsked, IsPage, token_of, IsBelowBuffers}
use Rattle.inner_interpreter.proofs.Orderly.{moved_orderly}
use Rattle.inner_interpreter.proofs.Shapes.{IsTaken, is_taken, either}

-- memory after an Ok
abbrev memory_behind : Outcome → Whole → List ℕ → List ℕ
memory_behind (AskOut (request.Read u)) s page = with_page s.memory (address_of s.buffers (victim s.buffers).slot) page
memory_behind _ s page = s.memory

-- the parts after an Ok to what a token asked
abbrev behind : ℕ → After → List ℕ → Whole
behind w x page = record x.0 { memory = memory_behind x.1 x.0 page; buffers = buffers_answered x.1 x.0.buffers; pending = Some w }

fault_asks_none : (s : Whole) (shown : Shown) (f : ℕ) → asks_device (asked_by (by_fault s shown f).0.wait) ≡ false
unfolding by_fault
fault_asks_none s shown f = either (λ t. asks_device (asked_by t.wait) ≡ false) (cell s.memory FAULT == 0) _ _ refl refl

concluded_asks : (w : ℕ) (x : After) → asks_device (asked_by (concluded w x).0.wait) ≡ true → device_asked x.1 ≡ true
unfolding concluded
concluded_asks w x q = grind (arith, fault_asks_none)

abbrev ok_state : State → List ℕ → State
ok_state t page = after_turn t (Answer (ok_to (asked_by t.wait) page))

concluded_behind : (w : ℕ) (x : After) (page : List ℕ) → device_asked x.1 ≡ true → ok_state (concluded w x).0 page ≡ running (behind w x page)
unfolding concluded answer_of answered read_answered write_answered
concluded_behind w x page q = grind arith

thread_asks_none : (c w : ℕ) (s : Whole) → device_asked (thread c w s).1 ≡ false
thread_asks_none c w s = by_room P s _ _ refl (by_room_r P s _ _ refl refl) where
  P : After → Type 0
  P x = device_asked x.1 ≡ false

executed_row : (w : ℕ) (s : Whole) → device_asked (executed w s).1 ≡ true → executed w s ≡ row (cell s.memory w) w s
unfolding executed
executed_row w s q = grind (arith, either, device_asked, thread_asks_none)

kept : (s : Whole) (x : After) → device_asked x.1 ≡ true → StopsKeeping s x → Keeps s x.0
kept s x q h = grind arith

victim_within : (b : List Entry) → AreBuffers b → address_of b (victim b).slot ≤ 64512
victim_within b h = omega (arith, limit_is (length b) h.count, victim_small b h)

victim_above : (b : List Entry) (a : ℕ) → a + 2 ≤ limit b → a + 2 ≤ address_of b (victim b).slot
victim_above b a l = omega (arith, l)

-- references and answers leave where the buffers begin
limit_referenced : (old new : List Entry) → IsReordered old new → limit new ≡ limit old
limit_referenced old new (slots, e) = ap (λ es. limit es) e ∙ ap limit_of (length-references slots old)

limit_answered : (o : Outcome) (b : List Entry) → AreBuffers b → limit (buffers_answered o b) ≡ limit b
limit_answered o b h = grind (arith, length-assigned, length-unmarked)

-- memory keeps its size, and below the buffers its cells
record IsKept (end : ℕ) (old new : List ℕ) : Type 0 where
  size : length new ≡ 65536
  cells : (a : ℕ) → a + 2 ≤ end → cell new a ≡ cell old a

memory_kept : (o : Outcome) (t : Whole) (page : List ℕ) → length t.memory ≡ 65536 → AreBuffers t.buffers → length page ≡ 1024 → IsKept (limit t.buffers) t.memory (memory_behind o t page)
memory_kept o t page l h k = grind (arith, length-with_page, victim_within, cell_below, victim_above)

-- after an Ok: the row may make fewer requests, and the token means the same
record IsNearer (n w : ℕ) (s t : Whole) : Type 0 where
  fewer : left n t < left n s
  size : length t.memory ≡ 65536
  code : cell t.memory w ≡ n
  end : limit t.buffers ≡ limit s.buffers

nearer : (n w : ℕ) (s : Whole) (page : List ℕ) → AreOrderly s.buffers → length s.memory ≡ 65536 → cell s.memory w ≡ n → w + 2 ≤ limit s.buffers → length page ≡ 1024 → device_asked (row n w s).1 ≡ true → IsNearer n w s (behind w (row n w s) page)
nearer n w s page h l code below k asks =
    let x : After = row n w s
    in let keeps : Keeps s x.0 = kept s x asks (behaves_row n w s).stops
    in let orderly : AreOrderly x.0.buffers = (behaves_row n w s).keeps h
    in let end : limit x.0.buffers ≡ limit s.buffers = limit_referenced s.buffers x.0.buffers keeps.buffers
    in let least : 49152 ≤ limit s.buffers = omega (arith, limit_is (length s.buffers) h.buffers.count, h.buffers.count.1)
    in let same : IsKept (limit x.0.buffers) x.0.memory (memory_behind x.1 x.0 page) = memory_kept x.1 x.0 page (ap length keeps.memory ∙ l) orderly.buffers k
    in let at : (a : ℕ) → a + 2 ≤ limit s.buffers → cell (memory_behind x.1 x.0 page) a ≡ cell s.memory a = λ a b. same.cells a (omega (arith, end, b)) ∙ ap (λ (m : List ℕ). cell m a) keeps.memory
    in record {
      fewer = fewer_requests n w s (behind w x page) h asks refl keeps.values (at BLK (omega (arith, least))) (at SCR (omega (arith, least)));
      size = same.size;
      code = at w below ∙ code;
      end = limit_answered x.1 x.0.buffers orderly.buffers ∙ end;
    }

nearer_token : (n w : ℕ) (s : Whole) (page : List ℕ) → AreOrderly s.buffers → length s.memory ≡ 65536 → cell s.memory w ≡ n → w + 2 ≤ limit s.buffers → length page ≡ 1024 → device_asked (executed w s).1 ≡ true → IsNearer n w s (behind w (executed w s) page)
nearer_token n w s page h l code below k asks =
    let same : executed w s ≡ row n w s = executed_row w s asks ∙ ap (λ (c : ℕ). row c w s) code
    in let P : After → Type 0 = λ x. IsNearer n w s (behind w x page)
    in subst P (sym same) (nearer n w s page h l code below k (subst (λ (x : After). device_asked x.1 ≡ true) same asks))

ok_fits : (r : Option Request) (page : List ℕ) → asks_device r ≡ true → is_answer r (ok_to r page) ≡ true
ok_fits r page q = grind arith

ok_spelled : (r : Option Request) (page : List ℕ) → IsPage page → IsSpelled (ok_to r page)
ok_spelled r page h = grind arith

concluded_goes : (w : ℕ) (x : After) → device_asked x.1 ≡ true → (concluded w x).0.halt ≡ None
unfolding concluded
concluded_goes w x q = grind arith

most : (pages : List (List ℕ)) (s : State) (n w : ℕ) → IsOrderly s → Runs s → length s.parts.memory ≡ 65536 → token_of s ≡ w → cell s.parts.memory w ≡ n → w + 2 ≤ limit s.parts.buffers → All IsPage pages → AreAsked s pages → length pages ≤ left n s.parts
unfolding AreAsked ticked taken
most [] s n w h runs l tok code below all asked = omega arith
most (page ∷ pages) s n w h runs l tok code below all asked =
    let q : Whole = (taken s.parts).1
    in let same : IsTaken s.parts q = is_taken s.parts
    in let t : State = after_turn s Tick
    in let v : ℕ = token_of s
    in let device : device_asked (executed v q).1 ≡ true = concluded_asks v (executed v q) asked.0
    in let next : State = running (behind v (executed v q) page)
    in let is_next : ok_state t page ≡ next = concluded_behind v (executed v q) page device
    in let orderly : IsOrderly next = subst IsOrderly is_next (moved_orderly t (Answer (ok_to (asked_by t.wait) page)) (concluded_goes v (executed v q) device, ok_spelled (asked_by t.wait) page (All-head IsPage page pages all), ok_fits (asked_by t.wait) page asked.0) (moved_orderly s Tick runs h))
    in let code_q : cell q.memory v ≡ n = ap (λ (m : List ℕ). cell m v) same.memory ∙ ap (λ (a : ℕ). cell s.parts.memory a) tok ∙ code
    in let at_q : v + 2 ≤ limit q.buffers = subst (λ (b : List Entry). v + 2 ≤ limit b) (sym same.buffers) (subst (λ (a : ℕ). a + 2 ≤ limit s.parts.buffers) (sym tok) below)
    in let near : IsNearer n v q (behind v (executed v q) page) = nearer_token n v q page (record { buffers = subst AreBuffers (sym same.buffers) h.buffers; once = subst HasNoBlockTwice (sym same.buffers) h.once }) (ap length same.memory ∙ l) code_q at_q (All-head IsPage page pages all).0 device
    in let rest : length pages ≤ left n next.parts = most pages next n v orderly (refl, refl) near.size refl near.code (subst (λ (k : ℕ). v + 2 ≤ k) (sym near.end) at_q) (All-tail IsPage page pages all) (subst (λ (x : State). AreAsked x pages) is_next asked.1)
    in omega (arith, rest, near.fewer, left_same n s.parts q same.memory same.values same.buffers)

pub most_asked : (s : State) (pages : List (List ℕ)) → Runs s → IsOrderly s → length s.parts.memory ≡ 65536 → IsBelowBuffers s (token_of s) → All IsPage pages → AreAsked s pages → length pages ≤ most_requests (cell s.parts.memory (token_of s)) s.parts
most_asked s pages runs h l below all asked =
    let n : ℕ = cell s.parts.memory (token_of s)
    in omega (arith, most pages s n (token_of s) h runs l refl refl below all asked, left_most n s.parts)
