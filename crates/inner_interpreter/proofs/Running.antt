-- Rounds of a run, by what its ends say.
use Rattle.std.proofs.Common.{◌≡◌, ◌⊎◌, ℕ, suc, ◌+◌, ◌-◌, ◌<◌, ◌≤◌, true, List, [], ◌++◌, Option, None, Some, refl, sym, ap, ◌∙◌, inl, inr, subst, arith, Result, OnOk}
use Rattle.std.specs.Prelude.{IsSome}
use Rattle.std.specs.Io.KnownBytes.{Appends, Keeps}
use Rattle.block_buffers.specs.Disks.{Disk}
use Rattle.machine_parts.specs.declared.parts.Request.{Request}
use Rattle.machine.specs.declared.act.Act.{Act}
use Rattle.machine.specs.State.{State}
use Rattle.machine_parts.specs.Whole.{Whole}
use Rattle.machine.specs.declared.extent.Extent.{Extent}
use Rattle.machine.specs.Tick.{ran, running, ticked}
use Rattle.machine.specs.Met.{AreUnmet}
use Rattle.inner_interpreter.specs.Tracing.{Reached, ReachedCut, traced_line, trace}
use Rattle.machine.specs.Answer.{asked_by, is_answer, InputFault}
use Rattle.inner_interpreter.specs.Moves.{shown_bytes}
use Rattle.inner_interpreter.specs.Served.{Answered, served_move}
use Rattle.inner_interpreter.specs.Sent.{AppendsPart}
use Rattle.inner_interpreter.specs.Runs.{World, round, round_by, rounds, stops, answer_round, served}
use Rattle.inner_interpreter.specs.Worlds.{IsAt, IsBrokenOff, IsCut, IsHeldUp, stretch}
use Rattle.inner_interpreter.proofs.Sending.{SentPart, part_of}
use Rattle.inner_interpreter.proofs.Stretched.{one_round, rounds_add, stretched, behind, adds_line, adds_one, silent_before}

pub asked_none : (wait : Option (Request × ℕ)) → asked_by wait ≡ None → wait ≡ None
asked_none wait e = grind arith

pub runs_running : (s : State) → s.halt ≡ None → s.wait ≡ None → s ≡ running s.parts
runs_running s h w = rw (h, w) refl

round_answer : (w : World) (r : Request) → asked_by w.state.wait ≡ Some r → round w ≡ answer_round w r
unfolding round
round_answer w r e = ap (round_by w) e

-- reported bytes after bytes were appended
sent_more : (old new : Option (List ℕ)) (xs bs : List ℕ) → old ≡ Some xs → Appends old new bs → new ≡ Some (xs ++ bs)
sent_more old new xs bs e h = grind arith

pub stretch_at : (e : Extent) (w : World) (s s' : State) (unread : Option (List ℕ)) (disk : Option Disk) (sent sent' : Option (List ℕ)) (left left' m : ℕ)
    → s.halt ≡ None → s.wait ≡ None → s' ≡ (stretch m s).1 → (stretch m s).0 ≡ m → 0 < m → m ≤ left → left' ≡ left - m → AreUnmet e (m - 1) (ticked s.parts).0.parts
    → Appends sent sent' (shown_bytes (stretch m s).1.parts.memory (stretch m s).2.shown)
    → IsAt w s unread disk sent left → Reached e w s' unread disk sent' left'
stretch_at e w s s' unread disk sent sent' left left' m halt wait state all some most fewer unmet more at =
    let same : w.state ≡ running s.parts = sym at.state_is ∙ runs_running s halt wait in
    let fits : m ≤ w.left = omega (arith, at.left_is, most) in
    let made = stretched m 0 w s.parts same fits in
    let r = stretch m s in
    let count : made.0 ≡ m = omega (arith, made.1, all) in
    let there : IsAt (behind w made.0 r.1 r.2) s' unread disk sent' left' = record {
      state_is = state;
      unread_is = at.unread_is;
      disk_is = at.disk_is;
      sent_is = sent_more sent sent' w.shown _ at.sent_is more;
      left_is = omega (arith, at.left_is, fewer, count);
    } in
    (made.0, rw count (adds_line e m w s.parts same fits some all unmet), rw (made.2) there)

-- the same of a call that makes such ticks, and answers how many and the last one's act
pub went_at : (e : Extent) (w : World) (s s' : State) (act : Act) (unread : Option (List ℕ)) (disk : Option Disk) (sent sent' : Option (List ℕ)) (left count : ℕ)
    → s.halt ≡ None → s.wait ≡ None → (count, s', act) ≡ ran 0 count s.parts → 0 < count → count ≤ left → AreUnmet e (count - 1) (ticked s.parts).0.parts
    → Appends sent sent' (shown_bytes s'.parts.memory act.shown)
    → IsAt w s unread disk sent left → Reached e w s' unread disk sent' (left - count)
went_at e w s s' act unread disk sent sent' left count halt wait is some most unmet more at =
    stretch_at e w s s' unread disk sent sent' left (left - count) count halt wait (ap (λ (r : ℕ × State × Act). r.1) is) (sym (ap (λ (r : ℕ × State × Act). r.0) is)) some most refl unmet
    (subst (λ (r : ℕ × State × Act). Appends sent sent' (shown_bytes r.1.parts.memory r.2.shown)) is more) at

pub stretch_cut : (e : Extent) (w : World) (s s' : State) (unread : Option (List ℕ)) (disk : Option Disk) (sent sent' : Option (List ℕ)) (left m : ℕ)
    → s.halt ≡ None → s.wait ≡ None → s' ≡ (stretch m s).1 → (stretch m s).0 ≡ m → 0 < m → m ≤ left → AreUnmet e (m - 1) (ticked s.parts).0.parts
    → AppendsPart sent sent' (shown_bytes (stretch m s).1.parts.memory (stretch m s).2.shown)
    → IsAt w s unread disk sent left → ReachedCut e w s' unread disk sent'
stretch_cut e w s s' unread disk sent sent' left m halt wait state all some most unmet more at =
    let same : w.state ≡ running s.parts = sym at.state_is ∙ runs_running s halt wait in
    let fits : m ≤ w.left = omega (arith, at.left_is, most) in
    let made = stretched m 0 w s.parts same fits in
    let r = stretch m s in
    let count : made.0 ≡ m = omega (arith, made.1, all) in
    let p : SentPart sent' w.shown (shown_bytes r.1.parts.memory r.2.shown) = part_of sent sent' w.shown _ at.sent_is more in
    let one : m ≡ suc (m - 1) = omega (arith, some) in
    let each : (ran 0 (suc (m - 1)) s.parts).0 ≡ 0 + suc (m - 1) = ap (λ i. (ran 0 i s.parts).0) (sym one) ∙ all ∙ one ∙ omega arith in
    let silent : (rounds (m - 1) w).shown ≡ w.shown = silent_before (m - 1) 0 w s.parts same (omega (arith, fits, some)) each in
    let there : rounds m w ≡ behind w made.0 r.1 r.2 = ap (λ i. rounds i w) (sym count) ∙ made.2 in (
      m,
      adds_line e m w s.parts same fits some all unmet,
      record {
        state_is = state ∙ ap (λ (v : World). v.state) (sym there);
        unread_is = at.unread_is ∙ ap (λ (v : World). Some v.typed) (sym there);
        disk_is = at.disk_is ∙ ap (λ (v : World). Some v.disk) (sym there);
        sent_is = inl (record {
          before = m - 1;
          count_is = one;
          part = p.part;
          rest = p.rest;
          some = p.some;
          shown_is = ap (λ (v : World). v.shown) there ∙ ap (λ bs. w.shown ++ bs) p.is ∙ ap (λ bs. bs ++ (p.part ++ p.rest)) (sym silent);
          sent_is = p.sent_is ∙ ap (λ bs. Some (bs ++ p.part)) (sym silent);
        });
      },
    )

pub went_cut : (e : Extent) (w : World) (s s' : State) (act : Act) (unread : Option (List ℕ)) (disk : Option Disk) (sent sent' : Option (List ℕ)) (left count : ℕ)
    → s.halt ≡ None → s.wait ≡ None → (count, s', act) ≡ ran 0 count s.parts → 0 < count → count ≤ left → AreUnmet e (count - 1) (ticked s.parts).0.parts
    → AppendsPart sent sent' (shown_bytes s'.parts.memory act.shown)
    → IsAt w s unread disk sent left → ReachedCut e w s' unread disk sent'
went_cut e w s s' act unread disk sent sent' left count halt wait is some most unmet more at =
    stretch_cut e w s s' unread disk sent sent' left count halt wait (ap (λ (r : ℕ × State × Act). r.1) is) (sym (ap (λ (r : ℕ × State × Act). r.0) is)) some most unmet
    (subst (λ (r : ℕ × State × Act). AppendsPart sent sent' (shown_bytes r.1.parts.memory r.2.shown)) is more) at

-- what an answer gave to each known start
abbrev pub Tells : State → Request → Option (List ℕ) → Option Disk → State → Option (List ℕ) → Option Disk → (List ℕ → Type 0) → Type 0
Tells s r unread disk s' unread' disk' P =
    (typed : List ℕ) → unread ≡ Some typed → (d : Disk) → disk ≡ Some d → Answered s r typed d s' unread' disk' × P (served_move s r typed d).bytes

goes_at : (w : World) (s : State) (unread : Option (List ℕ)) (disk : Option Disk) (sent : Option (List ℕ)) (left : ℕ)
    → s.halt ≡ None → 0 < left → IsAt w s unread disk sent left → rounds 1 w ≡ round w
goes_at w s unread disk sent left halt some at = grind (arith, one_round)

pub answer_at : (e : Extent) (w : World) (s s' : State) (r : Request) (unread unread' : Option (List ℕ)) (disk disk' : Option Disk) (sent sent' : Option (List ℕ)) (left : ℕ)
    → s.halt ≡ None → 0 < left → asked_by s.wait ≡ Some r → Tells s r unread disk s' unread' disk' (Appends sent sent') → IsAt w s unread disk sent left → Reached e w s' unread' disk' sent' left
answer_at e w s s' r unread unread' disk disk' sent sent' left halt some asks told at =
    let same : s ≡ w.state = at.state_is in
    let q : asked_by w.state.wait ≡ Some r = ap (λ (v : State). asked_by v.wait) (sym same) ∙ asks in
    let t = told w.typed at.unread_is w.disk at.disk_is in
    let made : IsAt (answer_round w r) s' unread' disk' sent' left = record {
      state_is = t.0.state_is ∙ ap (λ v. (served_move v r w.typed w.disk).state) same;
      unread_is = t.0.unread_is ∙ ap (λ v. Some (served v r w.typed w.disk).typed) same;
      disk_is = t.0.disk_is ∙ ap (λ v. Some (served v r w.typed w.disk).disk) same;
      sent_is = sent_more sent sent' w.shown _ at.sent_is t.1 ∙ ap (λ v. Some (w.shown ++ (served_move v r w.typed w.disk).bytes)) same;
      left_is = at.left_is;
    } in
    (1, adds_one e w, rw (goes_at w s unread disk sent left halt some at ∙ round_answer w r q) made)

pub answer_cut : (e : Extent) (w : World) (s s' : State) (r : Request) (unread unread' : Option (List ℕ)) (disk disk' : Option Disk) (sent sent' : Option (List ℕ)) (left : ℕ)
    → s.halt ≡ None → 0 < left → asked_by s.wait ≡ Some r → Tells s r unread disk s' unread' disk' (AppendsPart sent sent') → IsAt w s unread disk sent left → ReachedCut e w s' unread' disk' sent'
unfolding rounds
answer_cut e w s s' r unread unread' disk disk' sent sent' left halt some asks told at =
    let same : s ≡ w.state = at.state_is in
    let q : asked_by w.state.wait ≡ Some r = ap (λ (v : State). asked_by v.wait) (sym same) ∙ asks in
    let t = told w.typed at.unread_is w.disk at.disk_is in
    let p : SentPart sent' w.shown (served_move s r w.typed w.disk).bytes = part_of sent sent' w.shown _ at.sent_is t.1 in
    let there : rounds 1 w ≡ answer_round w r = goes_at w s unread disk sent left halt some at ∙ round_answer w r q in (
      1,
      adds_one e w,
      record {
        state_is = t.0.state_is ∙ ap (λ v. (served_move v r w.typed w.disk).state) same ∙ ap (λ (v : World). v.state) (sym there);
        unread_is = t.0.unread_is ∙ ap (λ v. Some (served v r w.typed w.disk).typed) same ∙ ap (λ (v : World). Some v.typed) (sym there);
        disk_is = t.0.disk_is ∙ ap (λ v. Some (served v r w.typed w.disk).disk) same ∙ ap (λ (v : World). Some v.disk) (sym there);
        sent_is = inl (record {
          before = 0;
          count_is = refl;
          part = p.part;
          rest = p.rest;
          some = p.some;
          shown_is = ap (λ (v : World). v.shown) there ∙ ap (λ v. w.shown ++ (served_move v r w.typed w.disk).bytes) (sym same) ∙ ap (λ bs. w.shown ++ bs) p.is;
          sent_is = p.sent_is;
        });
      },
    )

-- all was sent, and is to be passed on
pub kept_cut : (n : ℕ) (w : World) (s : State) (unread : Option (List ℕ)) (disk : Option Disk) (sent sent' : Option (List ℕ)) (left : ℕ)
    → Keeps sent sent' → (is_answer (asked_by (rounds n w).state.wait) InputFault ≡ true) ⊎ IsSome (stops (rounds n w)) → IsAt (rounds n w) s unread disk sent left
    → IsCut n w s unread disk sent'
kept_cut n w s unread disk sent sent' left k due at = grind arith

-- some rounds after others are rounds of the whole run
pub cut_behind : (n k : ℕ) (w : World) (s : State) (unread : Option (List ℕ)) (disk : Option Disk) (sent : Option (List ℕ))
    → IsCut n (rounds k w) s unread disk sent → IsCut (n + k) w s unread disk sent
cut_behind n k w s unread disk sent c = record {
  state_is = c.state_is ∙ ap (λ (v : World). v.state) all;
  unread_is = c.unread_is ∙ ap (λ (v : World). Some v.typed) all;
  disk_is = c.disk_is ∙ ap (λ (v : World). Some v.disk) all;
  sent_is = by_sent c.sent_is;
} where
  all : rounds n (rounds k w) ≡ rounds (n + k) w
  all = sym (rounds_add n k w)

  by_sent : IsBrokenOff n (rounds k w) sent ⊎ IsHeldUp n (rounds k w) sent → IsBrokenOff (n + k) w sent ⊎ IsHeldUp (n + k) w sent
  by_sent (inl b) =
      let before : rounds b.before (rounds k w) ≡ rounds (b.before + k) w = sym (rounds_add b.before k w) in
      inl (record {
        before = b.before + k;
        count_is = omega (arith, b.count_is);
        part = b.part;
        rest = b.rest;
        some = b.some;
        shown_is = ap (λ (v : World). v.shown) (sym all) ∙ b.shown_is ∙ ap (λ (v : World). v.shown ++ (b.part ++ b.rest)) before;
        sent_is = b.sent_is ∙ ap (λ (v : World). Some (v.shown ++ b.part)) before;
      })
  by_sent (inr h) = inr (record {
    sent_is = h.sent_is ∙ ap (λ (v : World). Some v.shown) all;
    due = subst (λ (v : World). (is_answer (asked_by v.state.wait) InputFault ≡ true) ⊎ IsSome (stops v)) all h.due;
  })

-- nothing is traced while a request waits
line_asked : (e : Extent) (line : Whole → List ℕ) (w : World) (r : Request) → asked_by w.state.wait ≡ Some r → traced_line e line w ≡ []
unfolding traced_line
line_asked e line w r q = grind arith

-- no round was made, and the writer failed in passing on
pub flush_cut : (e : Extent) (w : World) (s : State) (unread : Option (List ℕ)) (disk : Option Disk) (sent sent' : Option (List ℕ)) (left : ℕ)
    → (r : Request) → asked_by s.wait ≡ Some r → is_answer (Some r) InputFault ≡ true → Keeps sent sent' → IsAt w s unread disk sent left → ReachedCut e w s unread disk sent'
unfolding rounds trace
flush_cut e w s unread disk sent sent' left r asks typed k at = grind (arith, line_asked, kept_cut)

pub kept_at : (w : World) (s : State) (unread : Option (List ℕ)) (disk : Option Disk) (sent sent' : Option (List ℕ)) (left : ℕ)
    → Keeps sent sent' → IsAt w s unread disk sent left → IsAt w s unread disk sent' left
kept_at w s unread disk sent sent' left k at = grind arith

pub on_ok_then : {T E : Type 0} (r : Result T E) (P Q : Type 0) → (P → Q) → OnOk r P → OnOk r Q
on_ok_then r P Q f h = grind arith
