-- Each Ok to what a row asks of its device brings the row one request nearer to its end.
use Rattle.std.proofs.Common.{◌≡◌, ℕ, ◌+◌, ◌*◌, ◌<◌, ◌≤◌, ◌==◌, ◌||◌, List, [], ◌∷◌, Some, None, unwrap_or, length, Bool, true, false, refl, ap, sym, subst, ◌∙◌, arith, if◌then◌else◌}
use Rattle.std.specs.Prelude.{count_by}
use Rattle.block_buffers.specs.declared.entry.Entry.{Entry}
use Rattle.block_buffers.specs.Entries.{holds, slot_of, victim, entry_at, moved_front, assigned, unmarked, is_updated}
use Rattle.block_buffers.proofs.Asking.{holds_unmarked, holds_moved, front_stays, front_held, front_unmarked, fewer_saved, victim_saved, victim_held, first_held}
use Rattle.block_buffers.proofs.Blocks.{holds_assigned, touched_block}
use Rattle.block_buffers.proofs.Kept.{are_unmarked}
use Rattle.memory.specs.Bytes.{cell}
use Rattle.memory.specs.declared.system.TheConstants.{BLK, SCR}
use Rattle.machine_parts.specs.Whole.{Whole}
use Rattle.machine_parts.specs.Row.{After}
use Rattle.machine_parts.specs.declared.parts.Outcome.{Outcome}
use Rattle.machine_parts.specs.declared.parts.Outcome.TheVariants as outcome
use Rattle.machine_parts.specs.declared.parts.Request.TheVariants as request
use Rattle.primitives.specs.Blocks.{has_block, without_block, write_of, referenced}
use Rattle.primitives.specs.Needs.{stream_needs, needed, most_requests}
use Rattle.primitives.proofs.Behaves.{AreOrderly, asks_device, missing, given, saved, orderly_moved}
use Rattle.primitives.specs.Table.{row}
use Rattle.primitives.proofs.Rows.{asks, behaves_row}

-- the buffers after an Ok
abbrev pub answered : Outcome → List Entry → List Entry
answered (outcome.Ask (request.Read u)) b = assigned u b
answered (outcome.Ask (request.Write u)) b = unmarked u b
answered _ b = b

-- what the victim's buffer costs, and what these blocks cost
abbrev victim_cost : List Entry → ℕ
victim_cost b = if (victim b).updated then 2 else 1

unfoldable pub cost : List ℕ → List Entry → ℕ
cost [] b = 0
cost (u ∷ us) b = if holds b u then cost us (moved_front (slot_of b u) b) else victim_cost b + 2 * length us

victim_most : (m : Bool) → (if m then 2 else 1) ≤ 2
victim_most m = grind arith

pub cost_most : (us : List ℕ) (b : List Entry) → cost us b ≤ 2 * length us
unfolding cost
cost_most [] b = omega arith
cost_most (u ∷ us) b = grind (arith, victim_most, cost_most us (moved_front (slot_of b u) b))

cost_held : (u : ℕ) (us : List ℕ) (b : List Entry) → holds b u ≡ true → cost (u ∷ us) b ≡ cost us (moved_front (slot_of b u) b)
unfolding cost
cost_held u us b h = rw h refl

cost_absent : (u : ℕ) (us : List ℕ) (b : List Entry) (m : Bool) → holds b u ≡ false → (victim b).updated ≡ m → cost (u ∷ us) b ≡ (if m then 2 else 1) + 2 * length us
unfolding cost
cost_absent u us b m h q = rw (h, q) refl

-- what is asked for a block that no buffer has
data Asked (s : Whole) (u : ℕ) (o : Outcome) : Type 0 where
  Writes : holds s.buffers u ≡ false → (victim s.buffers).updated ≡ true → o ≡ write_of (victim s.buffers) → Asked s u o
  Reads : holds s.buffers u ≡ false → (victim s.buffers).updated ≡ false → o ≡ outcome.Ask (request.Read u) → Asked s u o

asked : (s : Whole) (u : ℕ) → has_block s u ≡ false → asks_device (without_block s u) ≡ true → Asked s u (without_block s u)
unfolding has_block without_block
asked s u h a = grind arith

-- one block that no buffer has: it costs one less
fewer_absent : (s : Whole) (u : ℕ) (us : List ℕ) (o : Outcome) → AreOrderly s.buffers → Asked s u o → cost (u ∷ us) (answered o s.buffers) < cost (u ∷ us) s.buffers
fewer_absent s u us o h x5 = grind (arith, cost_absent, holds_unmarked, victim_saved, cost_held, holds_assigned, cost_most)

-- after a block that a buffer has, one more that none has: it costs one less
fewer_behind : (s : Whole) (u v : ℕ) (o : Outcome) → AreOrderly s.buffers → holds s.buffers u ≡ true → Asked (referenced s u) v o → cost (u ∷ v ∷ []) (answered o (referenced s u).buffers) < cost (u ∷ v ∷ []) s.buffers
fewer_behind s u v o h k (Writes j q r) =
    let b : List Entry = (referenced s u).buffers
    in let x : ℕ = unwrap_or (victim b).block 0
    in let c : List Entry = unmarked x b
    in let moved : AreOrderly b = orderly_moved (slot_of s.buffers u) s.buffers h
    in let P : Outcome → Type 0 = λ y. cost (u ∷ v ∷ []) (answered y b) < cost (u ∷ v ∷ []) s.buffers
    in let here : holds c u ≡ true = holds_unmarked x u b ∙ holds_moved (slot_of s.buffers u) u s.buffers ∙ k
    in let front : (entry_at c 0).block ≡ Some u = front_unmarked b x moved.buffers ∙ touched_block u s.buffers h.buffers k
    in let stays : moved_front (slot_of c u) c ≡ c = front_stays c u (are_unmarked x b moved.buffers) front
    in let behind : cost (u ∷ v ∷ []) c ≡ cost (v ∷ []) c = cost_held u (v ∷ []) c here ∙ ap (λ (es : List Entry). cost (v ∷ []) es) stays
    in let before : cost (u ∷ v ∷ []) s.buffers ≡ cost (v ∷ []) b = cost_held u (v ∷ []) s.buffers k
    in let one : cost (v ∷ []) c < cost (v ∷ []) b = fewer_absent (referenced s u) v [] (write_of (victim b)) moved (Writes j q refl)
    in let less : cost (u ∷ v ∷ []) c < cost (u ∷ v ∷ []) s.buffers = omega (arith, behind, before, one)
    in subst P (sym r) less
fewer_behind s u v o h k (Reads j q r) = grind (arith, orderly_moved, front_held, touched_block, holds_moved, holds_assigned, cost_held, cost_most, cost_absent)

has_held : (s : Whole) (u : ℕ) → has_block s u ≡ true → holds s.buffers u ≡ true
unfolding has_block
has_held s u h = grind arith

missing_absent : (u : ℕ) (us : List ℕ) (s : Whole) → has_block s u ≡ false → missing (u ∷ us) s ≡ Some (s, without_block s u)
unfolding missing
missing_absent u us s h = rw h refl

missing_held : (u : ℕ) (us : List ℕ) (s : Whole) → has_block s u ≡ true → missing (u ∷ us) s ≡ missing us (referenced s u)
unfolding missing
missing_held u us s h = rw h refl

missing_none : (s : Whole) → missing [] s ≡ None
unfolding missing
missing_none s = refl

nothing : (s : Whole) (x : After) → missing [] s ≡ Some x → ⊥
nothing s x q = let no : None ≡ Some x = sym (missing_none s) ∙ q in cc

the_some : (x y : After) → Some x ≡ Some y → x ≡ y
the_some x y h = cc

fewer_at : (s t : Whole) (us : List ℕ) (o : Outcome) (x : After) → (t, o) ≡ x → (asks_device o ≡ true → cost us (answered o t.buffers) < cost us s.buffers) → asks_device x.1 ≡ true → cost us (answered x.1 x.0.buffers) < cost us s.buffers
fewer_at s t us o x q h = grind (arith, asks_device)

fewer_missing : (us : List ℕ) (s : Whole) (x : After) → length us ≤ 2 → AreOrderly s.buffers → missing us s ≡ Some x → asks_device x.1 ≡ true → cost us (answered x.1 x.0.buffers) < cost us s.buffers
fewer_missing [] s x l h q a = let no : None ≡ Some x = sym (missing_none s) ∙ q in cc
fewer_missing (u ∷ []) s x l h q a = grind (arith, missing_held, missing_none, the_some, missing_absent, fewer_at, fewer_absent, asked)
fewer_missing (u ∷ v ∷ []) s x l h q a = grind (arith, missing_held, missing_none, the_some, missing_absent, fewer_at, fewer_behind, has_held, asked, fewer_absent)
fewer_missing (u ∷ v ∷ w ∷ us) s x l h q a = absurd (omega (arith, l))

-- how many requests row n may still make
unfoldable pub left : ℕ → Whole → ℕ
left n s =
    if n == 113 then (if (victim s.buffers).updated then 1 else 0)
    else if (n == 115) || (n == 116) then count_by is_updated s.buffers
    else cost (needed n s) s.buffers

pub left_most : (n : ℕ) (s : Whole) → left n s ≤ most_requests n s
unfolding left most_requests
left_most n s = grind (arith, cost_most)

two_at_most : (n : ℕ) (s : Whole) → length (needed n s) ≤ 2
unfolding needed stream_needs
two_at_most n s = grind arith

-- the same blocks are needed if the top cell, BLK and SCR are the same
needed_same : (n : ℕ) (s t : Whole) → t.values ≡ s.values → cell t.memory BLK ≡ cell s.memory BLK → cell t.memory SCR ≡ cell s.memory SCR → needed n t ≡ needed n s
unfolding needed stream_needs
needed_same n s t v b c = rw (v, b, c) refl

pub left_same : (n : ℕ) (s t : Whole) → t.memory ≡ s.memory → t.values ≡ s.values → t.buffers ≡ s.buffers → left n t ≡ left n s
unfolding left
left_same n s t m v b = grind (arith, needed_same)

abbrev mark : List Entry → ℕ
mark b = if (victim b).updated then 1 else 0

fewer_given : (s : Whole) (x : After) → AreOrderly s.buffers → given s ≡ Some x → mark (answered x.1 x.0.buffers) < mark s.buffers
unfolding given
fewer_given s x h q = grind (arith, victim_saved, the_some)

fewer_updated : (s : Whole) (x : After) → AreOrderly s.buffers → saved s ≡ Some x → count_by is_updated (answered x.1 x.0.buffers) < count_by is_updated s.buffers
unfolding saved
fewer_updated s x h q = grind (arith, the_some, fewer_saved)

fewer_left : (n : ℕ) (s t : Whole) (x : After) → AreOrderly s.buffers → asks n s ≡ Some x → asks_device x.1 ≡ true → t.buffers ≡ answered x.1 x.0.buffers → needed n t ≡ needed n s → left n t < left n s
unfolding asks left
fewer_left n s t x h q a e needs = grind (arith, saved, missing, fewer_updated, fewer_missing, two_at_most, given, fewer_given)

-- after an Ok to what row n asks, it may make fewer requests than before
pub fewer_requests : (n w : ℕ) (s t : Whole) → AreOrderly s.buffers → asks_device (row n w s).1 ≡ true → t.buffers ≡ answered (row n w s).1 (row n w s).0.buffers → t.values ≡ s.values → cell t.memory BLK ≡ cell s.memory BLK → cell t.memory SCR ≡ cell s.memory SCR → left n t < left n s
fewer_requests n w s t h a e v b c = grind (arith, fewer_left, behaves_row, asks, needed_same)

absent_without : (t : Whole) (u v : ℕ) → has_block t v ≡ false → without_block t v ≡ outcome.Ask (request.Read u) → holds t.buffers u ≡ false
absent_without t u v k q = by_asked (asked t v k (ap asks_device q)) where
  by_asked : Asked t v (without_block t v) → holds t.buffers u ≡ false
  by_asked (Writes i r j) = let no : write_of (victim t.buffers) ≡ outcome.Ask (request.Read u) = sym j ∙ q in cc
  by_asked (Reads i r j) =
      let same : outcome.Ask (request.Read v) ≡ outcome.Ask (request.Read u) = sym j ∙ q
      in let this : v ≡ u = cc
      in subst (λ (x : ℕ). holds t.buffers x ≡ false) this i

absent_missing : (us : List ℕ) (s t : Whole) (u : ℕ) → missing us s ≡ Some (t, outcome.Ask (request.Read u)) → holds t.buffers u ≡ false
absent_missing [] s t u q = absurd (nothing s (t, outcome.Ask (request.Read u)) q)
absent_missing (v ∷ us) s t u q = grind (arith, missing, missing_held, the_some, missing_absent, absent_without, absent_missing us (referenced s v) t u)

not_written : (e : Entry) (s : Whole) (x : After) (u : ℕ) → x.1 ≡ outcome.Ask (request.Read u) → Some (s, write_of e) ≡ Some x → ⊥
not_written e s x u r q = grind (arith, the_some)

-- a block that a row asks to be read is in no buffer
pub absent_read : (n w : ℕ) (s t : Whole) (u : ℕ) → row n w s ≡ (t, outcome.Ask (request.Read u)) → holds t.buffers u ≡ false
unfolding asks given saved
absent_read n w s t u q = grind (arith, behaves_row, asks, asks_device, missing, not_written, absent_missing)

the_block : (e : Entry) (u : ℕ) → write_of e ≡ outcome.Ask (request.Write u) → unwrap_or e.block 0 ≡ u
the_block e u q = cc

held_without : (t : Whole) (u v : ℕ) → AreOrderly t.buffers → has_block t v ≡ false → without_block t v ≡ outcome.Ask (request.Write u) → holds t.buffers u ≡ true
held_without t u v h k q = by_asked (asked t v k (ap asks_device q)) where
  by_asked : Asked t v (without_block t v) → holds t.buffers u ≡ true
  by_asked (Writes i r j) = subst (λ (x : ℕ). holds t.buffers x ≡ true) (the_block (victim t.buffers) u (sym j ∙ q)) (victim_held t.buffers h.buffers r)
  by_asked (Reads i r j) = let no : outcome.Ask (request.Read v) ≡ outcome.Ask (request.Write u) = sym j ∙ q in cc

held_missing : (us : List ℕ) (s t : Whole) (u : ℕ) → AreOrderly s.buffers → missing us s ≡ Some (t, outcome.Ask (request.Write u)) → holds t.buffers u ≡ true
held_missing [] s t u h q = absurd (nothing s (t, outcome.Ask (request.Write u)) q)
held_missing (v ∷ us) s t u h q = grind (arith, orderly_moved, missing, missing_held, the_some, missing_absent, held_without, held_missing us (referenced s v) t u (orderly_moved (slot_of s.buffers v) s.buffers h))

-- the entry whose block is written is in the list
held_written : (e : Entry) (s t : Whole) (x : After) (u : ℕ) → x ≡ (t, outcome.Ask (request.Write u)) → holds s.buffers (unwrap_or e.block 0) ≡ true → Some (s, write_of e) ≡ Some x → holds t.buffers u ≡ true
held_written e s t x u r h q = grind (arith, the_some, the_block)

-- a block that a row asks to be written is in a buffer
pub held_write : (n w : ℕ) (s t : Whole) (u : ℕ) → AreOrderly s.buffers → row n w s ≡ (t, outcome.Ask (request.Write u)) → holds t.buffers u ≡ true
unfolding asks given saved
held_write n w s t u h q = grind (arith, behaves_row, asks, asks_device, missing, held_written, victim_held, first_held, held_missing)
