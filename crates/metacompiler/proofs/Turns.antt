-- Turns of INTERPRET's loop on a machine that reads a screen.
use Rattle.std.proofs.Common.{◌≡◌, ℕ, ◌+◌, ◌∷◌, List, [], length, refl, true, false, Some, None, suc, ◌<◌, ◌≤◌, arith, ◌∙◌, ◌-◌, ◌*◌, ◌%◌, ◌/◌, ap, sym, subst, min, take, drop, ◌++◌, append_assoc}
use Rattle.std.specs.Prelude.{nat_lt, ◌==◌, ◌||◌, if◌then◌else◌}
use Rattle.std.proofs.lemmas.List.{length-take-le}
use Rattle.std.proofs.Math.Seq.{drop-append_seam, take-append_seam}
use Rattle.machine_parts.specs.Whole.{Whole}
use Rattle.machine_parts.specs.declared.parts.Outcome.TheVariants.{Done, Ask}
use Rattle.machine_parts.specs.declared.parts.Request.{Request}
use Rattle.plain_rows.specs.Table.{row_in, control, stack, cells}
use Rattle.machine_parts.specs.Row.{takes1, takes_r1, room, room_r, After}
use Rattle.primitives.specs.Table.{row, input}
use Rattle.cells.specs.Cell.{wrap}
use Rattle.memory.specs.Bytes.{cell, with_page, IsCount, limit_of, bytes, cell_bytes, put_cell}
use Rattle.machine.specs.State.{State}
use Rattle.machine.specs.declared.act.Act.{Act}
use Rattle.machine.specs.declared.act.Shown.TheVariants.{Nothing}
use Rattle.machine.specs.Tick.{ticked, taken, executed as executed_token, concluded, running, quiet}
use Rattle.block_buffers.specs.Disks.{Disk, succeeds, block_at, called}
use Rattle.block_buffers.specs.Entries.{address_of, victim, assigned, holds, slot_of, entry_at, unassigned_slot, AreBuffers}
use Rattle.machine_parts.specs.declared.parts.Request.TheVariants.{Read}
use Rattle.machine.specs.Answer.{answer_of, answered, read_answered}
use Rattle.memory.proofs.Limits.{limit_is, limit_least}
use Rattle.memory.proofs.Ranges.{length-bytes}
use Rattle.memory.proofs.Pages.{cell_below, length-with_page}
use Rattle.block_buffers.specs.declared.entry.Entry.{Entry}
use Rattle.block_buffers.proofs.Asking.{front_stays}
use Rattle.block_buffers.proofs.Blocks.{holds_assigned, slot_assigned}
use Rattle.block_buffers.proofs.Kept.{are_assigned, last_place, length-assigned}
use Rattle.dictionary.specs.Header.{compilation_address, is_immediate}
use Rattle.dictionary.specs.Search.{Found, Nowhere, sought}
use Rattle.compiling_words.specs.Code.{literal_code}
use Rattle.number_text.specs.Base.{has_base}
use Rattle.number_text.specs.Numbers.{is_number, is_double, number_value}
use Rattle.input_source.specs.declared.words.Stream.{Stream}
use Rattle.input_source.specs.declared.words.Word.{Word}
use Rattle.input_source.specs.Streams.{stream_of, stream_at, stream_size}
use Rattle.input_source.specs.Words.{word_in, bytes_in, parsed, parsed_in, bytes_of}
use Rattle.input_source.proofs.Ranges.{bytes_part}
use Rattle.input_source.proofs.WordLaw.{word_law, taken-parsed}
use Rattle.primitives.specs.Blocks.{has_block, without_block}
use Rattle.primitives.specs.Streams.{has_stream, stream_buffers, with_stream, reads}
use Rattle.primitives.specs.Names.{name_word, name_in, searches}
use Rattle.primitives.specs.DictionaryRows.{leaves_past}
use Rattle.primitives.specs.Interpret.{compiles_past, found_word, number_word}
use Rattle.memory.proofs.Kept.{byte_cell, length_cell, cell_here, cell_beside}
use Rattle.memory.proofs.Same.{bytes_by}
use Rattle.compiling_words.specs.Laying.{laid}
use Rattle.resident_bodies.proofs.Rows.{compiles_past_is}
use Rattle.metacompiler.specs.Loop.{Words, Thread}
use Rattle.metacompiler.specs.Rounds.{rounds, Goes, at, due, is_ended, out, Ended, by_device, by_tick, Out, then_screens}
use Rattle.metacompiler.specs.ScreenStream.{Reading, stream, next, name}
use Rattle.metacompiler.specs.Seen.{Sees}
use Rattle.metacompiler.specs.Turning.{MovesStream, KeepsStream, Ready, Spot, spot, Leads}
use Rattle.machine.specs.declared.act.Event.TheVariants as event

-- One tick, by its row.

-- the parts once the token at ip is taken
abbrev pub past_token : Whole → Whole
past_token s = record s { pending = None; ip = wrap (s.ip + 2) }

-- a state that waits, and its act
abbrev pub waiting : Whole → Request → ℕ → State × Act
waiting s r w = (record { parts = s; wait = Some (r, w); halt = None }, record { shown = Nothing; event = event.Ask r })

pub taken_at : (s : Whole) (w : ℕ) → s.pending ≡ None → cell s.memory s.ip ≡ w → taken s ≡ (w, past_token s)
unfolding taken
taken_at s w p e = rw (p, e) refl

pub taken_due : (s : Whole) (w : ℕ) → s.pending ≡ Some w → taken s ≡ (w, record s { pending = None })
unfolding taken
taken_due s w p = rw p refl

pub executed_row : (s : Whole) (w n : ℕ) → cell s.memory w ≡ n → nat_lt n 256 ≡ true → executed_token w s ≡ row n w s
unfolding executed_token
executed_row s w n c h = rw (c, h) refl

-- one quiet tick
pub stepped : (s t : Whole) (w n : ℕ) → s.pending ≡ None → cell s.memory s.ip ≡ w → cell s.memory w ≡ n → nat_lt n 256 ≡ true → row n w (past_token s) ≡ (t, Done) → ticked s ≡ (running t, quiet)
unfolding ticked concluded
stepped s t w n p e c h r = rw (taken_at s w p e, executed_row (past_token s) w n c h, r) refl

-- one quiet tick of a pending word
pub stepped_due : (s t : Whole) (w n : ℕ) → s.pending ≡ Some w → cell s.memory w ≡ n → nat_lt n 256 ≡ true → row n w (record s { pending = None }) ≡ (t, Done) → ticked s ≡ (running t, quiet)
unfolding ticked concluded
stepped_due s t w n p c h r = rw (taken_due s w p, executed_row (record s { pending = None }) w n c h, r) refl

-- a tick that asks
pub asked : (s t : Whole) (w n : ℕ) (q : Request) → s.pending ≡ None → cell s.memory s.ip ≡ w → cell s.memory w ≡ n → nat_lt n 256 ≡ true → row n w (past_token s) ≡ (t, Ask q) → ticked s ≡ waiting t q w
unfolding ticked concluded
asked s t w n q p e c h r = rw (taken_at s w p e, executed_row (past_token s) w n c h, r) refl

-- the rows of the loop, on a state written out
pub row_39 : (s : Whole) (w x : ℕ) (d : List ℕ) → s.values ≡ x ∷ d → (x == 0) ≡ false → nat_lt 256 (length (x ∷ x ∷ d)) ≡ false → row 39 w s ≡ (record s { values = x ∷ x ∷ d }, Done)
unfolding row row_in stack takes1 room
row_39 s w x d e h g = rw (e, h, g) refl

pub row_39_zero : (s : Whole) (w : ℕ) (d : List ℕ) → s.values ≡ 0 ∷ d → nat_lt 256 (length (0 ∷ d)) ≡ false → row 39 w s ≡ (record s { values = 0 ∷ d }, Done)
unfolding row row_in stack takes1 room
row_39_zero s w d e g = rw (e, g) refl

pub row_8 : (s : Whole) (w x : ℕ) (d : List ℕ) → s.values ≡ x ∷ d → (x == 0) ≡ false → row 8 w s ≡ (record s { values = d; ip = wrap (s.ip + 2) }, Done)
unfolding row row_in control takes1
row_8 s w x d e h = rw (e, h) refl

pub row_8_zero : (s : Whole) (w : ℕ) (d : List ℕ) → s.values ≡ 0 ∷ d → row 8 w s ≡ (record s { values = d; ip = cell s.memory s.ip }, Done)
unfolding row row_in control takes1
row_8_zero s w d e = rw e refl

pub row_77_minus : (s : Whole) (w : ℕ) (d : List ℕ) → s.values ≡ 65535 ∷ d → nat_lt 256 (length (0 ∷ d)) ≡ false → row 77 w s ≡ (record s { values = 0 ∷ d }, Done)
unfolding row row_in cells takes1 room
row_77_minus s w d e g = rw (e, g) refl

pub row_77_one : (s : Whole) (w : ℕ) (d : List ℕ) → s.values ≡ 1 ∷ d → nat_lt 256 (length (65535 ∷ d)) ≡ false → row 77 w s ≡ (record s { values = 65535 ∷ d }, Done)
unfolding row row_in cells takes1 room
row_77_one s w d e g = rw (e, g) refl

pub row_7 : (s : Whole) (w : ℕ) → row 7 w s ≡ (record s { ip = cell s.memory s.ip }, Done)
unfolding row row_in control
row_7 s w = refl

pub row_15 : (s : Whole) (w x : ℕ) (d : List ℕ) → s.values ≡ x ∷ d → row 15 w s ≡ (record s { values = d; pending = Some x }, Done)
unfolding row row_in control takes1
row_15 s w x d e = rw e refl

pub row_5 : (s : Whole) (w a : ℕ) (r : List ℕ) → s.returns ≡ a ∷ r → row 5 w s ≡ (record s { returns = r; ip = a }, Done)
unfolding row row_in control takes_r1
row_5 s w a r e = rw e refl

pub row_1 : (s : Whole) (w : ℕ) → s.returns ≡ [] → row 1 w s ≡ (record s { returns = s.ip ∷ []; ip = wrap (w + 2) }, Done)
unfolding row row_in control room_r
row_1 s w e = rw e refl

-- A turn of INTERPRET's loop, whatever its scan does.

wrap_small : (i : ℕ) → i < 65536 → wrap i ≡ i
wrap_small i h = omega arith

ten : (a : ℕ) → a + 10 + 2 ≡ a + 12
ten a = omega arith

sixteen : (a : ℕ) → a + 16 + 2 ≡ a + 18
sixteen a = omega arith

six : (a : ℕ) → a + 4 + 2 ≡ a + 6
six a = omega arith

not_zero : (i : ℕ) → 0 < i → (i == 0) ≡ false
not_zero i h = grind arith

-- one tick that doesn't end the screen
rounds_step : (k : ℕ) (s t : Whole) (d : Disk) → ticked s ≡ (running t, quiet) → is_ended t ≡ false → rounds (suc k) s d ≡ rounds k t d
unfolding rounds
rounds_step k s t d e q = rw (e, q) refl

pub goes_one : (s t : Whole) (d : Disk) → ticked s ≡ (running t, quiet) → is_ended t ≡ false → Goes 1 s d t d
goes_one s t d e q = λ (k : ℕ). let o : 1 + k ≡ suc k = omega arith in rw o (rounds_step k s t d e q)

pub goes_on : (n m : ℕ) (s t u : Whole) (d e f : Disk) → Goes n s d t e → Goes m t e u f → Goes (n + m) s d u f
goes_on n m s t u d e f g h = λ (k : ℕ). let x : n + m + k ≡ n + (m + k) = omega arith in rw x (g (m + k) ∙ h k)

-- what an answered read leaves: the page is in the victim's buffer, and the token comes again
abbrev pub brought : Whole → ℕ → List ℕ → Whole
brought u b page = record u { memory = with_page u.memory (address_of u.buffers (victim u.buffers).slot) page; buffers = assigned b u.buffers }

-- that read, answered by a device that succeeds
answer_step : (left : ℕ) (go : Whole → Disk → Out) (u : Whole) (s : List ℕ) (j w b : ℕ) (d : Disk) → succeeds d b ≡ true → 0 < j → by_device left go (record { parts = at u s j; wait = Some (Read b, w); halt = None }) d (Read b) ≡ go (due (brought u b (block_at d.blocks b)) s j w) (called d)
unfolding answer_of answered read_answered
answer_step left go u s j w b d h p = rw h (rw (not_zero j p) refl)

request_step : (k : ℕ) (go : Whole → Disk → Out) (u : Whole) (s : List ℕ) (i j w b : ℕ) (d : Disk) → ticked (at u s i) ≡ waiting (at u s j) (Read b) w → succeeds d b ≡ true → 0 < j → (let t = ticked (at u s i) in by_tick (suc k) go t.0 d t.1.event) ≡ go (due (brought u b (block_at d.blocks b)) s j w) (called d)
request_step k go u s i j w b d e h p = let z : (suc k == 0) ≡ false = grind arith in rw e (rw z (answer_step (suc k) go u s j w b d h p))

-- a tick that asks for a block, the answer, and what follows: at least one tick, as no answer comes if none is left
pub ask_step : (u : Whole) (s : List ℕ) (i j w b k : ℕ) (d : Disk) → ticked (at u s i) ≡ waiting (at u s j) (Read b) w → succeeds d b ≡ true → 0 < j → rounds (suc (suc k)) (at u s i) d ≡ rounds (suc k) (due (brought u b (block_at d.blocks b)) s j w) (called d)
unfolding rounds
ask_step u s i j w b k d e h p = request_step k (λ (u : Whole) (e : Disk). rounds (suc k) u e) u s i j w b d e h p

-- a tick in a thread
pub goes_row : (u v : Whole) (f : Disk) (d e : List ℕ) (i j w n : ℕ) → i + 2 < 65536 → 0 < j → cell u.memory i ≡ w → cell u.memory w ≡ n → nat_lt n 256 ≡ true → row n w (at u d (i + 2)) ≡ (at v e j, Done) → Goes 1 (at u d i) f (at v e j) f
goes_row u v f d e i j w n h p c r b q =
    goes_one (at u d i) (at v e j) f (stepped (at u d i) (at v e j) w n refl c r b (rw (wrap_small (i + 2) h) q)) (rw (not_zero j p) refl)

-- a tick of a word that is due
pub goes_due : (u v : Whole) (f : Disk) (d e : List ℕ) (i j w n : ℕ) → 0 < j → cell u.memory w ≡ n → nat_lt n 256 ≡ true → row n w (at u d i) ≡ (at v e j, Done) → Goes 1 (due u d i w) f (at v e j) f
goes_due u v f d e i j w n p r b q =
    goes_one (due u d i w) (at v e j) f (stepped_due (due u d i w) (at v e j) w n refl r b q) (rw (not_zero j p) refl)

pub goes_39 : (u : Whole) (f : Disk) (d : List ℕ) (i j w x : ℕ) → j ≡ i + 2 → i + 2 < 65536 → cell u.memory i ≡ w → cell u.memory w ≡ 39 → (x == 0) ≡ false → nat_lt 256 (length (x ∷ x ∷ d)) ≡ false → Goes 1 (at u (x ∷ d) i) f (at u (x ∷ x ∷ d) j) f
goes_39 u f d i j w x q h c r z g = rw q (goes_row u u f (x ∷ d) (x ∷ x ∷ d) i (i + 2) w 39 h (omega arith) c r refl (row_39 (at u (x ∷ d) (i + 2)) w x d refl z g))

pub goes_39_zero : (u : Whole) (f : Disk) (d : List ℕ) (i j w : ℕ) → j ≡ i + 2 → i + 2 < 65536 → cell u.memory i ≡ w → cell u.memory w ≡ 39 → nat_lt 256 (length (0 ∷ d)) ≡ false → Goes 1 (at u (0 ∷ d) i) f (at u (0 ∷ d) j) f
goes_39_zero u f d i j w q h c r g = rw q (goes_row u u f (0 ∷ d) (0 ∷ d) i (i + 2) w 39 h (omega arith) c r refl (row_39_zero (at u (0 ∷ d) (i + 2)) w d refl g))

pub goes_8 : (u : Whole) (f : Disk) (d : List ℕ) (i j w x : ℕ) → j ≡ i + 4 → i + 4 < 65536 → cell u.memory i ≡ w → cell u.memory w ≡ 8 → (x == 0) ≡ false → Goes 1 (at u (x ∷ d) i) f (at u d j) f
goes_8 u f d i j w x q h c r z = let k : wrap (i + 2 + 2) ≡ j = omega arith in goes_row u u f (x ∷ d) d i j w 8 (omega arith) (omega arith) c r refl (row_8 (at u (x ∷ d) (i + 2)) w x d refl z ∙ rw k refl)

pub goes_8_zero : (u : Whole) (f : Disk) (d : List ℕ) (i j w : ℕ) → i + 4 < 65536 → 0 < j → cell u.memory i ≡ w → cell u.memory w ≡ 8 → cell u.memory (i + 2) ≡ j → Goes 1 (at u (0 ∷ d) i) f (at u d j) f
goes_8_zero u f d i j w h p c r t = goes_row u u f (0 ∷ d) d i j w 8 (omega arith) p c r refl (row_8_zero (at u (0 ∷ d) (i + 2)) w d refl ∙ rw t refl)

pub goes_77_minus : (u : Whole) (f : Disk) (d : List ℕ) (i j w : ℕ) → j ≡ i + 2 → i + 2 < 65536 → cell u.memory i ≡ w → cell u.memory w ≡ 77 → nat_lt 256 (length (0 ∷ d)) ≡ false → Goes 1 (at u (65535 ∷ d) i) f (at u (0 ∷ d) j) f
goes_77_minus u f d i j w q h c r g = rw q (goes_row u u f (65535 ∷ d) (0 ∷ d) i (i + 2) w 77 h (omega arith) c r refl (row_77_minus (at u (65535 ∷ d) (i + 2)) w d refl g))

pub goes_77_one : (u : Whole) (f : Disk) (d : List ℕ) (i j w : ℕ) → j ≡ i + 2 → i + 2 < 65536 → cell u.memory i ≡ w → cell u.memory w ≡ 77 → nat_lt 256 (length (65535 ∷ d)) ≡ false → Goes 1 (at u (1 ∷ d) i) f (at u (65535 ∷ d) j) f
goes_77_one u f d i j w q h c r g = rw q (goes_row u u f (1 ∷ d) (65535 ∷ d) i (i + 2) w 77 h (omega arith) c r refl (row_77_one (at u (1 ∷ d) (i + 2)) w d refl g))

pub goes_7 : (u : Whole) (f : Disk) (d : List ℕ) (i j w : ℕ) → i + 4 < 65536 → 0 < j → cell u.memory i ≡ w → cell u.memory w ≡ 7 → cell u.memory (i + 2) ≡ j → Goes 1 (at u d i) f (at u d j) f
goes_7 u f d i j w h p c r t = goes_row u u f d d i j w 7 (omega arith) p c r refl (row_7 (at u d (i + 2)) w ∙ rw t refl)

pub goes_15 : (u : Whole) (f : Disk) (d : List ℕ) (i j w x : ℕ) → j ≡ i + 2 → i + 2 < 65536 → cell u.memory i ≡ w → cell u.memory w ≡ 15 → Goes 1 (at u (x ∷ d) i) f (due u d j x) f
goes_15 u f d i j w x q h c r =
    goes_one (at u (x ∷ d) i) (due u d j x) f (stepped (at u (x ∷ d) i) (due u d j x) w 15 refl c r refl (rw (wrap_small (i + 2) h, q) (row_15 (at u (x ∷ d) (i + 2)) w x d refl))) (rw (not_zero j (omega arith)) refl)

-- the scan: (INTERPRET) leaves these cells, with what it asks
abbrev pub Scans : ℕ → ℕ → Whole → Disk → List ℕ → Whole → Disk → List ℕ → Type 0
Scans n a u f d v g e = Goes n (at u d a) f (at v e (a + 2)) g

-- a turn that compiled: (INTERPRET) ?DUP ?BRANCH 0> ?BRANCH BRANCH
pub turn_compiled : (ws : Words) (u v : Whole) (f g : Disk) (d : List ℕ) (a n : ℕ) → 0 < a → Thread ws v.memory a → Scans n a u f d v g (65535 ∷ d) → nat_lt 256 (length (65535 ∷ 65535 ∷ d)) ≡ false → nat_lt 256 (length (0 ∷ d)) ≡ false → Goes (n + 5) (at u d a) f (at v d a) g
turn_compiled ws u v f g d a n p y r h k = let w : a + 22 < 65536 = y.within in
    goes_on n 5 (at u d a) (at v (65535 ∷ d) (a + 2)) (at v d a) f g g r
    (goes_on 1 4 (at v (65535 ∷ d) (a + 2)) (at v (65535 ∷ 65535 ∷ d) (a + 4)) (at v d a) g g g (goes_39 v g d (a + 2) (a + 4) ws.query_dup 65535 (omega arith) (omega arith) y.c2 y.r2 refl h)
    (goes_on 1 3 (at v (65535 ∷ 65535 ∷ d) (a + 4)) (at v (65535 ∷ d) (a + 8)) (at v d a) g g g (goes_8 v g (65535 ∷ d) (a + 4) (a + 8) ws.zero_branch 65535 (omega arith) (omega arith) y.c4 y.r4 refl)
    (goes_on 1 2 (at v (65535 ∷ d) (a + 8)) (at v (0 ∷ d) (a + 10)) (at v d a) g g g (goes_77_minus v g d (a + 8) (a + 10) ws.zero_greater (omega arith) (omega arith) y.c8 y.r8 k)
    (goes_on 1 1 (at v (0 ∷ d) (a + 10)) (at v d (a + 16)) (at v d a) g g g (goes_8_zero v g d (a + 10) (a + 16) ws.zero_branch (omega arith) (omega arith) y.c10 y.r4 (rw (ten a) y.c12))
    (goes_7 v g d (a + 16) a ws.branch (omega arith) p y.c16 y.r16 (rw (sixteen a) y.c18))))))

-- a turn that executes a word by its row: (INTERPRET) ?DUP ?BRANCH 0> ?BRANCH EXECUTE w BRANCH
pub turn_executed : (ws : Words) (u v z : Whole) (f g : Disk) (d e : List ℕ) (a w n x : ℕ) → 0 < a → Thread ws v.memory a → Thread ws z.memory a → Scans x a u f d v g (1 ∷ w ∷ d) → cell v.memory w ≡ n → nat_lt n 256 ≡ true → row n w (at v d (a + 16)) ≡ (at z e (a + 16), Done) → nat_lt 256 (length (1 ∷ 1 ∷ w ∷ d)) ≡ false → nat_lt 256 (length (65535 ∷ w ∷ d)) ≡ false → Goes (x + 7) (at u d a) f (at z e a) g
turn_executed ws u v z f g d e a w n x p y s r c b q h k = let l : a + 22 < 65536 = y.within in
    goes_on x 7 (at u d a) (at v (1 ∷ w ∷ d) (a + 2)) (at z e a) f g g r
    (goes_on 1 6 (at v (1 ∷ w ∷ d) (a + 2)) (at v (1 ∷ 1 ∷ w ∷ d) (a + 4)) (at z e a) g g g (goes_39 v g (w ∷ d) (a + 2) (a + 4) ws.query_dup 1 (omega arith) (omega arith) y.c2 y.r2 refl h)
    (goes_on 1 5 (at v (1 ∷ 1 ∷ w ∷ d) (a + 4)) (at v (1 ∷ w ∷ d) (a + 8)) (at z e a) g g g (goes_8 v g (1 ∷ w ∷ d) (a + 4) (a + 8) ws.zero_branch 1 (omega arith) (omega arith) y.c4 y.r4 refl)
    (goes_on 1 4 (at v (1 ∷ w ∷ d) (a + 8)) (at v (65535 ∷ w ∷ d) (a + 10)) (at z e a) g g g (goes_77_one v g (w ∷ d) (a + 8) (a + 10) ws.zero_greater (omega arith) (omega arith) y.c8 y.r8 k)
    (goes_on 1 3 (at v (65535 ∷ w ∷ d) (a + 10)) (at v (w ∷ d) (a + 14)) (at z e a) g g g (goes_8 v g (w ∷ d) (a + 10) (a + 14) ws.zero_branch 65535 (omega arith) (omega arith) y.c10 y.r4 refl)
    (goes_on 1 2 (at v (w ∷ d) (a + 14)) (due v d (a + 16) w) (at z e a) g g g (goes_15 v g d (a + 14) (a + 16) ws.execute w (omega arith) (omega arith) y.c14 y.r14)
    (goes_on 1 1 (due v d (a + 16) w) (at z e (a + 16)) (at z e a) g g g (goes_due v z g d e (a + 16) (a + 16) w n (omega arith) c b q)
    (goes_7 z g e (a + 16) a ws.branch (omega arith) p s.c16 s.r16 (rw (sixteen a) s.c18))))))))

rounds_end : (k : ℕ) (s t : Whole) (d : Disk) → ticked s ≡ (running t, quiet) → is_ended t ≡ true → rounds (suc k) s d ≡ out t d k Ended
unfolding rounds
rounds_end k s t d e q = rw (e, q) refl

-- the screen's last turn: (INTERPRET) ?DUP ?BRANCH EXIT
pub turn_last : (ws : Words) (u v : Whole) (f g : Disk) (d : List ℕ) (a k n : ℕ) → 0 < a → Thread ws v.memory a → Scans n a u f d v g (0 ∷ d) → v.returns ≡ 0 ∷ [] → nat_lt 256 (length (0 ∷ d)) ≡ false → rounds (n + 2 + suc k) (at u d a) f ≡ out (record (at v d 0) { returns = [] }) g k Ended
turn_last ws u v f g d a k n p y r e h = let w : a + 22 < 65536 = y.within in
    let last : Goes (n + 2) (at u d a) f (at v d (a + 20)) g =
    goes_on n 2 (at u d a) (at v (0 ∷ d) (a + 2)) (at v d (a + 20)) f g g r
    (goes_on 1 1 (at v (0 ∷ d) (a + 2)) (at v (0 ∷ d) (a + 4)) (at v d (a + 20)) g g g (goes_39_zero v g d (a + 2) (a + 4) ws.query_dup (omega arith) (omega arith) y.c2 y.r2 h)
    (goes_8_zero v g d (a + 4) (a + 20) ws.zero_branch (omega arith) (omega arith) y.c4 y.r4 (rw (six a) y.c6))) in
    last (suc k) ∙ rounds_end k (at v d (a + 20)) (record (at v d 0) { returns = [] }) g (stepped (at v d (a + 20)) (record (at v d 0) { returns = [] }) ws.exit 5 refl y.c20 y.r20 refl (row_5 (record (at v d (a + 20)) { ip = wrap (a + 20 + 2) }) ws.exit 0 [] e)) refl

-- the first tick of a screen: INTERPRET's own token, entered with an empty return stack
pub goes_enter : (u : Whole) (f : Disk) (d : List ℕ) (w : ℕ) → u.returns ≡ [] → w + 2 < 65536 → cell u.memory w ≡ 1 → Goes 1 (due u d 0 w) f (record (at u d (w + 2)) { returns = 0 ∷ [] }) f
goes_enter u f d w e h c =
    goes_one (due u d 0 w) (record (at u d (w + 2)) { returns = 0 ∷ [] }) f (stepped_due (due u d 0 w) (record (at u d (w + 2)) { returns = 0 ∷ [] }) w 1 refl c refl (rw (row_1 (at u d 0) w e, wrap_small (w + 2) h) refl)) (rw (not_zero (w + 2) (omega arith)) refl)

few_is : (n : ℕ) → n ≤ 256 → nat_lt 256 n ≡ false
few_is n h = grind arith

-- the turns of a loop whose scan takes one tick
pub turn_six : (ws : Words) (u v : Whole) (f : Disk) (d : List ℕ) (a : ℕ) → 0 < a → Thread ws u.memory a → Thread ws v.memory a → length d ≤ 250 → row 149 ws.scan (at u d (a + 2)) ≡ (at v (65535 ∷ d) (a + 2), Done) → Goes 6 (at u d a) f (at v d a) f
turn_six ws u v f d a p x y l r = let w = x.within in turn_compiled ws u v f f d a 1 p y (goes_row u v f d (65535 ∷ d) a (a + 2) ws.scan 149 (omega arith) (omega arith) x.c0 x.r0 refl r) (few_is (length (65535 ∷ 65535 ∷ d)) (omega arith)) (few_is (length (0 ∷ d)) (omega arith))

pub turn_eight : (ws : Words) (u v z : Whole) (f : Disk) (d e : List ℕ) (a w n : ℕ) → 0 < a → Thread ws u.memory a → Thread ws v.memory a → Thread ws z.memory a → length d ≤ 250 → row 149 ws.scan (at u d (a + 2)) ≡ (at v (1 ∷ w ∷ d) (a + 2), Done) → cell v.memory w ≡ n → nat_lt n 256 ≡ true → row n w (at v d (a + 16)) ≡ (at z e (a + 16), Done) → Goes 8 (at u d a) f (at z e a) f
turn_eight ws u v z f d e a w n p x y s l r c b q = let k = x.within in turn_executed ws u v z f f d e a w n 1 p y s (goes_row u v f d (1 ∷ w ∷ d) a (a + 2) ws.scan 149 (omega arith) (omega arith) x.c0 x.r0 refl r) c b q (few_is (length (1 ∷ 1 ∷ w ∷ d)) (omega arith)) (few_is (length (65535 ∷ w ∷ d)) (omega arith))

pub turn_four : (ws : Words) (u v : Whole) (f : Disk) (d : List ℕ) (a k : ℕ) → 0 < a → Thread ws u.memory a → Thread ws v.memory a → length d ≤ 250 → row 149 ws.scan (at u d (a + 2)) ≡ (at v (0 ∷ d) (a + 2), Done) → v.returns ≡ 0 ∷ [] → rounds (3 + (k + 1)) (at u d a) f ≡ out (record (at v d 0) { returns = [] }) f k Ended
turn_four ws u v f d a k p x y l r e =
    let n : k + 1 ≡ suc k = omega arith in
    rw n (turn_last ws u v f f d a k 1 p y (goes_row u v f d (0 ∷ d) a (a + 2) ws.scan 149 (omega arith) (omega arith) x.c0 x.r0 refl r) e (few_is (length (0 ∷ d)) (omega arith)))

-- (INTERPRET) on a machine that reads a screen.

min_is : (p : ℕ) → p ≤ 1024 → min p 1024 ≡ p
min_is p h = omega arith

stream_is : (u : Whole) (b p : ℕ) (text : List ℕ) → Reading u b p text → stream_of u.memory u.buffers ≡ stream u b p
unfolding stream_at stream_size
stream_is u b p text r = rw (r.blk, r.some, r.place, min_is p r.within) refl

has : (u : Whole) (b p : ℕ) (text : List ℕ) → Reading u b p text → has_stream u ≡ true
unfolding has_stream has_block
has u b p text r = rw (r.blk, r.some, r.available, r.held) refl

still : (u : Whole) (b p : ℕ) (text : List ℕ) → Reading u b p text → with_stream u ≡ u
unfolding stream_buffers
still u b p text r = rw (r.blk, r.some, r.front) refl

-- the stream exists, whatever comes next
pub reads_here : (u : Whole) (b p : ℕ) (text : List ℕ) (after : Whole → Stream → After) → Reading u b p text → reads u after ≡ after u (stream u b p)
reads_here u b p text after r = grind (arith, has, stream_is, still)

pub word_here : (u : Whole) (b p : ℕ) (text : List ℕ) → Reading u b p text → name_word u.memory (stream u b p) ≡ next text p
unfolding word_in
word_here u b p text r = rw (r.there, min_is p r.within) refl

pub length_text : (u : Whole) (b p : ℕ) (text : List ℕ) → Reading u b p text → length text ≡ 1024
length_text u b p text r = grind (arith, length-bytes)

-- the bytes of a word of the stream
pub some_bytes : (u : Whole) (b p : ℕ) (text : List ℕ) (w : Word) → Reading u b p text → w.at + w.len ≤ 1024 → bytes_in u.memory (stream u b p) w ≡ bytes_of text w
unfolding bytes_in
some_bytes u b p text w r h = grind (arith, limit_is, bytes_part)

pub name_here : (u : Whole) (b p : ℕ) (text : List ℕ) → Reading u b p text → name_in u.memory (stream u b p) ≡ name text p
name_here u b p text r = grind (arith, length_text, word_law, word_here, some_bytes)

pub next_within : (text : List ℕ) (p : ℕ) → length text ≡ 1024 → p ≤ 1024 → (next text p).next ≤ 1024
next_within text p l h = grind arith

-- a name of the stream, whatever a row does with it
pub named_here : (u : Whole) (b p : ℕ) (text : List ℕ) (after : Whole → Word → List ℕ → After) → Reading u b p text
    → reads u (λ t st. after t (name_word t.memory st) (name_in t.memory st)) ≡ after u (next text p) (name text p)
named_here u b p text after r =
    reads_here u b p text (λ t st. after t (name_word t.memory st) (name_in t.memory st)) r
    ∙ ap (λ (w : Word). after u w (name_in u.memory (stream u b p))) (word_here u b p text r)
    ∙ ap (after u (next text p)) (name_here u b p text r)

-- what is before the next c
pub parsed_here : (u : Whole) (b p c : ℕ) (text : List ℕ) → Reading u b p text → parsed_in u.memory (stream u b p) c ≡ parsed text p c
unfolding parsed_in
parsed_here u b p c text r = rw (r.there, min_is p r.within) refl

pub parsed_within : (text : List ℕ) (p c : ℕ) → length text ≡ 1024 → p ≤ 1024 → ((parsed text p c).at + (parsed text p c).len ≤ 1024) × ((parsed text p c).next ≤ 1024)
parsed_within text p c l h = grind (arith, taken-parsed)

-- what (INTERPRET) does with a word and its bytes
abbrev pub takes : Whole → Word → List ℕ → After
takes t word name =
    if word.len == 0 then leaves_past t word (0 ∷ t.values)
    else searches t (sought t.memory name) (number_word t word name) (found_word t word)

pub scan : (u : Whole) (b p x : ℕ) (text : List ℕ) → Reading u b p text → row 149 x u ≡ takes u (next text p) (name text p)
unfolding row row_in input
scan u b p x text r = named_here u b p text takes r

-- if no word is left
pub takes_none : (t : Whole) (w : Word) (nm : List ℕ) → (w.len == 0) ≡ true → takes t w nm ≡ leaves_past t w (0 ∷ t.values)
takes_none t w nm e = rw e refl

-- a word that is executed, and one that is compiled
pub takes_executed : (t : Whole) (w : Word) (nm : List ℕ) (l : ℕ) → (w.len == 0) ≡ false → sought t.memory nm ≡ Found l → (is_immediate t.memory l || (cell t.memory 16 == 0)) ≡ true
    → takes t w nm ≡ leaves_past t w (1 ∷ compilation_address t.memory l ∷ t.values)
unfolding searches
takes_executed t w nm l e f i = rw (e, f) (rw i refl)

pub takes_compiled : (t : Whole) (w : Word) (nm : List ℕ) (l : ℕ) → (w.len == 0) ≡ false → sought t.memory nm ≡ Found l → (is_immediate t.memory l || (cell t.memory 16 == 0)) ≡ false
    → takes t w nm ≡ compiles_past t w (cell_bytes (compilation_address t.memory l))
unfolding searches
takes_compiled t w nm l e f i = rw (e, f) (rw i refl)

-- a number
pub takes_single : (t : Whole) (w : Word) (nm : List ℕ) → (w.len == 0) ≡ false → sought t.memory nm ≡ Nowhere → cell t.memory 18 ≡ 10 → is_number 10 nm ≡ true → is_double nm ≡ false → (cell t.memory 16 == 0) ≡ false
    → takes t w nm ≡ compiles_past t w (literal_code t.memory (number_value 10 nm % 65536))
unfolding searches has_base
takes_single t w nm e f b i d s = rw (e, f) (rw (b, i, d, s) refl)

pub takes_double : (t : Whole) (w : Word) (nm : List ℕ) → (w.len == 0) ≡ false → sought t.memory nm ≡ Nowhere → cell t.memory 18 ≡ 10 → is_number 10 nm ≡ true → is_double nm ≡ true → (cell t.memory 16 == 0) ≡ false
    → takes t w nm ≡ compiles_past t w (literal_code t.memory (number_value 10 nm % 65536) ++ literal_code t.memory (number_value 10 nm / 65536))
unfolding searches has_base
takes_double t w nm e f b i d s = rw (e, f) (rw (b, i, d, s) refl)

-- the buffers
pub victim_small : (b : List Entry) → AreBuffers b → (victim b).slot < length b
unfolding entry_at
victim_small b o = o.slots (length b - 1) (unassigned_slot 0) (last_place b o)

assigned_first : (u : ℕ) (b : List Entry) → (entry_at (assigned u b) 0).block ≡ Some u
unfolding entry_at assigned
assigned_first u b = refl

-- where the bytes of the victim's slot begin
pub victim_at : (b : List Entry) → AreBuffers b → (limit_of (length b) ≤ address_of b (victim b).slot) × (address_of b (victim b).slot ≤ 64512)
victim_at b o = omega (arith, victim_small, limit_is)

-- a page that was put into memory exists
page_put : (m bs : List ℕ) (at : ℕ) → length m ≡ 65536 → at ≤ 64512 → length bs ≡ 1024 → bytes (with_page m at bs) at 1024 ≡ bs
unfolding bytes with_page
page_put m bs at l h k =
    let A = take at m in
    let R = drop (at + 1024) m in
    let d : drop at (A ++ (bs ++ R)) ≡ bs ++ R = subst (λ (n : ℕ). drop n (A ++ (bs ++ R)) ≡ bs ++ R) (length-take-le at m (omega arith)) (drop-append_seam A (bs ++ R)) in
    rw d (rw (append_assoc bs R (A ++ (bs ++ R))) (subst (λ (n : ℕ). take n (bs ++ (R ++ (A ++ (bs ++ R)))) ≡ bs) k (take-append_seam bs (R ++ (A ++ (bs ++ R))))))

-- a screen that is in no buffer is asked for
pub scan_asks : (u : Whole) (b x : ℕ) → cell u.memory 22 ≡ b → (b == 0) ≡ false → nat_lt b u.block_count ≡ true → holds u.buffers b ≡ false → (victim u.buffers).updated ≡ false → row 149 x u ≡ (u, Ask (Read b))
unfolding row row_in input has_stream has_block without_block
scan_asks u b x e z c h v = rw (e, z, c, h, v) refl

-- once it is brought, the machine reads it
pub brought_reads : (u : Whole) (b p : ℕ) (text : List ℕ) → cell u.memory 22 ≡ b → (b == 0) ≡ false → nat_lt b u.block_count ≡ true → AreBuffers u.buffers → cell u.memory 20 ≡ p → p ≤ 1024 → length u.memory ≡ 65536 → length text ≡ 1024 → Reading (brought u b text) b p text
brought_reads u b p text e z c o q w l k =
    let es = assigned b u.buffers in
    let v : (victim u.buffers).slot < length u.buffers = victim_small u.buffers o in
    let at = address_of u.buffers (victim u.buffers).slot in
    let hi = (victim_at u.buffers o).1 in
    let least = limit_least (length u.buffers) o.count in
    let slot : slot_of es b ≡ (victim u.buffers).slot = slot_assigned b u.buffers in
    let size : length es ≡ length u.buffers = length-assigned b u.buffers o in
    let place : address_of es (slot_of es b) ≡ at = ap (λ (n : ℕ). limit_of n + 1024 * slot_of es b) size ∙ ap (λ (n : ℕ). limit_of (length u.buffers) + 1024 * n) slot in
    record {
      blk = cell_below u.memory text at 22 l hi (omega arith) ∙ e;
      some = z;
      available = c;
      held = holds_assigned b u.buffers;
      front = front_stays es b (are_assigned b u.buffers o) (assigned_first b u.buffers);
      count = subst (λ (n : ℕ). IsCount n) (sym size) o.count;
      slot = omega (arith, slot, size);
      there = ap (λ (n : ℕ). bytes (with_page u.memory at text) n 1024) place ∙ page_put u.memory text at l hi k;
      place = cell_below u.memory text at 20 l hi (omega arith) ∙ q;
      within = w;
      all = length-with_page u.memory text at l hi k;
    }

-- Turns of INTERPRET's loop on a machine that reads a screen.

pub room_is : (n : ℕ) → n ≤ 256 → nat_lt 256 n ≡ false
room_is n h = grind arith

-- it reads the same at any place of a thread, with any stack
pub reading_at : (u : Whole) (d : List ℕ) (i b p : ℕ) (text : List ℕ) → Reading u b p text → Reading (at u d i) b p text
reading_at u d i b p text r = record { blk = r.blk; some = r.some; available = r.available; held = r.held; front = r.front; count = r.count; slot = r.slot; there = r.there; place = r.place; within = r.within; all = r.all }

-- and if memory changed, but not the stream
pub reading_aside : {limit : ℕ} (u : Whole) (m : List ℕ) (b p q : ℕ) (text : List ℕ) → limit_of (length u.buffers) ≡ limit → Reading u b p text → KeepsStream limit u.memory m q → Reading (record u { memory = m }) b q text
reading_aside {limit} u m b p q text lm r s = search (arith, limit_is, bytes_by)

pub ready_aside : {limit : ℕ} (f : Disk) (u : Whole) (m : List ℕ) (b p q more : ℕ) → Ready limit f u b p more → KeepsStream limit u.memory m q → Ready limit f (record u { memory = m }) b q more
ready_aside {limit} f u m b p q more r s = search (arith, reading_aside, limit_is)

-- >IN moves
pub moves : {limit : ℕ} (m : List ℕ) (q : ℕ) → length m ≡ 65536 → MovesStream limit m (put_cell m 20 q)
moves {limit} m q l = record { all = length_cell m 20 q ∙ l; same = λ i a b. byte_cell m 20 q i (omega arith) (omega arith) (omega arith) }

-- the buffers begin far above the stream's cells
pub ready_least : {limit : ℕ} {f : Disk} {u : Whole} {b p more : ℕ} → Ready limit f u b p more → 256 ≤ limit
ready_least {limit} {f} {u} r = omega (arith, limit_least (length u.buffers) r.buffers.count, r.limit_is)

pub aside_moved : {limit : ℕ} (m : List ℕ) (q : ℕ) → 256 ≤ limit → length m ≡ 65536 → q ≤ 1024 → KeepsStream limit m (put_cell m 20 q) q
aside_moved {limit} m q least l h = search (arith, length_cell, cell_beside, cell_here, byte_cell)

pub aside_on : {limit : ℕ} (a b c : List ℕ) (p q : ℕ) → KeepsStream limit a b p → KeepsStream limit b c q → KeepsStream limit a c q
aside_on {limit} a b c p q x y = search (arith)

pub leaves_is : (t : Whole) (w : Word) (d : List ℕ) → length d ≤ 256 → leaves_past t w d ≡ (record t { values = d; memory = put_cell t.memory 20 w.next }, Done)
unfolding leaves_past room
leaves_is t w d h = rw (room_is (length d) h) refl

-- bytes are compiled
pub compiled : {limit : ℕ} (ws : Words) (a here : ℕ) (n : List ℕ) (voc : ℕ) (u : Whole) (f : Disk) (d bs : List ℕ) (b p : ℕ) (text : List ℕ) →
    let m = laid (put_cell u.memory 20 (next text p).next) bs in
    Sees limit ws a here n voc u.memory → Reading u b p text → length d ≤ 250 → takes (at u d (a + 2)) (next text p) (name text p) ≡ compiles_past (at u d (a + 2)) (next text p) bs → cell u.memory 28 + length bs ≤ limit_of (length u.buffers) → Thread ws m a
    → Goes 6 (at u d a) f (at (record u { memory = m }) d a) f
compiled {limit} ws a here n voc u f d bs b p text s r l e h t =
    let v : Whole = record u { memory = (laid (put_cell u.memory 20 ((next text p).next)) bs) } in
    let made : row 149 ws.scan (at u d (a + 2)) ≡ (at v (65535 ∷ d) (a + 2), Done) =
    scan (at u d (a + 2)) b p ws.scan text (reading_at u d (a + 2) b p text r) ∙ e ∙ compiles_past_is (at u d (a + 2)) (next text p) bs h (omega arith) in
    turn_compiled ws u v f f d a 1 (omega arith) t (goes_row u v f d (65535 ∷ d) a (a + 2) ws.scan 149 (omega arith) (omega arith) s.thread.c0 s.thread.r0 refl made) (room_is (length (65535 ∷ 65535 ∷ d)) (omega arith)) (room_is (length (0 ∷ d)) (omega arith))

-- a word is executed by its row
pub executed : {limit : ℕ} (ws : Words) (a here : ℕ) (n : List ℕ) (voc : ℕ) (u z : Whole) (f : Disk) (d e : List ℕ) (w k b p : ℕ) (text : List ℕ) →
    let v : Whole = record u { memory = put_cell u.memory 20 (next text p).next } in
    Sees limit ws a here n voc u.memory → Reading u b p text → length d ≤ 250 → takes (at u d (a + 2)) (next text p) (name text p) ≡ leaves_past (at u d (a + 2)) (next text p) (1 ∷ w ∷ d)
    → 34 ≤ w → w + 1 < 65536 → cell u.memory w ≡ k → nat_lt k 256 ≡ true → Thread ws v.memory a → Thread ws z.memory a → row k w (at v d (a + 16)) ≡ (at z e (a + 16), Done)
    → Goes 8 (at u d a) f (at z e a) f
executed {limit} ws a here n voc u z f d e w k b p text s r l g lo hi c y tv tz made =
    let q = (next text p).next in
    let v : Whole = record u { memory = put_cell u.memory 20 q } in
    let left : row 149 ws.scan (at u d (a + 2)) ≡ (at v (1 ∷ w ∷ d) (a + 2), Done) =
    scan (at u d (a + 2)) b p ws.scan text (reading_at u d (a + 2) b p text r) ∙ g ∙ leaves_is (at u d (a + 2)) (next text p) (1 ∷ w ∷ d) (omega arith) in
    let named : cell v.memory w ≡ k = cell_beside u.memory 20 q w (omega arith) (omega arith) (omega arith) (omega arith) (omega arith) ∙ c in
    turn_executed ws u v z f f d e a w k 1 (omega arith) tv tz (goes_row u v f d (1 ∷ w ∷ d) a (a + 2) ws.scan 149 (omega arith) (omega arith) s.thread.c0 s.thread.r0 refl left) named y made (room_is (length (1 ∷ 1 ∷ w ∷ d)) (omega arith)) (room_is (length (65535 ∷ w ∷ d)) (omega arith))

-- no word is left
pub ended_screen : {limit : ℕ} (ws : Words) (a here : ℕ) (n : List ℕ) (voc : ℕ) (u : Whole) (f : Disk) (d : List ℕ) (b p k : ℕ) (text : List ℕ) →
    let v : Whole = record u { memory = put_cell u.memory 20 (next text p).next } in
    Sees limit ws a here n voc u.memory → Reading u b p text → length d ≤ 250 → takes (at u d (a + 2)) (next text p) (name text p) ≡ leaves_past (at u d (a + 2)) (next text p) (0 ∷ d) → Thread ws v.memory a → u.returns ≡ 0 ∷ []
    → rounds (3 + suc k) (at u d a) f ≡ out (record (at v d 0) { returns = [] }) f k Ended
ended_screen {limit} ws a here n voc u f d b p k text s r l g tv ret =
    let v : Whole = record u { memory = put_cell u.memory 20 ((next text p).next) } in
    let left : row 149 ws.scan (at u d (a + 2)) ≡ (at v (0 ∷ d) (a + 2), Done) =
    scan (at u d (a + 2)) b p ws.scan text (reading_at u d (a + 2) b p text r) ∙ g ∙ leaves_is (at u d (a + 2)) (next text p) (0 ∷ d) (omega arith) in
    turn_last ws u v f f d a k 1 (omega arith) tv (goes_row u v f d (0 ∷ d) a (a + 2) ws.scan 149 (omega arith) (omega arith) s.thread.c0 s.thread.r0 refl left) ret (room_is (length (0 ∷ d)) (omega arith))

-- ticks that lead on
pub leads_by : (w n : ℕ) (s t : Whole) (f g : Disk) (b more : ℕ) → Goes n s f t g → Leads w (spot s f b more) (spot t g b more)
leads_by w n s t f g b more h = record { ticks = n; is = λ k. ap (λ o. then_screens w more (b + 1) o) (h (suc k)) }

pub leads_on : (w : ℕ) (s t u : Spot) → Leads w s t → Leads w t u → Leads w s u
leads_on w s t u x y = record {
  ticks = x.ticks + y.ticks;
  is = λ k.
      let e : x.ticks + y.ticks + suc k ≡ x.ticks + suc (y.ticks + k) = omega arith in
      let g : suc (y.ticks + k) ≡ y.ticks + suc k = omega arith in
      ap (λ i. then_screens w s.more (s.screen + 1) (rounds i s.parts s.disk)) e ∙ x.is (y.ticks + k) ∙ ap (λ i. then_screens w t.more (t.screen + 1) (rounds i t.parts t.disk)) g ∙ y.is k;
}

pub leads_none : (w : ℕ) (s : Spot) → Leads w s s
leads_none w s = record { ticks = 0; is = λ k. ap (λ i. then_screens w s.more (s.screen + 1) (rounds i s.parts s.disk)) (omega arith) }
