-- The whole table, row by row: what each asks of its device, leaves of the buffers, and keeps where it stops.
use Rattle.std.proofs.Common.{◌≡◌, ℕ, ◌==◌, ◌||◌, List, [], ◌∷◌, Option, None, nat_lt, length, slice_index, take, drop, Bool, true, false, inl, inr, arith, refl, rules, if◌then◌else◌}
use Rattle.std.proofs.lemmas.Bool.{cases_lt}
use Rattle.block_buffers.specs.Entries.{address_of, holds, slot_of, victim, assigned, unassigned}
use Rattle.input_source.specs.declared.words.Word.{Word}
use Rattle.memory.specs.Bytes.{Write}
use Rattle.machine_parts.specs.Whole.{Whole}
use Rattle.machine_parts.specs.Row.{After, done, fault, takes1}
use Rattle.machine_parts.proofs.Shapes.{by_if, by_room_or, by_takes1}
use Rattle.machine_parts.proofs.Takes.{takes2_none, takes2_deep}
use Rattle.stacks.specs.Cells.{◌▸◌}
use Rattle.plain_rows.proofs.Plain.{plain_control, plain_stack, plain_cells, plain_doubles, plain_memory}
use Rattle.primitives.specs.Blocks.{referenced, fetches}
use Rattle.primitives.specs.Needs.{reads_stream, is_about_screen, needed}
use Rattle.primitives.specs.Devices.{saves_victim}
use Rattle.primitives.specs.DictionaryRows.{leaves_past, creates}
use Rattle.primitives.specs.Interpret.{compiles_past}
use Rattle.primitives.specs.Defining.{lays_past}
use Rattle.primitives.specs.Compiling.{compiles, resolves}
use Rattle.primitives.proofs.Behaves.{Behaves, behaves, behaves_fault, behaves_key, behaves_line, behaves_done, behaves_if, behaves_fetches, behaves_saves_victim, behaves_saves, behaves_plain, missing, given, saved, orderly_assigned, orderly_moved, orderly_unassigned}
use Rattle.primitives.specs.Devices.{block as row_112, buffer as row_113, save_buffers as row_115, flush as row_116, key as row_118, expect as row_119}
use Rattle.plain_rows.proofs.Tables.{Each, by_rows, of_parts}
use Rattle.primitives.specs.Table.{device_rows, devices, number_rows, numbers, input_rows, input, compiling_rows, compiling, editor_rows, editor, row}

-- what row n asks of its device at most
unfoldable pub asks : ℕ → Whole → Option After
asks n s = if n == 113 then given s else if (n == 115) || (n == 116) then saved s else missing (needed n s) s

pub behaves_leaves_past : (m : Option After) (s : Whole) (w : Word) (d : List ℕ) → Behaves m s (leaves_past s w d)
unfolding leaves_past
behaves_leaves_past m s w d = search (rules, behaves)

pub behaves_creates : (m : Option After) (s : Whole) (w : Word) (name : List ℕ) (hidden : Bool) (code : ℕ) (extra : List ℕ) (more : List Write) (d : List ℕ) → Behaves m s (creates s w name hidden code extra more d)
unfolding creates
behaves_creates m s w name hidden code extra more d = search (rules, behaves)

pub behaves_compiles_past : (m : Option After) (s : Whole) (w : Word) (bs : List ℕ) → Behaves m s (compiles_past s w bs)
unfolding compiles_past
behaves_compiles_past m s w bs = search (rules, behaves)

pub behaves_lays_past : (m : Option After) (s : Whole) (w : Word) (bs : List ℕ) → Behaves m s (lays_past s w bs)
unfolding lays_past
behaves_lays_past m s w bs = search (rules, behaves)

pub behaves_compiles : (m : Option After) (s : Whole) (bs d : List ℕ) → Behaves m s (compiles s bs d)
unfolding compiles
behaves_compiles m s bs d = search (rules, behaves)

pub behaves_resolves : (m : Option After) (s : Whole) (bs : List ℕ) (a : ℕ) (d : List ℕ) → Behaves m s (resolves s bs a d)
unfolding resolves
behaves_resolves m s bs a d = search (rules, behaves)

ruleset more = (behaves_leaves_past, behaves_creates, behaves_compiles_past, behaves_lays_past, behaves_compiles, behaves_resolves)

behaves_112 : (s : Whole) → Behaves (missing (take 1 s.values) s) s (row_112 s)
unfolding takes1
behaves_112 s = by_values s.values where
  by_values : (v : List ℕ) → Behaves (missing (take 1 v) s) s (elim v [ (u ∷ d) ↦ fetches s u (λ t slot. done (record t { values = address_of t.buffers slot ∷ d })) | _ ↦ fault s 1 ])
  by_values [] = behaves_fault (missing [] s) s 1
  by_values (u ∷ d) =
      behaves_fetches [] s u (λ t slot. done (record t { values = address_of t.buffers slot ∷ d }))
      (λ slot. behaves_done (missing [] (referenced s u)) (referenced s u) (record (referenced s u) { values = address_of (referenced s u).buffers slot ∷ d }) (λ k. k))

behaves_113 : (s : Whole) → Behaves (given s) s (row_113 s)
behaves_113 s =
    by_takes1 (Behaves (given s) s) s _ (behaves_fault (given s) s 1)
    (λ u d. behaves_if (given s) s (nat_lt u s.block_count) _ _ (by_held u d (holds s.buffers u) refl) (behaves_fault (given s) s 7)) where
      by_held : (u : ℕ) (d : List ℕ) (b : Bool) → holds s.buffers u ≡ b → Behaves (given s) s (if b then done (record (referenced s u) { values = address_of s.buffers (slot_of s.buffers u) ∷ d }) else saves_victim s (done (record s { values = address_of s.buffers (victim s.buffers).slot ∷ d; buffers = assigned u s.buffers })))
      by_held u d true q =
          behaves_done (given s) s (record (referenced s u) { values = address_of s.buffers (slot_of s.buffers u) ∷ d }) (orderly_moved (slot_of s.buffers u) s.buffers)
      by_held u d false q =
          behaves_saves_victim s (done (record s { values = address_of s.buffers (victim s.buffers).slot ∷ d; buffers = assigned u s.buffers }))
          (behaves_done None s (record s { values = address_of s.buffers (victim s.buffers).slot ∷ d; buffers = assigned u s.buffers }) (orderly_assigned u s.buffers q))

behaves_115 : (s : Whole) → Behaves (saved s) s (row_115 s)
behaves_115 s = behaves_saves s (done s) (behaves_done None s s (λ k. k))

behaves_116 : (s : Whole) → Behaves (saved s) s (row_116 s)
behaves_116 s = behaves_saves s (done (record s { buffers = unassigned s.buffers })) (behaves_done None s (record s { buffers = unassigned s.buffers }) (orderly_unassigned s.buffers))

behaves_118 : (m : Option After) (s : Whole) → Behaves m s (row_118 s)
behaves_118 m s = by_room_or (Behaves m s) s (s.values ▸ 0) _ (behaves_fault m s 2) (λ few. behaves_key m s (omega (arith, few)))

behaves_119 : (m : Option After) (s : Whole) → Behaves m s (row_119 s)
behaves_119 m s = elim (cases_lt (length s.values) 2) [
  | inl shallow ↦ rw (takes2_none s _ shallow) (behaves_fault m s 1)
  | inr deep ↦ rw (takes2_deep s _ deep) (by_if (Behaves m s) (slice_index s.values 0 == 0) _ _ (behaves_done m s _ (λ k. k)) (behaves_line m s (slice_index s.values 0) deep))
]

all_devices : (s : Whole) → Each (λ n. Behaves (asks n s) s) device_rows s
unfolding Each asks needed reads_stream is_about_screen
all_devices s = (behaves_112 s, (behaves_113 s, (search (rules, behaves, more) depth 9, (behaves_115 s, (behaves_116 s, (search (rules, behaves, more) depth 9, (behaves_118 (asks 118 s) s, (behaves_119 (asks 119 s) s, (search (rules, behaves, more) depth 9, search (rules, behaves, more) depth 9)))))))))

behaves_devices : (n : ℕ) (s : Whole) → Behaves (asks n s) s (devices n s)
unfolding devices
behaves_devices n s = by_rows (λ n. Behaves (asks n s) s) device_rows n s (all_devices s) (λ k. behaves_fault (asks k s) s 6)

all_numbers : (s : Whole) → Each (λ n. Behaves (asks n s) s) number_rows s
unfolding Each asks needed reads_stream is_about_screen
all_numbers s = search (rules, behaves, more) depth 9

behaves_numbers : (n : ℕ) (s : Whole) → Behaves (asks n s) s (numbers n s)
unfolding numbers
behaves_numbers n s = by_rows (λ n. Behaves (asks n s) s) number_rows n s (all_numbers s) (λ k. behaves_fault (asks k s) s 6)

all_input : (s : Whole) → Each (λ n. Behaves (asks n s) s) input_rows s
unfolding Each asks needed reads_stream is_about_screen
all_input s = search (rules, behaves, more) depth 9

behaves_input : (n : ℕ) (s : Whole) → Behaves (asks n s) s (input n s)
unfolding input
behaves_input n s = by_rows (λ n. Behaves (asks n s) s) input_rows n s (all_input s) (λ k. behaves_fault (asks k s) s 6)

all_compiling : (s : Whole) → Each (λ n. Behaves (asks n s) s) compiling_rows s
unfolding Each asks needed reads_stream is_about_screen
all_compiling s = of_parts (λ n. Behaves (asks n s) s) 12 compiling_rows s (search (rules, behaves, more) depth 9) (of_parts (λ n. Behaves (asks n s) s) 10 (drop 12 compiling_rows) s (search (rules, behaves, more) depth 9) (search (rules, behaves, more) depth 9))

behaves_compiling : (n : ℕ) (s : Whole) → Behaves (asks n s) s (compiling n s)
unfolding compiling
behaves_compiling n s = by_rows (λ n. Behaves (asks n s) s) compiling_rows n s (all_compiling s) (λ k. behaves_fault (asks k s) s 6)

all_editor : (s : Whole) → Each (λ n. Behaves (asks n s) s) editor_rows s
unfolding Each asks needed reads_stream is_about_screen
all_editor s = search (rules, behaves, more) depth 9

behaves_editor : (n : ℕ) (s : Whole) → Behaves (asks n s) s (editor n s)
unfolding editor
behaves_editor n s = by_rows (λ n. Behaves (asks n s) s) editor_rows n s (all_editor s) (λ k. behaves_fault (asks k s) s 6)

-- the whole table
pub behaves_row : (n w : ℕ) (s : Whole) → Behaves (asks n s) s (row n w s)
unfolding row
behaves_row n w s =
    by_if P (nat_lt n 32) _ _ (behaves_plain m s _ (plain_control n w s))
    (by_if P (nat_lt n 48) _ _ (behaves_plain m s _ (plain_stack n s))
    (by_if P (nat_lt n 80) _ _ (behaves_plain m s _ (plain_cells n s))
    (by_if P (nat_lt n 96) _ _ (behaves_plain m s _ (plain_doubles n s))
    (by_if P (nat_lt n 112) _ _ (behaves_plain m s _ (plain_memory n s))
    (by_if P (nat_lt n 128) _ _ (behaves_devices n s)
    (by_if P (nat_lt n 144) _ _ (behaves_numbers n s)
    (by_if P (nat_lt n 160) _ _ (behaves_input n s)
    (by_if P (nat_lt n 200) _ _ (behaves_compiling n s)
    (behaves_editor n s))))))))) where
      m : Option After
      m = asks n s

      P : After → Type 0
      P = Behaves m s
