-- Registers, read from their cells.
use Rattle.std.proofs.Common.{◌≡◌, ◌≢◌, ℕ, suc, ◌+◌, ◌*◌, ◌/◌, ◌%◌, ◌<◌, ◌≤◌, ◌==◌, List, [], ◌∷◌, ◌++◌, Option, Some, None, Bool, true, false, length, take, drop, reverse, arith, refl, sym, ap, ◌∙◌, append-nil, append_assoc, get_or, if◌then◌else◌}
use Rattle.std.specs.List.{flat_map}
use Rattle.std.proofs.Math.Seq.{take-append_seam, drop-append_seam}
use Rattle.std.proofs.lemmas.List.{length-append, length-reverse, reverse-reverse, take_all, take_more}
use Rattle.std.proofs.lemmas.Grind.{reverse_onto}
use Rattle.std.proofs.lemmas.List.Concat.{flat_map-append}
use Rattle.memory.specs.Bytes.{cell_bytes}
use Rattle.block_buffers.specs.declared.entry.Entry.{Entry}
use Rattle.machine_parts.specs.declared.parts.Request.{Request}
use Rattle.machine_parts.specs.declared.parts.Request.TheVariants as request
use Rattle.machine.specs.declared.act.Cause.{Cause}
use Rattle.machine.specs.declared.act.Cause.TheVariants as cause
use Rattle.machine.specs.declared.registers.Registers.{Registers}
use Rattle.machine.specs.State.{State}
use Rattle.machine.specs.Registers.{halt_numbers, halt_of, mark, marked, registers_of, wait_numbers, wait_of}
use Rattle.serving.specs.Registers.{IsMachine, cells_bytes, content_cells, entry_cells, front_cells, front_of, register_cells}
use Rattle.serving.specs.Requests.{cell_in}
use Rattle.serving.specs.declared.state.Front.{Front}
use Rattle.serving.proofs.Spelling.{two}
use Rattle.serving.proofs.States.{cells_length}

-- bytes are the cells of one list only
pub cells_same : (xs ys : List ℕ) → cells_bytes xs ≡ cells_bytes ys → xs ≡ ys
unfolding cell_bytes
cells_same [] [] h = refl
cells_same [] (y ∷ ys) h = absurd (let n : 0 ≡ suc (suc (length (cells_bytes ys))) = ap length h in omega (arith, n))
cells_same (x ∷ xs) [] h = absurd (let n : suc (suc (length (cells_bytes xs))) ≡ 0 = ap length h in omega (arith, n))
cells_same (x ∷ xs) (y ∷ ys) h =
    let low : x % 256 ≡ y % 256 = ap (λ (l : List ℕ). get_or l 0 0) h in
    let high : x / 256 ≡ y / 256 = ap (λ (l : List ℕ). get_or l 1 0) h in
    let same : x ≡ y = omega (arith, low, high) in
    let rest : xs ≡ ys = cells_same xs ys (ap (λ (l : List ℕ). drop 2 l) h) in
    rw (same, rest) refl

-- cells of the first bytes, and then the next
pub bytes_more : (i : ℕ) (bytes cells : List ℕ) (x : ℕ) → get_or bytes (2 * i) 0 < 256 → 2 * i + 1 < length bytes → x ≡ cell_in bytes (2 * i) → cells_bytes cells ≡ take (2 * i) bytes → cells_bytes (cells ++ x ∷ []) ≡ take (2 * (i + 1)) bytes
bytes_more i bytes cells x low some is h =
    let a : ℕ = get_or bytes (2 * i) 0 in
    let b : ℕ = get_or bytes (2 * i + 1) 0 in
    let k : 2 * (i + 1) ≡ 2 * i + 1 + 1 = omega arith in
    let one : take (2 * i + 1) bytes ≡ take (2 * i) bytes ++ a ∷ [] = take_more bytes (2 * i) 0 (omega (arith, some)) in
    let both : take (2 * i + 1 + 1) bytes ≡ take (2 * i + 1) bytes ++ b ∷ [] = take_more bytes (2 * i + 1) 0 some in
    let cell : cell_bytes x ≡ a ∷ b ∷ [] = ap cell_bytes is ∙ sym (two a b low) in
    flat_map-append cell_bytes cells (x ∷ []) ∙ ap (λ l. cells_bytes cells ++ l) (append-nil (cell_bytes x) ∙ cell) ∙ ap (λ l. l ++ a ∷ b ∷ []) h
    ∙ sym (ap (λ n. take n bytes) k ∙ both ∙ ap (λ l. l ++ b ∷ []) one ∙ append_assoc (take (2 * i) bytes) (a ∷ []) (b ∷ []))

-- all of them, if their number is even
pub all_bytes : (i : ℕ) (bytes cells : List ℕ) → i ≡ length bytes / 2 → length bytes % 2 ≡ 0 → cells_bytes cells ≡ take (2 * i) bytes → bytes ≡ cells_bytes cells
all_bytes i bytes cells e even h = sym (h ∙ take_all (2 * i) bytes (omega (arith, e, even)))

pub odd_bytes : (bytes cells : List ℕ) → length bytes % 2 ≢ 0 → bytes ≢ cells_bytes cells
odd_bytes bytes cells odd e = odd (let n : length bytes ≡ 2 * length cells = ap length e ∙ cells_length cells in omega (arith, n))

pub many_bytes : (bytes cells : List ℕ) → 1174 < length bytes → length cells ≤ 587 → bytes ≢ cells_bytes cells
many_bytes bytes cells many few e = let n : length bytes ≡ 2 * length cells = ap length e ∙ cells_length cells in omega (arith, n, many, few)

-- one more cell on a stack
pub stack_more : (i : ℕ) (cells stack : List ℕ) (x : ℕ) → i < length cells → x ≡ get_or cells i 0 → reverse stack ≡ take i cells → reverse (x ∷ stack) ≡ take (i + 1) cells
stack_more i cells stack x some is h = reverse_onto stack x [] ∙ ap (λ l. l ++ x ∷ []) h ∙ ap (λ v. take i cells ++ v ∷ []) is ∙ sym (take_more cells i 0 some)

-- the numbers of what may exist
pub marked_back : (x : Option ℕ) → marked (mark x).0 (mark x).1 ≡ x
marked_back None = refl
marked_back (Some x) = refl

pub wait_back : (w : Option (Request × ℕ)) → wait_of (wait_numbers w).0 (wait_numbers w).1 (wait_numbers w).2 ≡ w
wait_back None = refl
wait_back (Some (request.Key, t)) = refl
wait_back (Some (request.Line n, t)) = refl
wait_back (Some (request.Read u, t)) = refl
wait_back (Some (request.Write u, t)) = refl

pub halt_back : (h : Option Cause) → halt_of (halt_numbers h).0 (halt_numbers h).1 ≡ h
halt_back None = refl
halt_back (Some cause.Bye) = refl
halt_back (Some cause.InputEnded) = refl
halt_back (Some cause.InputFault) = refl
halt_back (Some (cause.Fault f)) = refl

updated_back : (u : Bool) → ((if u then 1 else 0) == 1) ≡ u
updated_back true = refl
updated_back false = refl

-- the entry that four cells say
abbrev pub entry_said : (slot has block updated : ℕ) → Entry
entry_said slot has block updated = record { slot = slot; block = marked has block; updated = updated == 1 }

pub entry_back : (e : Entry) → entry_said e.slot (mark e.block).0 (mark e.block).1 (if e.updated then 1 else 0) ≡ e
entry_back e = rw (marked_back e.block, updated_back e.updated) refl

pub entry_read : (slot has block updated : ℕ) (rest more : List ℕ) (e : Entry) → slot ∷ has ∷ block ∷ updated ∷ rest ≡ entry_cells e ++ more → entry_said slot has block updated ≡ e
entry_read slot has block updated rest more e h =
    let a : slot ≡ e.slot = ap (λ (l : List ℕ). get_or l 0 0) h in
    let b : has ≡ (mark e.block).0 = ap (λ (l : List ℕ). get_or l 1 0) h in
    let c : block ≡ (mark e.block).1 = ap (λ (l : List ℕ). get_or l 2 0) h in
    let d : updated ≡ (if e.updated then 1 else 0) = ap (λ (l : List ℕ). get_or l 3 0) h in
    rw (a, b, c, d) (entry_back e)

entries_length : (es : List Entry) → length (flat_map entry_cells es) ≡ 4 * length es
entries_length [] = refl
entries_length (e ∷ es) = omega (arith, entries_length es)

-- no entry was left
pub none_added : (cells : List ℕ) (es old : List Entry) → length cells < 4 → cells ≡ flat_map entry_cells es → old ≡ old ++ es
none_added cells [] old h e = sym (append-nil old)
none_added cells (x ∷ es) old h e = let n : length cells ≡ length (flat_map entry_cells (x ∷ es)) = ap length e in absurd (omega (arith, h, n, entries_length es))

-- one more entry was read
pub one_added : (cells rest : List ℕ) (es old mid new : List Entry) (x : Entry) → 4 ≤ length cells → rest ≡ drop 4 cells → x ≡ entry_said (get_or cells 0 0) (get_or cells 1 0) (get_or cells 2 0) (get_or cells 3 0) → mid ≡ old ++ x ∷ [] → ((fs : List Entry) → rest ≡ flat_map entry_cells fs → new ≡ mid ++ fs) → cells ≡ flat_map entry_cells es → new ≡ old ++ es
one_added cells rest [] old mid new x some r said k f h = let n : length cells ≡ 0 = ap length h in absurd (omega (arith, some, n))
one_added cells rest (e ∷ es) old mid new x some r said k f h =
    let a : get_or cells 0 0 ≡ e.slot = ap (λ (l : List ℕ). get_or l 0 0) h in
    let b : get_or cells 1 0 ≡ (mark e.block).0 = ap (λ (l : List ℕ). get_or l 1 0) h in
    let c : get_or cells 2 0 ≡ (mark e.block).1 = ap (λ (l : List ℕ). get_or l 2 0) h in
    let d : get_or cells 3 0 ≡ (if e.updated then 1 else 0) = ap (λ (l : List ℕ). get_or l 3 0) h in
    let all : entry_said (get_or cells 0 0) (get_or cells 1 0) (get_or cells 2 0) (get_or cells 3 0) ≡ e = rw (a, b, c, d) (entry_back e) in
    let same : x ≡ e = said ∙ all in
    f es (r ∙ ap (λ (l : List ℕ). drop 4 l) h) ∙ ap (λ l. l ++ es) k ∙ append_assoc old (x ∷ []) es ∙ ap (λ v. old ++ v ∷ es) same

pub contents_length : (t : State) → length (content_cells t.parts) ≡ length t.parts.values + (length t.parts.returns + 4 * length t.parts.buffers)
contents_length t =
    length-append (reverse t.parts.values) (reverse t.parts.returns ++ flat_map entry_cells t.parts.buffers)
    ∙ omega (arith, length-reverse t.parts.values, length-reverse t.parts.returns, entries_length t.parts.buffers, length-append (reverse t.parts.returns) (flat_map entry_cells t.parts.buffers))

pub registers_length : (t : State) → length (register_cells t) ≡ 11 + length (content_cells t.parts)
unfolding register_cells
registers_length t = length-append (front_cells (front_of t)) (content_cells t.parts)

pub few_registers : (t : State) → IsMachine t → length (register_cells t) ≤ 587
few_registers t m = omega (arith, registers_length t, contents_length t, m.values, m.returns, m.buffers.count)

-- these numbers and cells are the registers of a machine
pub record AreOf (f : Front) (rest : List ℕ) (t : State) : Type 0 where
  pub ip : f.ip ≡ t.parts.ip
  pub pending : marked f.has_pending f.pending ≡ t.parts.pending
  pub wait : wait_of f.asks f.asked f.token ≡ t.wait
  pub halt : halt_of f.halts f.fault ≡ t.halt
  pub values : f.values ≡ length t.parts.values
  pub returns : f.returns ≡ length t.parts.returns
  pub buffers : f.buffers ≡ length t.parts.buffers
  pub contents : rest ≡ content_cells t.parts

pub front_read : (f : Front) (rest : List ℕ) (t : State) → front_cells f ++ rest ≡ register_cells t → AreOf f rest t
unfolding register_cells
front_read f rest t h =
    let a : f.has_pending ≡ (mark t.parts.pending).0 = ap (λ (l : List ℕ). get_or l 1 0) h in
    let b : f.pending ≡ (mark t.parts.pending).1 = ap (λ (l : List ℕ). get_or l 2 0) h in
    let c : f.asks ≡ (wait_numbers t.wait).0 = ap (λ (l : List ℕ). get_or l 3 0) h in
    let d : f.asked ≡ (wait_numbers t.wait).1 = ap (λ (l : List ℕ). get_or l 4 0) h in
    let e : f.token ≡ (wait_numbers t.wait).2 = ap (λ (l : List ℕ). get_or l 5 0) h in
    let i : f.halts ≡ (halt_numbers t.halt).0 = ap (λ (l : List ℕ). get_or l 6 0) h in
    let j : f.fault ≡ (halt_numbers t.halt).1 = ap (λ (l : List ℕ). get_or l 7 0) h in
    record {
      ip = ap (λ (l : List ℕ). get_or l 0 0) h;
      pending = rw (a, b) (marked_back t.parts.pending);
      wait = rw (c, d, e) (wait_back t.wait);
      halt = rw (i, j) (halt_back t.halt);
      values = ap (λ (l : List ℕ). get_or l 8 0) h;
      returns = ap (λ (l : List ℕ). get_or l 9 0) h;
      buffers = ap (λ (l : List ℕ). get_or l 10 0) h;
      contents = ap (λ (l : List ℕ). drop 11 l) h;
    }

pub too_few : (t : State) (cells : List ℕ) → length cells < 11 → cells ≢ register_cells t
too_few t cells h e = let n : length cells ≡ 11 + length (content_cells t.parts) = ap length e ∙ registers_length t in omega (arith, h, n)

pub sizes_are : (f : Front) (cells : List ℕ) (t : State) (count : ℕ) → IsMachine t → length t.parts.buffers ≡ count → cells ≡ front_cells f ++ drop 11 cells → cells ≡ register_cells t → (f.values ≤ 256) × (f.returns ≤ 256) × (length cells ≡ 11 + f.values + f.returns + 4 * count)
sizes_are f cells t count m k e h =
    let a : AreOf f (drop 11 cells) t = front_read f (drop 11 cells) t (sym e ∙ h) in
    let n : length cells ≡ 11 + length (content_cells t.parts) = ap length h ∙ registers_length t in
    (omega (arith, a.values, m.values), omega (arith, a.returns, m.returns), omega (arith, n, contents_length t, a.values, a.returns, k))

-- a stack of these cells
stack_read : (n : ℕ) (stack other : List ℕ) (cells more : List ℕ) → reverse other ≡ take n (cells ++ more) → cells ≡ reverse stack → n ≡ length stack → other ≡ stack
stack_read n stack other cells more h c e =
    let m : n ≡ length (reverse stack) = e ∙ sym (length-reverse stack) in
    let same : reverse other ≡ reverse stack = h ∙ ap (λ l. take n (l ++ more)) c ∙ ap (λ k. take k (reverse stack ++ more)) m ∙ take-append_seam (reverse stack) more in
    sym (reverse-reverse other) ∙ ap (λ l. reverse l) same ∙ reverse-reverse stack

after : (n : ℕ) (stack more : List ℕ) → n ≡ length stack → drop n (reverse stack ++ more) ≡ more
after n stack more e =
    let m : n ≡ length (reverse stack) = e ∙ sym (length-reverse stack) in
    ap (λ k. drop k (reverse stack ++ more)) m ∙ drop-append_seam (reverse stack) more

pub values_read : (f : Front) (rest : List ℕ) (t : State) (values : List ℕ) → AreOf f rest t → reverse values ≡ take f.values rest → values ≡ t.parts.values
values_read f rest t values a h = stack_read f.values t.parts.values values (reverse t.parts.values) (reverse t.parts.returns ++ flat_map entry_cells t.parts.buffers) (h ∙ ap (λ l. take f.values l) a.contents) refl a.values

others : (f : Front) (rest : List ℕ) (t : State) → AreOf f rest t → drop f.values rest ≡ reverse t.parts.returns ++ flat_map entry_cells t.parts.buffers
others f rest t a = ap (λ l. drop f.values l) a.contents ∙ after f.values t.parts.values (reverse t.parts.returns ++ flat_map entry_cells t.parts.buffers) a.values

pub returns_read : (f : Front) (rest : List ℕ) (t : State) (returns : List ℕ) → AreOf f rest t → reverse returns ≡ take f.returns (drop f.values rest) → returns ≡ t.parts.returns
returns_read f rest t returns a h = stack_read f.returns t.parts.returns returns (reverse t.parts.returns) (flat_map entry_cells t.parts.buffers) (h ∙ ap (λ l. take f.returns l) (others f rest t a)) refl a.returns

pub entries_read : (f : Front) (rest : List ℕ) (t : State) → AreOf f rest t → drop f.returns (drop f.values rest) ≡ flat_map entry_cells t.parts.buffers
entries_read f rest t a = ap (λ l. drop f.returns l) (others f rest t a) ∙ after f.returns t.parts.returns (flat_map entry_cells t.parts.buffers) a.returns

-- the registers that these numbers, stacks and buffers make
abbrev pub made : Front → (values returns : List ℕ) → List Entry → Registers
made f values returns buffers = record {
  values = values;
  returns = returns;
  ip = f.ip;
  pending = marked f.has_pending f.pending;
  buffers = buffers;
  wait = wait_of f.asks f.asked f.token;
  halt = halt_of f.halts f.fault;
}

pub made_is : (f : Front) (rest : List ℕ) (t : State) (values returns : List ℕ) (buffers : List Entry) → AreOf f rest t → values ≡ t.parts.values → returns ≡ t.parts.returns → buffers ≡ t.parts.buffers → made f values returns buffers ≡ registers_of t
made_is f rest t values returns buffers a v r b = rw (a.ip, a.pending, a.wait, a.halt, v, r, b) refl
