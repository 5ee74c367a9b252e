-- Registers that are put back.
use Rattle.std.proofs.Common.{◌≡◌, ℕ, suc, List, [], ◌∷◌, ◌++◌, Bool, length, take, drop, reverse, arith, inl, inr, refl, sym, ap, ◌∙◌, if◌then◌else◌}
use Rattle.std.specs.List.{flat_map}
use Rattle.std.proofs.Math.Seq.{take-append_seam, drop-append_seam}
use Rattle.std.proofs.lemmas.List.{length-reverse}
use Rattle.block_buffers.specs.declared.entry.Entry.{Entry}
use Rattle.machine.specs.State.{State}
use Rattle.machine.specs.Registers.{mark, registers_of, with_registers}
use Rattle.serving.specs.Registers.{IsMachine, IsPutBack, SharesMemory, cells_bytes, content_cells, entry_cells, front_of, register_cells}
use Rattle.serving.specs.Requests.{PutBack}
use Rattle.serving.specs.Served.{Served, Serves, resumed}
use Rattle.serving.specs.declared.state.Front.{Front}
use Rattle.serving.proofs.Restoring.{AreOf, cells_same, entries_read, entry_back, entry_read, front_read, made_is, returns_read, values_read}

-- four cells for each buffer, one way only
entries_same : (es fs : List Entry) → flat_map entry_cells es ≡ flat_map entry_cells fs → es ≡ fs
entries_same [] [] h = refl
entries_same [] (f ∷ fs) h = absurd (let n : 0 ≡ suc (suc (suc (suc (length (flat_map entry_cells fs))))) = ap length h in omega (arith, n))
entries_same (e ∷ es) [] h = absurd (let n : suc (suc (suc (suc (length (flat_map entry_cells es))))) ≡ 0 = ap length h in omega (arith, n))
entries_same (e ∷ es) (f ∷ fs) h =
    let same : e ≡ f = sym (entry_back e) ∙ entry_read e.slot (mark e.block).0 (mark e.block).1 (if e.updated then 1 else 0) (flat_map entry_cells es) (flat_map entry_cells fs) f h in
    let rest : es ≡ fs = entries_same es fs (ap (λ (l : List ℕ). drop 4 l) h) in
    rw (same, rest) refl

-- the registers of one machine, read as those of another
read_as : (u t : State) → register_cells u ≡ register_cells t → AreOf (front_of u) (content_cells u.parts) t
unfolding register_cells
read_as u t h = front_read (front_of u) (content_cells u.parts) t h

values_front : (u : State) → reverse u.parts.values ≡ take (length u.parts.values) (content_cells u.parts)
values_front u = sym (ap (λ k. take k (content_cells u.parts)) (sym (length-reverse u.parts.values)) ∙ take-append_seam (reverse u.parts.values) (reverse u.parts.returns ++ flat_map entry_cells u.parts.buffers))

values_after : (u : State) → drop (length u.parts.values) (content_cells u.parts) ≡ reverse u.parts.returns ++ flat_map entry_cells u.parts.buffers
values_after u = ap (λ k. drop k (content_cells u.parts)) (sym (length-reverse u.parts.values)) ∙ drop-append_seam (reverse u.parts.values) (reverse u.parts.returns ++ flat_map entry_cells u.parts.buffers)

returns_front : (u : State) → reverse u.parts.returns ≡ take (length u.parts.returns) (drop (length u.parts.values) (content_cells u.parts))
returns_front u = sym (ap (λ l. take (length u.parts.returns) l) (values_after u) ∙ ap (λ k. take k (reverse u.parts.returns ++ flat_map entry_cells u.parts.buffers)) (sym (length-reverse u.parts.returns)) ∙ take-append_seam (reverse u.parts.returns) (flat_map entry_cells u.parts.buffers))

same_registers : (u t : State) → register_cells u ≡ register_cells t → registers_of u ≡ registers_of t
same_registers u t h =
    let f : Front = front_of u in
    let rest : List ℕ = content_cells u.parts in
    let a : AreOf f rest t = read_as u t h in
    let o : AreOf f rest u = read_as u u refl in
    let buffers : u.parts.buffers ≡ t.parts.buffers = entries_same u.parts.buffers t.parts.buffers (sym (entries_read f rest u o) ∙ entries_read f rest t a) in
    sym (made_is f rest u u.parts.values u.parts.returns u.parts.buffers o refl refl refl)
    ∙ made_is f rest t u.parts.values u.parts.returns u.parts.buffers a (values_read f rest t u.parts.values a (values_front u)) (returns_read f rest t u.parts.returns a (returns_front u)) buffers

-- what was given of a machine, put back, is that machine
pub kept : (count : ℕ) (s t : State) (whole : Bool) (r : Served) → IsMachine t → SharesMemory s t → Serves count s (PutBack (cells_bytes (register_cells t))) whole r → r ≡ resumed t
kept count s t whole r m h (inl p) =
    let k : IsPutBack s (cells_bytes (register_cells t)) p.0 = p.1 in
    let same : registers_of p.0 ≡ registers_of t = same_registers p.0 t (sym (cells_same (register_cells t) (register_cells p.0) k.registers)) in
    p.2 ∙ ap resumed (k.shares.same ∙ ap (with_registers s) same ∙ sym h.same)
kept count s t whole r m h (inr p) = absurd (p.0 t (record { machine = m; shares = h; registers = refl }))
