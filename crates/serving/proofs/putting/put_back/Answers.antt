use Rattle.std.proofs.Common.{◌≡◌, ◌∙◌, arith, ap, length, refl, sym}
use Rattle.machine.specs.Registers.{with_registers}
use Rattle.serving.specs.Registers.{register_cells}
use Rattle.serving.proofs.Restoring.{cells_same, few_registers}
use Rattle.serving.proofs.putting.put_back.Goals as goal

pub returns-in_default-clause-no : goal.returns-in_default-clause-no
returns-in_default-clause-no c = λ _ t k. c.in_default.ensures (register_cells t) (few_registers t k.machine) k.registers

pub returns-in_default-registers_in-clause-no : goal.returns-in_default-registers_in-clause-no
returns-in_default-registers_in-clause-no c = λ _ t k.
    c.in_default-registers_in.ensures.none t k.machine (omega (arith, k.shares.count, c.count.ensures.value, ap length c.buffers.ensures))
    (c.as_slice.ensures.value ∙ cells_same c.in-Some.cells.items (register_cells t) (sym c.in-Some.ensures ∙ k.registers))

pub returns-clause-no : goal.returns-clause-no
returns-clause-no c = λ _ t k.
    let same : c.in-Some.cells.items ≡ register_cells t = cells_same c.in-Some.cells.items (register_cells t) (sym c.in-Some.ensures ∙ k.registers) in
    let back : t ≡ c.replace_registers-own.new.self = k.shares.same ∙ ap (with_registers c.args.machine.now) (sym (c.in-Some-registers_in.ensures.some t (c.as_slice.ensures.value ∙ same))) ∙ sym c.replace_registers-own.ensures.put in
    c.if-are_registers.ensures.no refl (c.as_slice-2.ensures.value ∙ same ∙ ap register_cells back)
