use Rattle.memory.specs.Mirrored.{stored}
use Rattle.std.proofs.Common.{rules, ◌≡◌, ◌∙◌, ap, sym, true, List, ℕ}
use Rattle.metacompiler.specs.Residency.{passes}
use Rattle.metacompiler.proofs.Residence.{resident_of}
use Rattle.metacompiler.proofs.checking.is_resident.Goals as goal

pub returns : goal.returns
returns c = λ t.
    let m = (stored c.args.memory.now) in
    let word = c.in-Ok-Some.word in
    let hs = c.push_all.new.headers.items in
    let test : passes m c.args.limit word hs ≡ true = sym (c.passes.ensures ∙ ap (λ (xs : List ℕ). passes m c.args.limit word xs) c.as_slice.ensures.value) ∙ t in
    resident_of m c.args.limit word hs (search rules) (c.in_ok-push_all.ensures c.if-not-branch.false) test
