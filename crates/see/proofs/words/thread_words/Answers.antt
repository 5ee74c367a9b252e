use Rattle.std.proofs.Common.{map, ap, ◌∙◌, arith}
use Rattle.std.specs.Prelude.{slice_index}
use Rattle.see.specs.Parts.{token_in}
use Rattle.colon_bodies.proofs.Taking.{false_test}
use Rattle.see.proofs.Showing.{found_in, thread_compiles, shown, plainly}
use Rattle.see.proofs.words.thread_words.Goals as goal

pub returns-then-not-find-clause-complete : goal.returns-then-not-find-clause-complete
returns-then-not-find-clause-complete c = λ a d h.
    absurd (let f = c.find.ensures.found d (found_in (slice_index c.args.runtime.now) c.args.at c.args.bytes.now d a h) in let o = f.0 in let z = c.if-not-find.true in cc)

pub returns-then-not-are_plain-clause-complete : goal.returns-then-not-are_plain-clause-complete
returns-then-not-are_plain-clause-complete c = λ a d h.
    let f = c.find.ensures.found d (found_in (slice_index c.args.runtime.now) c.args.at c.args.bytes.now d a h) in
    absurd (false_test _ _ c.are_plain.ensures c.if-not-are_plain.true (plainly (slice_index c.args.runtime.now) d _ h.plain (ap (map (token_in c.args.bytes.now)) c.deref.ensures.value ∙ f.1)))

pub returns-clause-sound : goal.returns-clause-sound
returns-clause-sound c = grind (arith, shown)

pub returns-clause-complete : goal.returns-clause-complete
returns-clause-complete c = λ a d h.
    let f = c.find.ensures.found d (found_in (slice_index c.args.runtime.now) c.args.at c.args.bytes.now d a h) in
    (c.makes.ensures.no d (thread_compiles (slice_index c.args.runtime.now) c.args.at 65535 c.args.bytes.now d (omega (arith, c.requires.reach)) h) (ap (map (token_in c.args.bytes.now)) c.deref-2.ensures.value ∙ f.1) h.is, f.1)

pub returns-clause-kept : goal.returns-clause-kept
returns-clause-kept c = λ n r.
    let k = c.find.ensures.kept n r in
    record { words = k.words; begins = k.begins; frames = k.frames; whole = k.whole; image = omega (arith, k.image, c.makes.ensures.kept.0); marks = omega (arith, k.marks, c.makes.ensures.kept.1) }
