use Rattle.std.proofs.Common.{inr, ◌++◌, ◌∷◌, suc, map, take, drop, sym, ap, ◌∙◌, arith, add-one}
use Rattle.std.specs.Prelude.{slice_index}
use Rattle.colon_bodies.specs.Tokens.{SEMI, laid_by}
use Rattle.see.specs.Parts.{token_in}
use Rattle.see.specs.declared.parts.Part.TheVariants as part
use Rattle.colon_bodies.specs.declared.words.BodyWord.TheVariants as w
use Rattle.colon_bodies.proofs.Whole.{cut, more, done_length, all_done, map_length, starts, goes_on, fronts, word_faults, ends}
use Rattle.colon_bodies.proofs.Room.{jump_room, progress_length, bytes_fit}
use Rattle.see.proofs.thread.compile.Goals as goal

pub loop-i-init : goal.loop-i-init
loop-i-init c =
    let b = c.clear.ensures.blank in
    record {
      read = starts (slice_index c.args.runtime.now) c.args.at c.args.limit _ c.requires.start b.0 b.1 b.2 b.3;
      kept = (omega (arith, c.clear.ensures.room.0), omega (arith, c.clear.ensures.room.1));
    }

pub loop-i-preserved : goal.loop-i-preserved
loop-i-preserved c =
    let p = c.loop-i.invariant.read in
    let lt = c.loop-i-test.true in
    let k = c.loop-i.invariant.kept in
    let n = c.in_default.ensures.kept in
    record {
      read = rw (add-one, more (token_in c.args.bytes.now) c.args.words.now c.loop-i.i (part.Word (w.Name 0)) lt, sym c.word_in-word.ensures) (goes_on (slice_index c.args.runtime.now) c.args.at c.args.limit _ _ _ _ p (c.in_default.ensures.taken p.outer p.body p.half p.is p.shallow));
      kept = (omega (arith, k.0, n.0), omega (arith, k.1, n.1));
    }

pub returns-in-Ok-clause-compiled : goal.returns-in-Ok-clause-compiled
returns-in-Ok-clause-compiled c =
    let p = c.loop-i.invariant.read in
    let lt = c.loop-i-test.true in
    ends (slice_index c.args.runtime.now) c.args.at c.args.limit _ _ _ _ c.loop-i.i _ _ p
    (cut (token_in c.args.bytes.now) c.args.words.now c.loop-i.i (part.Word (w.Name 0)) lt ∙ ap (λ v. map (token_in c.args.bytes.now) (take c.loop-i.i c.args.words.now) ++ v ∷ map (token_in c.args.bytes.now) (drop (suc c.loop-i.i) c.args.words.now)) (sym c.word_in-word.ensures)) (sym (done_length (token_in c.args.bytes.now) c.args.words.now c.loop-i.i (omega arith)))
    (c.is_semicolon.ensures.0 c.if-is_semicolon.true)
    (c.in-Ok.ensures.ended (slice_index c.args.runtime.now) p.outer p.body p.half (sym c.cell_of.ensures) p.is p.shallow)

pub returns-in-Err-clause-refused : goal.returns-in-Err-clause-refused
returns-in-Err-clause-refused c =
    let p = c.loop-i.invariant.read in
    let lt = c.loop-i-test.true in
    word_faults (slice_index c.args.runtime.now) c.args.at c.args.limit _ _ _ SEMI c.loop-i.i _ _ p
    ((cut (token_in c.args.bytes.now) c.args.words.now c.loop-i.i (part.Word (w.Name 0)) lt ∙ ap (λ v. map (token_in c.args.bytes.now) (take c.loop-i.i c.args.words.now) ++ v ∷ map (token_in c.args.bytes.now) (drop (suc c.loop-i.i) c.args.words.now)) (sym c.word_in-word.ensures)) ∙ ap (λ v. map (token_in c.args.bytes.now) (take c.loop-i.i c.args.words.now) ++ v ∷ map (token_in c.args.bytes.now) (drop (suc c.loop-i.i) c.args.words.now)) (c.is_semicolon.ensures.0 c.if-is_semicolon.true)) (sym (done_length (token_in c.args.bytes.now) c.args.words.now c.loop-i.i (omega arith)))
    (c.in-Err.ensures.ended (slice_index c.args.runtime.now) p.outer p.body p.half (sym c.cell_of.ensures) p.is p.shallow)

pub returns-in-Err-take_word-clause-refused : goal.returns-in-Err-take_word-clause-refused
returns-in-Err-take_word-clause-refused c =
    let p = c.loop-i.invariant.read in
    let lt = c.loop-i-test.true in
    word_faults (slice_index c.args.runtime.now) c.args.at c.args.limit _ _ _ _ c.loop-i.i _ _ p
    (cut (token_in c.args.bytes.now) c.args.words.now c.loop-i.i (part.Word (w.Name 0)) lt ∙ ap (λ v. map (token_in c.args.bytes.now) (take c.loop-i.i c.args.words.now) ++ v ∷ map (token_in c.args.bytes.now) (drop (suc c.loop-i.i) c.args.words.now)) (sym c.word_in-word.ensures)) (sym (done_length (token_in c.args.bytes.now) c.args.words.now c.loop-i.i (omega arith)))
    (c.in-Err-take_word.ensures.taken p.outer p.body p.half p.is p.shallow)

pub returns-clause-refused : goal.returns-clause-refused
returns-clause-refused c =
    let p = c.loop-i.invariant.read in
    let e = all_done (token_in c.args.bytes.now) c.args.words.now c.loop-i.i c.loop-i-test.false in
    let q = rw e at p in
    (sym (map_length (token_in c.args.bytes.now) c.args.words.now), fronts (slice_index c.args.runtime.now) c.args.at c.args.limit _ _ q)

pub take_word-requires-clause-jump : goal.take_word-requires-clause-jump
take_word-requires-clause-jump c =
    let p = c.loop-i.invariant.read in
    jump_room c.args.at c.args.limit _ _ _ _ _ (inr c.requires.jumps) p.room (progress_length (slice_index c.args.runtime.now) c.args.at c.args.limit _ _ p) (cut (token_in c.args.bytes.now) c.args.words.now c.loop-i.i (part.Word (w.Name 0)) c.loop-i-test.true ∙ ap (λ v. map (token_in c.args.bytes.now) (take c.loop-i.i c.args.words.now) ++ v ∷ map (token_in c.args.bytes.now) (drop (suc c.loop-i.i) c.args.words.now)) (sym c.word_in-word.ensures))

pub returns-in-Err-clause-shallow : goal.returns-in-Err-clause-shallow
returns-in-Err-clause-shallow c = λ bytes _.
    let p = c.loop-i.invariant.read in
    let e = (cut (token_in c.args.bytes.now) c.args.words.now c.loop-i.i (part.Word (w.Name 0)) c.loop-i-test.true ∙ ap (λ v. map (token_in c.args.bytes.now) (take c.loop-i.i c.args.words.now) ++ v ∷ map (token_in c.args.bytes.now) (drop (suc c.loop-i.i) c.args.words.now)) (sym c.word_in-word.ensures)) in
    let fit = bytes_fit (slice_index c.args.runtime.now) c.args.at c.args.limit _ _ _ _ _ _ p e bytes in
    c.in-Err.ensures.room (omega (arith, fit, ap laid_by (c.is_semicolon.ensures.0 c.if-is_semicolon.true), c.loop-i.invariant.kept.0))

pub returns-in-Err-take_word-clause-shallow : goal.returns-in-Err-take_word-clause-shallow
returns-in-Err-take_word-clause-shallow c = λ bytes marks.
    let p = c.loop-i.invariant.read in
    let lt = c.loop-i-test.true in
    let e = (cut (token_in c.args.bytes.now) c.args.words.now c.loop-i.i (part.Word (w.Name 0)) lt ∙ ap (λ v. map (token_in c.args.bytes.now) (take c.loop-i.i c.args.words.now) ++ v ∷ map (token_in c.args.bytes.now) (drop (suc c.loop-i.i) c.args.words.now)) (sym c.word_in-word.ensures)) in
    let fit = bytes_fit (slice_index c.args.runtime.now) c.args.at c.args.limit _ _ _ _ _ _ p e bytes in
    c.in-Err-take_word.ensures.room (omega (arith, fit, c.loop-i.invariant.kept.0)) (λ _ less. omega (arith, less, marks, c.loop-i.invariant.kept.1))
