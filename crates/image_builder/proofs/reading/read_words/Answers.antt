use Rattle.std.proofs.Common.{arith}
use Rattle.std.proofs.lemmas.Result.{err_from_is_err_and}
use Rattle.source_words.specs.Words.{screen_words}
use Rattle.source_words.specs.Scanned.{source_word}
use Rattle.image_builder.proofs.Screens.{none_taken, one_taken, one_refused, all_taken, held_midway}
use Rattle.image_builder.proofs.reading.read_words.Goals as goal

pub loop-word-init : goal.loop-word-init
loop-word-init c = grind (arith, none_taken)

pub loop-word-preserved : goal.loop-word-preserved
loop-word-preserved c = λ limit.
    one_taken c.args.mode (screen_words c.args.mode c.args.screen c.args.text.now) (source_word c.in-Some.word) c.args.compilation.now c.loop-word.compilation c.read.new.self
    c.loop-word.scanner
    c.next.new.self
    (c.loop-word.invariant limit)
    c.in-Some.ensures.left
    c.in-Some.ensures.mode
    (c.in_ok-read.ensures limit)

pub returns-in_err-read : goal.returns-in_err-read
returns-in_err-read c = λ limit.
    let q = err_from_is_err_and c.from_residual.result c.from_residual.ensures.1 in
    rw (q.1, q.2) (one_refused c.args.mode (screen_words c.args.mode c.args.screen c.args.text.now) (source_word c.in-Some.word) c.args.compilation.now c.loop-word.compilation
    c.loop-word.scanner
    c.next.new.self
    c.in_err-read.field-0.0
    (c.loop-word.invariant limit)
    c.in-Some.ensures.left
    (c.in_err-read.ensures limit))

pub returns : goal.returns
returns c = λ limit.
    rw c.mode.ensures (all_taken c.args.mode (screen_words c.args.mode c.args.screen c.args.text.now) c.args.compilation.now c.loop-word.compilation c.loop-word.scanner c.next.new.self
    (c.loop-word.invariant limit)
    c.in_default.ensures.left
    c.in_default.ensures.mode)

pub read-requires : goal.read-requires
read-requires c = held_midway c.args.mode (screen_words c.args.mode c.args.screen c.args.text.now) c.args.compilation.now c.loop-word.compilation c.loop-word.scanner c.requires.held c.loop-word.invariant
