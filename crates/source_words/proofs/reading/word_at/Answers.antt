use Rattle.std.proofs.Common.{◌<◌, drop, arith, sym, ◌∙◌}
use Rattle.source_words.specs.Words.{before}
use Rattle.source_words.proofs.Enclosures.{with_text, without_text, word_long}
use Rattle.source_words.proofs.reading.word_at.Goals as goal

pub returns-then-has_text-clause-left : goal.returns-then-has_text-clause-left
returns-then-has_text-clause-left c =
    with_text c.args.mode c.args.screen c.args.text.now c.args.start c.find-end.result c.enclosed-next.result.1 c.enclosed-next.result.0.now c.requires.within
    c.requires.begins
    c.requires.plain
    c.find-end.ensures.value
    (sym c.has_text.ensures ∙ c.if-has_text.true)
    c.enclosed-next.ensures.bytes
    c.enclosed-next.ensures.next

pub returns-then-has_text-clause-further : goal.returns-then-has_text-clause-further
returns-then-has_text-clause-further c =
    let some : 0 < before 32 (drop c.args.start c.args.text.now) = word_long c.args.text.now c.args.start c.requires.within c.requires.begins in
    (omega arith, omega arith)

pub returns-clause-left : goal.returns-clause-left
returns-clause-left c =
    without_text c.args.mode c.args.screen c.args.text.now c.args.start c.find-end.result c.requires.within c.requires.begins c.requires.plain c.find-end.ensures.value
    (sym c.has_text.ensures ∙ c.if-has_text.false)

pub returns-clause-further : goal.returns-clause-further
returns-clause-further c =
    let some : 0 < before 32 (drop c.args.start c.args.text.now) = word_long c.args.text.now c.args.start c.requires.within c.requires.begins in
    (omega arith, omega arith)
