use Rattle.std.proofs.lemmas.Result.{err_from_is_err_and}
use Rattle.source_words.specs.Scanned.{source_word}
use Rattle.image_builder.specs.Places.{place}
use Rattle.image_builder.proofs.Screens.{word_taken, word_refused}
use Rattle.image_builder.proofs.reading.Compilation.read.Goals as goal

pub returns-in_err-self : goal.returns-in_err-self
returns-in_err-self c = λ limit front h.
    let q = err_from_is_err_and c.from_residual.result c.from_residual.ensures.1 in
    rw (q.1, q.2) (word_refused c.args.self.now c.read_word.new.b c.replace-begun.result front (source_word c.args.word) (place c.spot_of.result) _ h c.spot_of.ensures c.replace-begun.ensures.value
    (λ t ws after stage s i. c.in_err-self.ensures t ws after stage s i))

pub returns : goal.returns
returns c = λ limit front h.
    word_taken c.args.self.now (record { build = c.read_word.new.b; begun = c.in_ok-self.field-0 }) c.replace-begun.result front (source_word c.args.word) (place c.spot_of.result) h c.spot_of.ensures c.replace-begun.ensures.value
    (λ t ws after stage s i. c.in_ok-self.ensures t ws after stage s i)
