use Rattle.std.proofs.Common.{◌<◌, ◌≤◌, sym, ◌∙◌, subst, refl, ap, inl, inr, length, arith, Some}
use Rattle.block_buffers.proofs.Likeness.{none_like, none_made, read_like, read_told}
use Rattle.source_words.specs.Words.{screen_words}
use Rattle.image_builder.specs.ReadScreens.{TakesAll}
use Rattle.image_builder.proofs.Screens.{asked_then, held_after, read_done, read_failed, screen_taken}
use Rattle.image_builder.proofs.reading.read_screen.Goals as goal

pub returns-clause-taken : goal.returns-clause-taken
returns-clause-taken g c = λ d e did limit front h.
    let t = read_told d e _ c.args.screen c.read.new.page c.read.result _ _ c.read.ensures.logged did in
    let x = read_done d c.args.screen c.read.result c.read.new.page (Some e) (g.D.Device.calls c.args.device.now) (g.D.Device.calls c.read.new.self) (sym c.is_err.ensures.value ∙ c.if-is_err.false) t c.read.ensures.logged in
    screen_taken d c.args.screen c.args.mode front c.read_words.result c.args.compilation.now c.read_words.new.compilation _ h x.0
    (subst (λ p. TakesAll limit c.args.mode front (screen_words c.args.mode c.args.screen p) c.read_words.result c.read_words.new.compilation) x.1 (c.read_words.ensures limit front h))

pub returns-clause-held : goal.returns-clause-held
returns-clause-held g c = held_after c.args.mode (screen_words c.args.mode c.args.screen c.read.new.page) c.read_words.result c.args.compilation.now c.read_words.new.compilation c.requires c.read_words.ensures

pub returns-clause-like : goal.returns-clause-like
returns-clause-like g c = grind (arith, read_like)

pub returns-clause-asked : goal.returns-clause-asked
returns-clause-asked g c = asked_then c.args.screen _ c.read_words.result c.read.new.page c.read.result _ _ (omega (arith, c.count-count.ensures.value, c.if-from-count.false, c.from.ensures)) (sym c.is_err.ensures.value ∙ c.if-is_err.false) c.read.ensures.logged

pub returns-then-is_err-clause-taken : goal.returns-then-is_err-clause-taken
returns-then-is_err-clause-taken g c = λ d e did limit front h.
    let t = read_told d e _ c.args.screen c.read.new.page c.read.result _ _ c.read.ensures.logged did in
    let less : c.args.screen < length d.blocks = omega (arith, did.count_is, c.count-count.ensures.value, c.if-from-count.false, c.from.ensures) in
    (refl, h, inl (read_failed d c.args.screen c.read.result c.read.new.page (Some e) (g.D.Device.calls c.args.device.now) (g.D.Device.calls c.read.new.self) (sym c.is_err.ensures.value ∙ c.if-is_err.true) less t c.read.ensures.logged))

pub returns-then-is_err-clause-like : goal.returns-then-is_err-clause-like
returns-then-is_err-clause-like g c = grind (arith, read_like)

pub returns-then-from-count-clause-taken : goal.returns-then-from-count-clause-taken
returns-then-from-count-clause-taken g c = λ d e did limit front h.
    let past : length d.blocks ≤ c.args.screen = omega (arith, did.count_is, c.count-count.ensures.value, c.if-from-count.true, c.from.ensures) in
    (refl, h, inr (record { past = past; disk = ap Some (none_made d e _ _ did); failures = refl }))

pub returns-then-from-count-clause-like : goal.returns-then-from-count-clause-like
returns-then-from-count-clause-like g c = grind (arith, none_like)
