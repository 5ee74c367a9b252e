use Rattle.std.proofs.Common.{◌∙◌}
use Rattle.image_builder.specs.Spelled.{all_placed}
use Rattle.image_builder.specs.Sources.{source_of}
use Rattle.image_builder.proofs.Screens.{held_building, is_read, stopped_refused, ended_refused, built_of, refused_by, built_of_read, refused_at_once}
use Rattle.block_buffers.proofs.Likeness.{like_none}
use Rattle.image_builder.proofs.building.build.Goals as goal

pub returns-in-Err-read_screens-clause-refused : goal.returns-in-Err-read_screens-clause-refused
returns-in-Err-read_screens-clause-refused g c = λ d e did. rw c.refusal.ensures (refused_by _ _ d c.args.from c.args.to _ _ (c.in-Ok.ensures.limit ∙ c.limit_of.ensures.value) (stopped_refused d c.args.from c.args.to c.in-Err-read_screens.stop _ (c.in-Err-read_screens.ensures.taken d e did)))

pub end-requires : goal.end-requires
end-requires g c = held_building c.read_screens.new.compilation c.in_default.ensures.held

pub returns-in-Ok-end-clause-built : goal.returns-in-Ok-end-clause-built
returns-in-Ok-end-clause-built g c = λ d e did.
    let h = c.in_default.ensures.taken d e did in
    let s = all_placed (source_of d c.args.from c.args.to) in
    rw (c.new.ensures.buffers, c.new.ensures.entry, c.new.ensures.bytes) (built_of c.args.count d c.args.from c.args.to c.read_screens.new.compilation c.in-Ok-end.bytes.items c.in-Ok-end.entry _ (c.in-Ok.ensures.limit ∙ c.limit_of.ensures.value) h (c.in-Ok-end.ensures.built c.in-Ok.compilation.build.limit s (is_read c.read_screens.new.compilation (source_of d c.args.from c.args.to) h.took)))

pub returns-clause-refused : goal.returns-clause-refused
returns-clause-refused g c = λ d e did.
    let h = c.in_default.ensures.taken d e did in
    let s = all_placed (source_of d c.args.from c.args.to) in
    rw c.refusal-in-Err-end.ensures (refused_by _ _ d c.args.from c.args.to _ _ (c.in-Ok.ensures.limit ∙ c.limit_of.ensures.value) (ended_refused d c.args.from c.args.to c.read_screens.new.compilation c.in-Err-end.fault _ h c.in-Err-end.ensures.kind (c.in-Err-end.ensures.refused c.in-Ok.compilation.build.limit s (is_read c.read_screens.new.compilation (source_of d c.args.from c.args.to) h.took))))

pub returns-in-Err-clause-like : goal.returns-in-Err-clause-like
returns-in-Err-clause-like g c = λ d e. like_none d _ _ _ _ c.count.ensures.value c.count.ensures.told e

pub returns-in-Err-clause-refused : goal.returns-in-Err-clause-refused
returns-in-Err-clause-refused g c = λ d e did. refused_at_once d e _ _ c.args.from c.args.to _ did

pub returns-in-Ok-end-clause-read : goal.returns-in-Ok-end-clause-read
returns-in-Ok-end-clause-read g c =
    rw (c.new.ensures.buffers, c.new.ensures.entry, c.new.ensures.bytes)
    (built_of_read c.args.count _ c.args.from c.args.to c.read_screens.new.compilation c.in-Ok-end.bytes.items c.in-Ok-end.entry _ _ (c.in-Ok.ensures.limit ∙ c.limit_of.ensures.value) c.in_default.ensures.read c.in_default.ensures.taken
    (λ s r. c.in-Ok-end.ensures.built c.in-Ok.compilation.build.limit s r))
