use Rattle.std.proofs.Common.{◌≡◌, ◌∙◌, ◌*◌, ◌-◌, ◌+◌, ◌++◌, replicate, length, ap, refl, arith}
use Rattle.containers.specs.Containers.{blank_sectors, tracks_for, new_container}
use Rattle.containers.proofs.Returning.{blanks_more, blanks_end}
use Rattle.containers.proofs.writing.new_container.Goals as goal

pub loop-at-preserved : goal.loop-at-preserved
loop-at-preserved c =
    let n : c.tracks_for.result * c.count.result ≡ tracks_for c.args.layout.now c.args.bytes * length c.args.layout.now.order = rw (c.tracks_for.ensures.value, c.count.ensures.value) refl in
    let more = blanks_more c.args.layout.now c.loop-at.container.items (replicate c.args.layout.now.sector 32 ++ c.args.layout.now.ending) (new_container c.args.layout.now c.args.bytes) c.loop-at.at (tracks_for c.args.layout.now c.args.bytes * length c.args.layout.now.order) (omega arith) c.loop-at.invariant refl in
    ap (λ xs. xs ++ blank_sectors c.args.layout.now (tracks_for c.args.layout.now c.args.bytes * length c.args.layout.now.order - (c.loop-at.at + 1))) c.in_ok-push_blank_sector.ensures ∙ more

pub returns : goal.returns
returns c =
    let n : c.tracks_for.result * c.count.result ≡ tracks_for c.args.layout.now c.args.bytes * length c.args.layout.now.order = rw (c.tracks_for.ensures.value, c.count.ensures.value) refl in
    blanks_end c.args.layout.now c.loop-at.container.items (new_container c.args.layout.now c.args.bytes) c.loop-at.at (tracks_for c.args.layout.now c.args.bytes * length c.args.layout.now.order) (omega arith) c.loop-at.invariant
