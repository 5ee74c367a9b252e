use Rattle.std.proofs.Common.{◌<◌, length, arith}
use Rattle.containers.specs.Layouts.{place}
use Rattle.containers.proofs.Places.{byte_small, byte_inside}
use Rattle.containers.proofs.Returning.{Writable, one_more, writable}
use Rattle.containers.proofs.writing.put.Goals as goal

pub place-place-requires : goal.place-place-requires
place-place-requires c =
    let w : Writable c.args.layout.now c.args.screens.now c.args.container.now = writable c.args.layout.now c.args.screens.now c.args.container.now c.requires in
    byte_small c.args.layout.now c.args.container.now c.loop-index.index w.read (let f = w.fits in omega arith)

pub bounds-container-place : goal.bounds-container-place
bounds-container-place c =
    let w : Writable c.args.layout.now c.args.screens.now c.args.container.now = writable c.args.layout.now c.args.screens.now c.args.container.now c.requires in
    let i : c.place-place.result < length c.args.container.now = byte_inside c.args.layout.now c.args.container.now c.loop-index.index _ c.place-place.ensures.sound w.read (let f = w.fits in omega arith) c.place-place.ensures.value in
    let s = c.loop-index.invariant.size in
    omega arith

pub loop-index-preserved : goal.loop-index-preserved
loop-index-preserved c =
    let w : Writable c.args.layout.now c.args.screens.now c.args.container.now = writable c.args.layout.now c.args.screens.now c.args.container.now c.requires in
    let s = c.loop-index.invariant.size in
    let i : place c.args.layout.now c.loop-index.index < length c.loop-index.container = (let b : c.place-place.result < length c.args.container.now = byte_inside c.args.layout.now c.args.container.now c.loop-index.index _ c.place-place.ensures.sound w.read (let f = w.fits in omega arith) c.place-place.ensures.value in omega (arith, c.place-place.ensures.value)) in
    rw c.place-place.ensures.value (one_more c.args.layout.now c.loop-index.index c.args.screens.now c.args.container.now c.loop-index.container c.place-place.ensures.sound c.loop-index.invariant i)
