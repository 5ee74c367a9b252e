use Rattle.std.proofs.Common.{arith}
use Rattle.containers.proofs.Places.{readable, byte_small, byte_inside}
use Rattle.containers.proofs.reading.gathered.Goals as goal

pub capacity-byte-end-requires : goal.capacity-byte-end-requires
capacity-byte-end-requires c = (readable c.args.layout.now c.args.container.now c.requires).small

pub place-place-requires : goal.place-place-requires
place-place-requires c = byte_small c.args.layout.now c.args.container.now c.loop-byte.byte c.requires (omega (arith, c.capacity-byte-end.ensures))

pub bounds-container-place : goal.bounds-container-place
bounds-container-place c = byte_inside c.args.layout.now c.args.container.now c.loop-byte.byte _ c.place-place.ensures.sound c.requires (omega (arith, c.capacity-byte-end.ensures)) c.place-place.ensures.value
