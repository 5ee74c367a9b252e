use Rattle.std.proofs.Common.{arith}
use Rattle.image_builder.specs.Names.{entry}
use Rattle.image_builder.proofs.Making.{found_fits}
use Rattle.image_builder.proofs.items.record_of_name.Goals as goal

pub overflow_add-result : goal.overflow_add-result
overflow_add-result c = let f = found_fits c.args.b.now c.requires c.as_slice.result.now c.args.w.name.now (entry c.in-Some.e) c.as_slice.ensures.value c.in-Some.ensures in omega (arith, f.1)

pub overflow_cast-result : goal.overflow_cast-result
overflow_cast-result c = let f = found_fits c.args.b.now c.requires c.as_slice.result.now c.args.w.name.now (entry c.in-Some.e) c.as_slice.ensures.value c.in-Some.ensures in omega (arith, f.0)

pub overflow_add-result-in-Record : goal.overflow_add-result-in-Record
overflow_add-result-in-Record c = let f = found_fits c.args.b.now c.requires c.as_slice.result.now c.args.w.name.now (entry c.in-Some.e) c.as_slice.ensures.value c.in-Some.ensures in omega (arith, f.1)
