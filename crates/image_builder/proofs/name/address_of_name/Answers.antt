use Rattle.std.proofs.Common.{refl, arith}
use Rattle.image_builder.specs.Places.{place}
use Rattle.image_builder.specs.Names.{entry}
use Rattle.image_builder.proofs.Making.{found_fits, found_look}
use Rattle.image_builder.proofs.name.address_of_name.Goals as goal

pub overflow_add-result : goal.overflow_add-result
overflow_add-result c = let f = found_fits c.args.b.now c.requires.building c.as_slice.result.now c.args.w.name.now (entry c.in-Some.e) c.as_slice.ensures.value c.in-Some.ensures in omega (arith, f.1)

pub overflow_cast-result : goal.overflow_cast-result
overflow_cast-result c = let f = found_fits c.args.b.now c.requires.building c.as_slice.result.now c.args.w.name.now (entry c.in-Some.e) c.as_slice.ensures.value c.in-Some.ensures in omega (arith, f.0)

pub overflow_add-result-in-Some : goal.overflow_add-result-in-Some
overflow_add-result-in-Some c = let f = found_fits c.args.b.now c.requires.building c.as_slice.result.now c.args.w.name.now (entry c.in-Some.e) c.as_slice.ensures.value c.in-Some.ensures in omega (arith, f.1)

pub returns-in-Some : goal.returns-in-Some
returns-in-Some c = λ t h. (entry c.in-Some.e, found_look c.args.b.now t (place c.args.w) c.as_slice.result.now (entry c.in-Some.e) h c.as_slice.ensures.value c.in-Some.ensures, refl)
