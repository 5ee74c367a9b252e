use Rattle.colon_bodies.proofs.Exact.{no_fault}
use Rattle.colon_bodies.proofs.laws.good_has_no_fault.Goals as goal

pub returns : goal.returns
returns c = λ rt at limit source body used g place cause f. no_fault rt at limit source body used place cause g f
