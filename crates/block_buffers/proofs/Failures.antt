-- How many calls of a device failed.
use Rattle.std.proofs.Common.{◌≡◌, ◌+◌, Bool, true, false, List, [], ◌∷◌, ◌++◌, ap, ◌∙◌, arith, if◌then◌else◌}
use Rattle.std.proofs.lemmas.List.Sums.{sum_by-append}
use Rattle.block_buffers.specs.DeviceCalls.{DeviceCall}
use Rattle.block_buffers.specs.Calls.{has_failed, failures}

failures-append : (xs ys : List DeviceCall) → failures (xs ++ ys) ≡ failures xs + failures ys
unfolding failures
failures-append xs ys = sum_by-append (λ c. if has_failed c then 1 else 0) xs ys

failures_one : (c : DeviceCall) (b : Bool) → has_failed c ≡ b → failures (c ∷ []) ≡ (if b then 1 else 0)
unfolding failures
failures_one c b q = grind arith

-- of a call that succeeds, none more; of one that fails, one
pub succeeded : (old new : List DeviceCall) (c : DeviceCall) → new ≡ old ++ c ∷ [] → has_failed c ≡ false → failures new ≡ failures old
succeeded old new c h q = ap failures h ∙ failures-append old (c ∷ []) ∙ omega (arith, failures_one c false q)

pub failed : (old new : List DeviceCall) (c : DeviceCall) → new ≡ old ++ c ∷ [] → has_failed c ≡ true → failures new ≡ failures old + 1
failed old new c h q = ap failures h ∙ failures-append old (c ∷ []) ∙ omega (arith, failures_one c true q)
