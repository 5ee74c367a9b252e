-- `flushed` makes the empty struct, with the list that its clause names. Assumes `Logic`.
use Rattle.block_buffers.proofs.Walks.{refl, emp, fact_i, run_one, made}
use Rattle.std.specs.Prelude.{true}
use Rattle.inner_interpreter.specs.contracts.byte_log.ByteLog.flushed as f
use Rattle.inner_interpreter.proofs.byte_log.ByteLog.flushed.Statement.{statement}
use Rattle.inner_interpreter.proofs.byte_log.ByteLog.flushed.Code as code

pub flushed_spec : {M : Type 1} → statement M
flushed_spec 𝓤 𝓛 𝓜 𝓡 wired =
    made 𝓛 f.ended (f.clauses 𝓛 𝓜.mem 𝓡.returns) 𝓜 𝓡 ((λ κs x w. refl), tt) f.Key.name code.function (code.unfolded 𝓤 𝓛.H 𝓜 𝓡 wired)
    (λ κs a. record { bytes = a.0.now.bytes; passed = true; tells = a.0.now.tells }) (λ κs a. (tt, tt))
    (λ κs a. (((λ vss. (tt, tt)), tt), ((tt, (refl, tt)), tt))) (λ y. fact_i 𝓤 _ (emp 𝓤) (refl, refl, refl)) (λ y are P. run_one 𝓛 _ _ P refl are.0.0 (tt, tt))
