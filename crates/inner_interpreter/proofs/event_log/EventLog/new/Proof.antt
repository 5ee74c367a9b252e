-- `new` makes the empty struct, with the list that its clause names. Assumes `Logic`.
use Rattle.block_buffers.proofs.Walks.{[], refl, emp, fact_i, run_none, made}
use Rattle.inner_interpreter.specs.contracts.event_log.EventLog.new as f
use Rattle.inner_interpreter.proofs.event_log.EventLog.new.Statement.{statement}
use Rattle.inner_interpreter.proofs.event_log.EventLog.new.Code as code

pub new_spec : {M : Type 1} → statement M
new_spec 𝓤 𝓛 𝓜 𝓡 wired =
    made 𝓛 f.ended (f.clauses 𝓛 𝓜.mem 𝓡.returns) 𝓜 𝓡 tt f.Key.name code.function (code.unfolded 𝓤 𝓛.H 𝓜 𝓡 wired)
    (λ κs a. record { events = [] }) (λ κs a. tt)
    (λ κs a. (((λ vss. (tt, tt)), tt), ((tt, (refl, tt)), tt))) (λ y. fact_i 𝓤 _ (emp 𝓤) refl) (λ y are P. run_none 𝓛 _ _ P refl)
