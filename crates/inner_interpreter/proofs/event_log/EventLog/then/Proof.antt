-- `then` makes the empty struct, with the list that its clause names. Assumes `Logic`.
use Rattle.block_buffers.proofs.Walks.{◌++◌, refl, emp, fact_i, run_two, made}
use Rattle.inner_interpreter.specs.Histories.{told_event}
use Rattle.inner_interpreter.specs.contracts.event_log.EventLog.then as f
use Rattle.inner_interpreter.proofs.event_log.EventLog.then.Statement.{statement}
use Rattle.inner_interpreter.proofs.event_log.EventLog.then.Code as code

pub then_spec : {M : Type 1} → statement M
then_spec 𝓤 𝓛 𝓜 𝓡 wired =
    made 𝓛 f.ended (f.clauses 𝓛 𝓜.mem 𝓡.returns) 𝓜 𝓡 ((λ κs x w. refl), ((λ κs x w. refl), tt)) f.Key.name code.function (code.unfolded 𝓤 𝓛.H 𝓜 𝓡 wired)
    (λ κs a. record { events = a.0.now.events ++ told_event a.1.0.now }) (λ κs a. (tt, (tt, tt)))
    (λ κs a. (((λ vss. (tt, tt)), tt), ((tt, (refl, tt)), tt))) (λ y. fact_i 𝓤 _ (emp 𝓤) refl) (λ y are P. run_two 𝓛 _ _ P refl are.0.0 are.1.0.0 (tt, tt) (tt, tt))
