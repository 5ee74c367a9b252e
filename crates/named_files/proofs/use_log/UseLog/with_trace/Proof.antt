-- `with_trace` makes the empty struct, with the lists that its clause names. Assumes `Logic`.
use Rattle.block_buffers.proofs.Walks.{[], ◌∷◌, ◌++◌, refl, emp, fact_i, run_two, made}
use Rattle.std.specs.Prelude.{Some}
use Rattle.named_files.specs.contracts.use_log.UseLog.with_trace as f
use Rattle.named_files.proofs.use_log.UseLog.with_trace.Statement.{statement}
use Rattle.named_files.proofs.use_log.UseLog.with_trace.Code as code

pub with_trace_spec : {M : Type 1} → statement M
with_trace_spec 𝓤 𝓛 𝓜 𝓡 wired =
    made 𝓛 f.ended (f.clauses 𝓛 𝓜.mem 𝓡.returns) 𝓜 𝓡 ((λ κs x w. refl), ((λ κs x w. refl), tt)) f.Key.name code.function (code.unfolded 𝓤 𝓛.H 𝓜 𝓡 wired)
    (λ κs a. record { opened = a.0.now.opened; blocks = a.0.now.blocks; keys = a.0.now.keys; traces = a.0.now.traces ++ (Some a.1.0.now.lines.now.bytes, (a.1.0.now.lines.now.passed, a.1.0.now.failed)) ∷ [] }) (λ κs a. (tt, (tt, tt)))
    (λ κs a. (((λ vss. (tt, tt)), tt), ((tt, (refl, tt)), tt))) (λ y. fact_i 𝓤 _ (emp 𝓤) (refl, refl, refl, refl)) (λ y are P. run_two 𝓛 _ _ P refl are.0.0 are.1.0.0 (tt, tt) (tt, tt))
