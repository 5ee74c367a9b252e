-- `new` makes the empty struct, with the lists that its clause names. Assumes `Logic`.
use Rattle.block_buffers.proofs.Walks.{[], refl, emp, fact_i, run_none, made}
use Rattle.named_files.specs.contracts.use_log.UseLog.new as f
use Rattle.named_files.proofs.use_log.UseLog.new.Statement.{statement}
use Rattle.named_files.proofs.use_log.UseLog.new.Code as code

pub new_spec : {M : Type 1} → statement M
new_spec 𝓤 𝓛 𝓜 𝓡 wired =
    made 𝓛 f.ended (f.clauses 𝓛 𝓜.mem 𝓡.returns) 𝓜 𝓡 tt f.Key.name code.function (code.unfolded 𝓤 𝓛.H 𝓜 𝓡 wired)
    (λ κs a. record { opened = []; blocks = []; keys = []; traces = [] }) (λ κs a. tt)
    (λ κs a. (((λ vss. (tt, tt)), tt), ((tt, (refl, tt)), tt))) (λ y. fact_i 𝓤 _ (emp 𝓤) (refl, refl, refl, refl)) (λ y are P. run_none 𝓛 _ _ P refl)
