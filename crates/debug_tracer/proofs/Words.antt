-- The word that is traced.
use Rattle.std.proofs.Common.{◌≡◌, ℕ, List, ◌++◌, length, ◌∙◌, ap, refl, subst, append-nil}
use Rattle.std.specs.Prelude.{drop}
use Rattle.memory.specs.Bytes.{front_put, zeros}
use Rattle.dictionary.specs.Order.{headers}
use Rattle.inner_interpreter.specs.Reports.{RunEnds, WriterEnd}
use Rattle.inner_interpreter.specs.RunsTo.{RunsTraced}
use Rattle.inner_interpreter.specs.declared.stop.Stop.{Stop}
use Rattle.inner_interpreter.specs.Tracing.{IsPlaceless}
use Rattle.machine.specs.State.{State}
use Rattle.machine.specs.declared.extent.Extent.{Extent}
use Rattle.debug_tracer.specs.Lines.{line}

pub front_all : (xs : List ℕ) → length xs ≡ 65536 → front_put xs zeros ≡ xs
unfolding front_put zeros
front_all xs h = ap (λ n. xs ++ drop n zeros) h ∙ append-nil xs

-- a run with the lines of the copies that were taken has those of the memory and its headers
pub of_lines : {e : Extent} {m copy listed : List ℕ} {old new : State} {ends ends' : RunEnds} {trace trace' : WriterEnd} {limit : ℕ} {why : Stop}
    → copy ≡ m → listed ≡ headers m → RunsTraced e (line copy listed) old new ends ends' trace trace' limit why
    → RunsTraced e (line m (headers m)) old new ends ends' trace trace' limit why
of_lines {e} {m} {copy} {listed} {old} {new} {ends} {ends'} {trace} {trace'} {limit} {why} c l h =
    subst (λ (x : List ℕ). RunsTraced e (line m x) old new ends ends' trace trace' limit why) l
    (subst (λ (x : List ℕ). RunsTraced e (line x listed) old new ends ends' trace trace' limit why) c h)

-- a line says nothing of where memory lies
pub placeless : (m headers : List ℕ) → IsPlaceless (line m headers)
unfolding line
placeless m headers p s = refl
