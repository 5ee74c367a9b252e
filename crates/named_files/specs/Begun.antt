-- What holds of a subcommand over files and an output, whether it could begin or not.
use Rattle.std.specs.Prelude.{ℕ, List, Bool, Option, Result, IfOk, IfErr}
use Rattle.inner_interpreter.specs.declared.ends.Output as output
use Rattle.named_files.specs.Done.{Done, SystemLog, done}

-- if it could begin: this, of its status, of whether the output has failed, and of what was done before and after it
abbrev pub Began : {F W : Type 0} → (log : F → SystemLog) → output.Ghosts W → (files files' : F) → (writer writer' : W) → Result ℕ ℕ
    → ((status : ℕ) → (failed : Bool) → (old new : Done) → Type 0) → Type 0
Began log ws files files' writer writer' result Holds =
    IfOk result (λ status. Holds status (ws.failed writer') (done (log files) (ws.sent writer)) (done (log files') (ws.sent writer')))

-- if it could not: this, of its status, and of what was done before and after it
abbrev pub NotBegun : {F W : Type 0} → (log : F → SystemLog) → output.Ghosts W → (files files' : F) → (writer writer' : W) → Result ℕ ℕ
    → ((status : ℕ) → (old new : Done) → Type 0) → Type 0
NotBegun log ws files files' writer writer' result Holds =
    IfErr result (λ status. Holds status (done (log files) (ws.sent writer)) (done (log files') (ws.sent writer')))
