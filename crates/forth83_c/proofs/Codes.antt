-- A number of the header is of one status.
use Rattle.std.proofs.Common.{rules, ◌≡◌, ◌⊎◌, ℕ}
use Rattle.forth83_c.specs.declared.status.Status.{Status}
use Rattle.forth83_c.specs.declared.status.Status.TheVariants as status
use Rattle.forth83_c.specs.Called.{code_of}

pub code_zero : (s : Status) → code_of s ≡ 0 → s ≡ status.Done
code_zero s e = search rules

pub code_three : (s : Status) → code_of s ≡ 3 → s ≡ status.ShortRoom
code_three s e = search rules

pub run_codes : (s : Status) (n : ℕ) → n ≡ code_of s → (s ≡ status.Done) ⊎ ((s ≡ status.NoMachine) ⊎ (s ≡ status.ShortRoom))
    → (n ≡ 0) ⊎ ((n ≡ 1) ⊎ (n ≡ 3))
run_codes s n e h = search rules

pub code_one : (s : Status) → code_of s ≡ 1 → s ≡ status.NoMachine
code_one s e = search rules
