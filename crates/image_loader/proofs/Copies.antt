-- What holds of a copy of what was found.
use Rattle.std.proofs.Common.{◌≡◌, ◌≢◌, Result, Ok, Err, IfOk, MatchResult, arith}
use Rattle.image_loader.specs.declared.fault.ImageFault.{ImageFault}
use Rattle.image_loader.specs.declared.fault.ImageFault.TheVariants as fault
use Rattle.image_loader.specs.Files.{Contents}
use Rattle.image_loader.specs.Checks.{IsCopied}

-- a fault other than that memory ran out is answered exactly if it is found
pub same_fault : (found copy : Result Contents ImageFault) (x : ImageFault) (P : Type 0) → x ≢ fault.OutOfMemory → IsCopied found copy
    → (found ≡ Err x → P) × (P → found ≡ Err x) → (copy ≡ Err x → P) × (P → copy ≡ Err x)
same_fault found copy x P other x5 h = grind arith

pub same_found : (found copy : Result Contents ImageFault) (P : Contents → Type 0) → IsCopied found copy → IfOk found P → IfOk copy P
same_found found copy P x3 h = grind arith

pub same_accepted : (found copy : Result Contents ImageFault) (image : Contents) → IsCopied found copy → found ≡ Ok image
    → MatchResult copy (λ x. x ≡ image) (λ e. e ≡ fault.OutOfMemory)
same_accepted found copy image x3 h = grind arith

-- memory runs out over what was found alone
pub out_of_memory : (found copy : Result Contents ImageFault) (P : Contents → Type 0) → IsCopied found copy → IfOk found P
    → ¬ (found ≡ Err fault.OutOfMemory) → copy ≡ Err fault.OutOfMemory → (image : Contents) × P image
out_of_memory found copy P c h known e = grind arith
