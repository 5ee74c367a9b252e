-- What `serve` did with its ends, as they were opened.
use Rattle.std.proofs.Common.{rules, ◌≡◌, ◌⊎◌, ℕ, List, [], Option, Bool, subst}
use Rattle.block_buffers.specs.DeviceCalls.{DeviceCall}
use Rattle.image_loader.specs.Files.{Contents}
use Rattle.inner_interpreter.specs.Moves.{Logs, logs}
use Rattle.serve_subcommand.specs.Serving.{ServesImage}
use Rattle.subcommands.specs.Ends.{IsUnrun, IsWanting}
use Rattle.subcommands.specs.Lines.{OfImageFile}

over_file : {R D : Type 0} (reads : R → List (Option ℕ)) (calls : D → List DeviceCall) (file : Contents) (count : ℕ)
    (r r' : R) (d d' : D) (failed : Bool) (sent sent' : Option (List ℕ)) (status : ℕ)
    → reads r ≡ [] → calls d ≡ []
    → ServesImage file count (logs (calls d) sent (reads r)) (logs (calls d') sent' (reads r')) status ⊎ IsUnrun status failed r r' d d' sent sent'
    → ServesImage file count (logs [] sent []) (logs (calls d') sent' (reads r')) status ⊎ IsWanting status failed (reads r') (calls d') sent sent'
over_file reads calls file count r r' d d' failed sent sent' status hr hd h = search rules

pub over : {R D : Type 0} (reads : R → List (Option ℕ)) (calls : D → List DeviceCall) (bytes : List ℕ) (count : ℕ)
    (r r' : R) (d d' : D) (failed : Bool) (sent sent' : Option (List ℕ)) (status : ℕ)
    → reads r ≡ [] → calls d ≡ []
    → OfImageFile bytes (λ file. ServesImage file count (logs (calls d) sent (reads r)) (logs (calls d') sent' (reads r')) status ⊎ IsUnrun status failed r r' d d' sent sent')
    → OfImageFile bytes (λ file. ServesImage file count (logs [] sent []) (logs (calls d') sent' (reads r')) status ⊎ IsWanting status failed (reads r') (calls d') sent sent')
over reads calls bytes count r r' d d' failed sent sent' status hr hd h = λ file f. over_file reads calls file count r r' d d' failed sent sent' status hr hd (h file f)

-- the same image, and the same status
pub served_as : (image file : Contents) (count : ℕ) (log log' : Logs) (status ended : ℕ) → image ≡ file → status ≡ ended → ServesImage image count log log' status → ServesImage file count log log' ended
served_as image file count log log' status ended same is h =
    subst (λ (i : Contents). ServesImage i count log log' ended) same (subst (λ (n : ℕ). ServesImage image count log log' n) is h)
