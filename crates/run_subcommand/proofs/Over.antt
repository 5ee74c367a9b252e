-- What `run` did with its ends, as they were opened.
use Rattle.std.proofs.Common.{rules, ◌≡◌, ◌⊎◌, ℕ, List, [], Option, Bool}
use Rattle.block_buffers.specs.DeviceCalls.{DeviceCall}
use Rattle.image_loader.specs.Files.{Contents}
use Rattle.inner_interpreter.specs.Moves.{logs}
use Rattle.run_subcommand.specs.Running.{HasRunImage}
use Rattle.subcommands.specs.Ends.{IsUnrun, IsWanting}
use Rattle.subcommands.specs.Lines.{OfImageFile}

over_file : {R D : Type 0} (reads : R → List (Option ℕ)) (calls : D → List DeviceCall) (file : Contents) (count limit : ℕ)
    (r r' : R) (d d' : D) (unread failed : Bool) (sent sent' : Option (List ℕ)) (status : ℕ)
    → reads r ≡ [] → calls d ≡ []
    → HasRunImage file count limit (logs (calls d) sent (reads r)) (logs (calls d') sent' (reads r')) unread failed status
    ⊎ IsUnrun status failed r r' d d' sent sent'
    → HasRunImage file count limit (logs [] sent []) (logs (calls d') sent' (reads r')) unread failed status
    ⊎ IsWanting status failed (reads r') (calls d') sent sent'
over_file reads calls file count limit r r' d d' unread failed sent sent' status hr hd h = search rules

pub over : {R D : Type 0} (reads : R → List (Option ℕ)) (calls : D → List DeviceCall) (bytes : List ℕ) (count limit : ℕ)
    (r r' : R) (d d' : D) (unread failed : Bool) (sent sent' : Option (List ℕ)) (status : ℕ)
    → reads r ≡ [] → calls d ≡ []
    → OfImageFile bytes (λ file. HasRunImage file count limit (logs (calls d) sent (reads r)) (logs (calls d') sent' (reads r')) unread failed status
    ⊎ IsUnrun status failed r r' d d' sent sent')
    → OfImageFile bytes (λ file. HasRunImage file count limit (logs [] sent []) (logs (calls d') sent' (reads r')) unread failed status
    ⊎ IsWanting status failed (reads r') (calls d') sent sent')
over reads calls bytes count limit r r' d d' unread failed sent sent' status hr hd h =
    λ file f. over_file reads calls file count limit r r' d d' unread failed sent sent' status hr hd (h file f)
