-- `serve` over the files that the command line names, and standard input and output.
use Rattle.std.specs.Prelude.{◌≡◌, ◌⊎◌, ℕ, List, [], ◌∷◌, Option, Bool, false}
use Rattle.block_buffers.specs.DeviceCalls.{DeviceCall}
use Rattle.inner_interpreter.specs.Moves.{logs}
use Rattle.named_files.specs.Asking.{Asks, Step, step}
use Rattle.named_files.specs.Done.{Done, Reads}
use Rattle.named_files.specs.Uses.{with_all, with_keys}
use Rattle.named_files.specs.declared.step_log.Deed.TheVariants as deed
use Rattle.serve_subcommand.specs.Serving.{ServesImage}
use Rattle.subcommands.specs.Ends.{IsWanting}
use Rattle.subcommands.specs.Lines.{OfImageFile, PrintsNoImage}

abbrev pub serve_steps : (image : List ℕ) → (blocks : List (List ℕ)) → List Step
serve_steps image blocks = step deed.Read (image ∷ []) ∷ step deed.Listen [] ∷ step deed.Open blocks ∷ []

-- `serve IMAGE BLOCKS`, once these steps were taken: the requests that standard input gave were served over the blocks, which were handed
-- back after these calls; no other file was written
pub record ServesFiles (image : List ℕ) (blocks : List (List ℕ)) (status : ℕ) (failed : Bool) (old new : Done) : Type 0 where
  pub bytes : List ℕ
  pub asks : Asks (serve_steps image blocks) 0 old.asked new.asked
  pub reads : Reads image bytes old new
  pub unwritten : new.written ≡ old.written
  pub count : ℕ
  pub keys : List (Option ℕ)
  pub unread : Bool
  pub calls : List DeviceCall
  pub used : new.used ≡ with_keys (with_all old.used count calls) keys unread
  pub served : OfImageFile bytes (λ file.
      ServesImage file count (logs [] old.sent []) (logs calls new.sent keys) status ⊎ IsWanting status failed keys calls old.sent new.sent)
  pub refused : failed ≡ false → PrintsNoImage bytes status old.sent new.sent
