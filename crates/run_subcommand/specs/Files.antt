-- `run` over the files that the command line names, and over standard input and output.
use Rattle.std.specs.Prelude.{◌≡◌, ◌⊎◌, ℕ, List, [], ◌∷◌, Option, Bool, false}
use Rattle.block_buffers.specs.DeviceCalls.{DeviceCall}
use Rattle.inner_interpreter.specs.Moves.{logs}
use Rattle.named_files.specs.Asking.{Asks, Step, step}
use Rattle.named_files.specs.Done.{Done, Reads}
use Rattle.named_files.specs.Uses.{with_all, with_keys}
use Rattle.named_files.specs.declared.step_log.Deed.TheVariants as deed
use Rattle.run_subcommand.specs.Running.{HasRunImage}
use Rattle.subcommands.specs.Ends.{IsWanting}
use Rattle.subcommands.specs.Lines.{OfImageFile, PrintsNoImage}

abbrev pub run_steps : (image : List ℕ) → (blocks : List (List ℕ)) → List Step
run_steps image blocks = step deed.Read (image ∷ []) ∷ step deed.Listen [] ∷ step deed.Open blocks ∷ []

-- `run IMAGE BLOCKS`, once these steps were taken: the image is run over the keys that standard input gave before it was handed back, and
-- the calls that the blocks were given before they were; no other file was written
pub record Runs (image : List ℕ) (blocks : List (List ℕ)) (limit status : ℕ) (failed : Bool) (old new : Done) : Type 0 where
  pub bytes : List ℕ
  pub asks : Asks (run_steps image blocks) 0 old.asked new.asked
  pub reads : Reads image bytes old new
  pub unwritten : new.written ≡ old.written
  pub count : ℕ
  pub keys : List (Option ℕ)
  pub unread : Bool
  pub calls : List DeviceCall
  pub used : new.used ≡ with_keys (with_all old.used count calls) keys unread
  pub ran : OfImageFile bytes (λ file.
      HasRunImage file count limit (logs [] old.sent []) (logs calls new.sent keys) unread failed status
      ⊎ IsWanting status failed keys calls old.sent new.sent)
  pub refused : failed ≡ false → PrintsNoImage bytes status old.sent new.sent
