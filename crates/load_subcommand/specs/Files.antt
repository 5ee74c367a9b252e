-- `load` over the files that the command line names.
use Rattle.std.specs.Prelude.{◌≡◌, ℕ, List, [], ◌∷◌, Bool, false, Some}
use Rattle.block_buffers.specs.DeviceCalls.{DeviceCall}
use Rattle.load_subcommand.specs.Loads.{EndsMoved}
use Rattle.named_files.specs.Asking.{Step, step}
use Rattle.named_files.specs.Done.{Done, Makes, Reads}
use Rattle.named_files.specs.Trying.{OnlyReads}
use Rattle.named_files.specs.Uses.{with_all}
use Rattle.named_files.specs.declared.step_log.Deed.TheVariants as deed
use Rattle.subcommands.specs.Lines.{OfImageFile, PrintsNoImage}
use Rattle.subcommands.specs.declared.commands.Ended.{Ended}

abbrev pub load_steps : (image blocks out : List ℕ) → List Step
load_steps image blocks out =
    step deed.KeepApart (blocks ∷ out ∷ []) ∷ step deed.KeepImage (out ∷ []) ∷ step deed.Read (image ∷ []) ∷ step deed.Open (blocks ∷ []) ∷ []

-- `load IMAGE BLOCKS FROM TO OUT`, once these steps were taken: a machine with the image compiled the screens, over the blocks, some of
-- which may have been read before; they were handed back after these calls, and just the file that this ended with was written
pub record Loads (image blocks : List ℕ) (from to : ℕ) (out : List ℕ) (limit : ℕ) (status : ℕ) (failed : Bool) (old new : Done) : Type 0 where
  pub bytes : List ℕ
  pub reads : Reads image bytes old new
  pub count : ℕ
  pub before : List DeviceCall
  pub tried : OnlyReads [] before
  pub after : List DeviceCall
  pub used : new.used ≡ with_all old.used count after
  pub ended : Ended
  pub moved : OfImageFile bytes (λ i. EndsMoved i count from to limit before after ended failed old.sent new.sent)
  pub refused : failed ≡ false → PrintsNoImage bytes ended.status old.sent new.sent
  pub makes : Makes (load_steps image blocks out) out ended.status status old new (λ file. ended.file ≡ Some file)
