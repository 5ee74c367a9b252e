-- `debug` over the files that the command line names, and over standard input and output.
use Rattle.std.specs.Prelude.{◌≡◌, ◌≢◌, ◌⊎◌, ℕ, List, [], ◌∷◌, ◌++◌, map, ◌==◌, Option, Some, Bool, true, false, IsOk}
use Rattle.block_buffers.specs.DeviceCalls.{DeviceCall}
use Rattle.debug_subcommand.specs.Traced.{HasTracedWith, OfTraced, OfUntraced, debug_cause}
use Rattle.debug_tracer.specs.Debugged.{debugged}
use Rattle.inner_interpreter.specs.Moves.{logs}
use Rattle.named_files.specs.Asking.{Asks, Step, discards, step}
use Rattle.named_files.specs.Done.{Done, Reads, Refuses}
use Rattle.named_files.specs.Uses.{with_all, with_keys, with_trace}
use Rattle.named_files.specs.declared.step_log.Deed.TheVariants as deed
use Rattle.subcommands.specs.Ends.{IsRefusal}
use Rattle.subcommands.specs.Lines.{OfImageFile, PrintsNoImage, PrintsOutOfMemory, PrintsRefusal, memory_of}

-- memory ran out before anything was run: nothing was typed, no block asked for, and no line traced
pub record IsWanting (status : ℕ) (failed : Bool) (keys : List (Option ℕ)) (calls : List DeviceCall) (lines : Option (List ℕ)) : Type 0 where
  pub untyped : keys ≡ []
  pub uncalled : calls ≡ []
  pub untraced : lines ≡ Some []
  pub status_is : IsRefusal status failed

-- the trace is another file than each of these
abbrev pub apart_from : (trace : List ℕ) → List (List ℕ) → List Step
apart_from trace files = map (λ file. step deed.KeepApart (file ∷ trace ∷ [])) files

abbrev pub debug_steps : (image trace : List ℕ) → (blocks : List (List ℕ)) → List Step
debug_steps image trace blocks =
    step deed.KeepApart (image ∷ trace ∷ []) ∷ (apart_from trace blocks
    ++ (step deed.KeepTrace (trace ∷ []) ∷ step deed.Read (image ∷ []) ∷ step deed.Listen [] ∷ step deed.OpenTraced (trace ∷ blocks) ∷ []))

-- `debug` could not begin: a step was refused
abbrev pub RefusesDebug : (image trace : List ℕ) → (blocks : List (List ℕ)) → (status : ℕ) → (old new : Done) → Type 0
RefusesDebug image trace blocks status old new = Refuses (debug_steps image trace blocks) status old new

-- `debug IMAGE NAME TRACE BLOCKS`, once these steps were taken: the image is run over the keys that standard input gave before it was handed
-- back, and the calls that the blocks were given before they were; and the lines that the trace took are those of the word of this name. With
-- status 1, by which nothing is run, a trace that was made for this run is removed.
pub record Debugs (image name trace : List ℕ) (blocks : List (List ℕ)) (limit : ℕ) (status : ℕ) (failed : Bool) (old new : Done) : Type 0 where
  pub bytes : List ℕ
  pub asks : Asks (debug_steps image trace blocks ++ discards trace (status == 1)) 0 old.asked new.asked
  pub reads : Reads image bytes old new
  pub unwritten : new.written ≡ old.written
  pub count : ℕ
  pub keys : List (Option ℕ)
  pub unread : Bool
  pub calls : List DeviceCall
  pub lines : Option (List ℕ)
  pub traced : Bool
  pub untraced : Bool
  pub used : new.used ≡ with_trace (with_keys (with_all old.used count calls) keys unread) lines traced untraced
  pub moved : OfImageFile bytes (λ file. IsOk (debugged (memory_of file) name) →
      HasTracedWith status file name count (logs [] old.sent []) (logs calls new.sent keys) limit unread failed untraced (Some []) lines
      ⊎ IsWanting status failed keys calls lines)
  -- if something was run, and no end failed, all of the trace was passed on
  pub passed : status ≢ 1 → unread ≡ false → failed ≡ false → untraced ≡ false → traced ≡ true
  pub refused : failed ≡ false → PrintsNoImage bytes status old.sent new.sent
  pub untraceable : failed ≡ false → OfUntraced bytes name (λ why.
      PrintsRefusal name (debug_cause why) status old.sent new.sent ⊎ PrintsOutOfMemory status old.sent new.sent)
  pub wanting : failed ≡ false → OfTraced bytes name (status ≡ 1 → PrintsOutOfMemory status old.sent new.sent)
