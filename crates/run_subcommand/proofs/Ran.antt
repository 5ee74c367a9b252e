-- A run of the machine that was loaded.
use Rattle.std.proofs.Common.{◌≡◌, ◌∙◌, ap, subst, ℕ, false}
use Rattle.image_loader.specs.Files.{Contents}
use Rattle.inner_interpreter.specs.Reports.{RunEnds, logs_of}
use Rattle.inner_interpreter.specs.RunsTo.{RunsTo}
use Rattle.inner_interpreter.specs.declared.stop.Stop.{Stop}
use Rattle.machine.specs.State.{State, loaded_state}
use Rattle.run_subcommand.specs.Running.{HasRunImage, RunsImage, RunsWith}

pub run_of : (image : Contents) (s new : State) (count : ℕ) (ends ends' : RunEnds) (limit : ℕ) (why : Stop)
    → s ≡ loaded_state image count → count ≡ ends.device.block_count → RunsTo s new ends ends' limit why → RunsImage image limit why ends ends'
run_of image s new count ends ends' limit why is same h =
    record { state = new; run = subst (λ x. RunsTo x new ends ends' limit why) (is ∙ ap (loaded_state image) same) h }

pub run_as : (image file : Contents) (limit : ℕ) (why : Stop) (ends ends' : RunEnds) → image ≡ file → RunsImage image limit why ends ends' → RunsImage file limit why ends ends'
run_as image file limit why ends ends' same h = subst (λ i. RunsImage i limit why ends ends') same h

-- a run, by its moves alone
pub moved_by : (file : Contents) (limit status : ℕ) (ends ends' : RunEnds) → ends.reader.failed ≡ false → ends.writer.failed ≡ false
    → RunsWith file limit status ends ends'
    → HasRunImage file ends.device.block_count limit (logs_of ends) (logs_of ends') ends'.reader.failed ends'.writer.failed status
moved_by file limit status ends ends' reader writer h = record {
  stop = h.stop;
  status_is = h.status_is;
  state = h.run.state;
  run = h.run.run.moved;
  ended = h.run.run.ended;
  output = λ failed. (h.run.run.ends_told.output writer).1 failed;
  input = h.run.run.ends_told.input reader;
}
