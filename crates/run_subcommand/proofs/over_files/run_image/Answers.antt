use Rattle.std.proofs.Common.{rules, ap, ◌∙◌}
use Rattle.named_files.proofs.Making.{of_err, refused, refuses, taken, takes}
use Rattle.named_files.specs.Uses.{with_blocks, with_keys, with_opened}
use Rattle.run_subcommand.proofs.Over.{over}
use Rattle.run_subcommand.proofs.over_files.run_image.Goals as goal

pub returns-in_err-bytes-clause-refused : goal.returns-in_err-bytes-clause-refused
returns-in_err-bytes-clause-refused g c =
    of_err c.from_residual.result _ _ c.from_residual.ensures.1
    (refuses _ _ _ _ _ c.in_err-bytes.ensures.asked.0 (refused _ _ _ _ _ c.in_err-bytes.ensures.asked) (search rules))

pub returns-in_err-reader-clause-refused : goal.returns-in_err-reader-clause-refused
returns-in_err-reader-clause-refused g c =
    of_err c.from_residual-in_err-reader.result _ _ c.from_residual-in_err-reader.ensures.1
    (refuses _ _ _ _ _ c.in_err-reader.ensures.asked.0
    (takes _ _ _ _ _ _ c.in_ok-bytes.ensures.asked (refused _ _ _ _ _ c.in_err-reader.ensures.asked)) (search rules))

pub returns-in_err-device-clause-refused : goal.returns-in_err-device-clause-refused
returns-in_err-device-clause-refused g c =
    of_err c.from_residual-in_err-device.result _ _ c.from_residual-in_err-device.ensures.1
    (refuses _ _ _ _ _ c.in_err-device.ensures.asked.0
    (takes _ _ _ _ _ _ c.in_ok-bytes.ensures.asked
    (takes _ _ _ _ _ _ c.in_ok-reader.ensures.asked (refused _ _ _ _ _ c.in_err-device.ensures.asked))) (search rules))

pub returns-clause-ran : goal.returns-clause-ran
returns-clause-ran g c = λ fine. record {
  bytes = c.as_slice.result.now;
  asks = rw (c.close_blocks.ensures.asked ∙ c.close_input.ensures.asked)
      (takes _ _ _ _ _ _ c.in_ok-bytes.ensures.asked
      (takes _ _ _ _ _ _ c.in_ok-reader.ensures.asked (taken _ _ _ c.in_ok-device.ensures.asked)));
  reads = search rules;
  unwritten = search rules;
  count = g.F.Blocks.Device.block_count c.in_ok-device.device;
  keys = g.F.Keys.Input.reads c.do_run-ended.new.reader;
  unread = g.F.Keys.Input.failed c.do_run-ended.new.reader;
  calls = g.F.Blocks.Device.calls c.do_run-ended.new.device;
  used = ap (λ f. f.used) c.close_blocks.ensures.used
      ∙ ap (λ u. with_blocks u (g.F.Blocks.Device.calls c.do_run-ended.new.device)) (ap (λ f. f.used) c.close_input.ensures.used
      ∙ ap (λ u. with_keys u (g.F.Keys.Input.reads c.do_run-ended.new.reader) (g.F.Keys.Input.failed c.do_run-ended.new.reader))
      (ap (λ f. f.used) c.in_ok-device.ensures.files ∙ ap (λ u. with_opened u (g.F.Blocks.Device.block_count c.in_ok-device.device))
      (ap (λ f. f.used) c.input.ensures.files ∙ ap (λ f. f.used) c.in_ok-bytes.ensures.read)));
  ran = over g.F.Keys.Input.reads g.F.Blocks.Device.calls c.as_slice.result.now _ _ c.in_ok-reader.reader c.do_run-ended.new.reader _ _ _ _ _ _ _
      c.in_ok-reader.ensures.fresh.0 c.in_ok-device.ensures.fresh (c.do_run-ended.ensures.moved c.in_ok-reader.ensures.fresh.1 fine);
  refused = c.do_run-ended.ensures.refused;
}
