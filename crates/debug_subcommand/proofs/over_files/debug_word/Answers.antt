use Rattle.std.proofs.Common.{rules, ap, ◌∙◌}
use Rattle.named_files.proofs.Making.{of_err, refused, refuses, stopped, taken, takes, then}
use Rattle.named_files.specs.Uses.{with_blocks, with_keys, with_opened, with_trace}
use Rattle.debug_subcommand.proofs.Over.{over}
use Rattle.debug_subcommand.proofs.over_files.debug_word.Goals as goal

pub returns-in_err-keep_apart-clause-refused : goal.returns-in_err-keep_apart-clause-refused
returns-in_err-keep_apart-clause-refused g c =
    let lt = c.in_err-keep_apart.ensures.asked.0 in
    of_err c.from_residual.result _ _ c.from_residual.ensures.1
    (refuses _ _ _ _ _ lt (refused _ _ _ _ _ c.in_err-keep_apart.ensures.asked) (search rules))

pub returns-in_err-keep_blocks_apart-clause-refused : goal.returns-in_err-keep_blocks_apart-clause-refused
returns-in_err-keep_blocks_apart-clause-refused g c =
    let lt = c.in_err-keep_blocks_apart.ensures.asked.0 in
    of_err c.from_residual-in_err-keep_blocks_apart.result _ _ c.from_residual-in_err-keep_blocks_apart.ensures.1
    (refuses _ _ _ _ _ lt (takes _ _ _ _ _ _ c.in_ok-keep_apart.ensures.asked (stopped _ _ _ _ _ lt c.in_err-keep_blocks_apart.ensures.asked.1)) (search rules))

pub returns-in_err-keep_trace-clause-refused : goal.returns-in_err-keep_trace-clause-refused
returns-in_err-keep_trace-clause-refused g c =
    let lt = c.in_err-keep_trace.ensures.asked.0 in
    of_err c.from_residual-in_err-keep_trace.result _ _ c.from_residual-in_err-keep_trace.ensures.1
    (refuses _ _ _ _ _ lt (takes _ _ _ _ _ _ c.in_ok-keep_apart.ensures.asked (then _ _ _ _ _ _ c.in_ok-keep_blocks_apart.ensures.asked (refused _ _ _ _ _ c.in_err-keep_trace.ensures.asked))) (search rules))

pub returns-in_err-bytes-clause-refused : goal.returns-in_err-bytes-clause-refused
returns-in_err-bytes-clause-refused g c =
    let lt = c.in_err-bytes.ensures.asked.0 in
    of_err c.from_residual-in_err-bytes.result _ _ c.from_residual-in_err-bytes.ensures.1
    (refuses _ _ _ _ _ lt (takes _ _ _ _ _ _ c.in_ok-keep_apart.ensures.asked (then _ _ _ _ _ _ c.in_ok-keep_blocks_apart.ensures.asked (takes _ _ _ _ _ _ c.in_ok-keep_trace.ensures.asked (refused _ _ _ _ _ c.in_err-bytes.ensures.asked)))) (search rules))

pub returns-in_err-reader-clause-refused : goal.returns-in_err-reader-clause-refused
returns-in_err-reader-clause-refused g c =
    let lt = c.in_err-reader.ensures.asked.0 in
    of_err c.from_residual-in_err-reader.result _ _ c.from_residual-in_err-reader.ensures.1
    (refuses _ _ _ _ _ lt (takes _ _ _ _ _ _ c.in_ok-keep_apart.ensures.asked (then _ _ _ _ _ _ c.in_ok-keep_blocks_apart.ensures.asked (takes _ _ _ _ _ _ c.in_ok-keep_trace.ensures.asked (takes _ _ _ _ _ _ c.in_ok-bytes.ensures.asked (refused _ _ _ _ _ c.in_err-reader.ensures.asked))))) (search rules))

pub returns-in_err-device-clause-refused : goal.returns-in_err-device-clause-refused
returns-in_err-device-clause-refused g c =
    let lt = c.in_err-device.ensures.asked.0 in
    of_err c.from_residual-in_err-device.result _ _ c.from_residual-in_err-device.ensures.1
    (refuses _ _ _ _ _ lt (takes _ _ _ _ _ _ c.in_ok-keep_apart.ensures.asked (then _ _ _ _ _ _ c.in_ok-keep_blocks_apart.ensures.asked (takes _ _ _ _ _ _ c.in_ok-keep_trace.ensures.asked (takes _ _ _ _ _ _ c.in_ok-bytes.ensures.asked (takes _ _ _ _ _ _ c.in_ok-reader.ensures.asked (refused _ _ _ _ _ c.in_err-device.ensures.asked)))))) (search rules))

pub returns-clause-debugged : goal.returns-clause-debugged
returns-clause-debugged g c = record {
  bytes = c.as_slice.result.now;
  asks = then _ _ _ _ _ _ (takes _ _ _ _ _ _ c.in_ok-keep_apart.ensures.asked (then _ _ _ _ _ _ c.in_ok-keep_blocks_apart.ensures.asked (takes _ _ _ _ _ _ c.in_ok-keep_trace.ensures.asked (takes _ _ _ _ _ _ c.in_ok-bytes.ensures.asked (takes _ _ _ _ _ _ c.in_ok-reader.ensures.asked (taken _ _ _ c.in_ok-device.ensures.asked))))))
      (rw (← c.close_input.ensures.asked, ← c.close_blocks.ensures.asked) c.close_trace.ensures.asked);
  reads = search rules;
  unwritten = search rules;
  count = g.F.Blocks.Device.block_count c.in_ok-device.device;
  keys = g.F.Keys.Input.reads c.do_debug-ended.new.reader;
  unread = g.F.Keys.Input.failed c.do_debug-ended.new.reader;
  calls = g.F.Blocks.Device.calls c.do_debug-ended.new.device;
  lines = g.F.Trace.Output.sent c.do_debug-ended.new.trace;
  traced = g.F.Trace.Output.passed c.do_debug-ended.new.trace;
  untraced = g.F.Trace.Output.failed c.do_debug-ended.new.trace;
  used = ap (λ f. f.used) c.close_trace.ensures.used
      ∙ ap (λ u. with_trace u (g.F.Trace.Output.sent c.do_debug-ended.new.trace) (g.F.Trace.Output.passed c.do_debug-ended.new.trace) (g.F.Trace.Output.failed c.do_debug-ended.new.trace))
      (ap (λ f. f.used) c.close_blocks.ensures.used
      ∙ ap (λ u. with_blocks u (g.F.Blocks.Device.calls c.do_debug-ended.new.device)) (ap (λ f. f.used) c.close_input.ensures.used
      ∙ ap (λ u. with_keys u (g.F.Keys.Input.reads c.do_debug-ended.new.reader) (g.F.Keys.Input.failed c.do_debug-ended.new.reader))
      (ap (λ f. f.used) c.in_ok-device.ensures.files ∙ ap (λ u. with_opened u (g.F.Blocks.Device.block_count c.in_ok-device.device))
      (ap (λ f. f.used) c.input.ensures.files ∙ ap (λ f. f.used) c.in_ok-bytes.ensures.read
      ∙ ap (λ f. f.used) (c.keep_trace.ensures.files ∙ c.keep_blocks_apart.ensures.files ∙ c.keep_apart.ensures.files)))));
  moved = over g.F.Keys.Input.reads g.F.Blocks.Device.calls g.F.Trace.Output.sent c.as_slice.result.now _ _ _ c.in_ok-reader.reader c.do_debug-ended.new.reader _ _
      c.in_ok-device.lines c.do_debug-ended.new.trace _ _ _ _ _ _
      c.in_ok-reader.ensures.fresh.0 c.in_ok-device.ensures.fresh c.in_ok-device.ensures.empty.0 c.do_debug-ended.ensures.debugged.moved;
  passed = λ other heard fine kept. (c.do_debug-ended.ensures.debugged.passed fine kept).1 other heard;
  refused = c.do_debug-ended.ensures.debugged.refused;
  untraceable = c.do_debug-ended.ensures.debugged.untraced;
  wanting = c.do_debug-ended.ensures.debugged.wanting;
}
