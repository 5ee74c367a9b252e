use Rattle.std.proofs.Common.{rules, ap, ◌∙◌}
use Rattle.named_files.proofs.Making.{of_err, refused, refuses, taken, takes}
use Rattle.named_files.specs.Uses.{with_blocks, with_opened}
use Rattle.file_subcommands.proofs.screens.print_text.Goals as goal

pub returns-in_err-keep_blocks-clause-refused : goal.returns-in_err-keep_blocks-clause-refused
returns-in_err-keep_blocks-clause-refused g c =
    of_err c.from_residual.result _ _ c.from_residual.ensures.1
    (refuses _ _ _ _ _ c.in_err-keep_blocks.ensures.asked.0 (refused _ _ _ _ _ c.in_err-keep_blocks.ensures.asked) (search rules))

pub returns-in_err-device-clause-refused : goal.returns-in_err-device-clause-refused
returns-in_err-device-clause-refused g c =
    of_err c.from_residual-in_err-device.result _ _ c.from_residual-in_err-device.ensures.1
    (refuses _ _ _ _ _ c.in_err-device.ensures.asked.0 (takes _ _ _ _ _ _ c.in_ok-keep_blocks.ensures.asked (refused _ _ _ _ _ c.in_err-device.ensures.asked)) (search rules))

pub returns-clause-printed : goal.returns-clause-printed
returns-clause-printed g c = record {
  asks = rw (c.close_blocks.ensures.asked) (takes _ _ _ _ _ _ c.in_ok-keep_blocks.ensures.asked (taken _ _ _ c.in_ok-device.ensures.asked));
  reads = search rules;
  unwritten = search rules;
  count = g.F.Blocks.Device.block_count c.in_ok-device.device;
  calls = g.F.Blocks.Device.calls c.do_text-ended.new.device;
  used = ap (λ f. f.used) c.close_blocks.ensures.used
      ∙ ap (λ u. with_blocks u (g.F.Blocks.Device.calls c.do_text-ended.new.device)) (ap (λ f. f.used) c.in_ok-device.ensures.files
      ∙ ap (λ u. with_opened u (g.F.Blocks.Device.block_count c.in_ok-device.device)) (ap (λ f. f.used) c.keep_blocks.ensures.files));
  printed = rw (← c.in_ok-device.ensures.fresh) c.do_text-ended.ensures.read;
  ends = rw (← c.in_ok-device.ensures.fresh) c.do_text-ended.ensures.printed;
}
