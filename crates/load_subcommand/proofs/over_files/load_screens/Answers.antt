use Rattle.std.proofs.Common.{rules, ap, ◌≡◌, ◌∙◌}
use Rattle.named_files.proofs.Making.{both, is_itself, made, of_err, read_so, refused, refuses, taken, takes, used_so}
use Rattle.named_files.specs.Uses.{with_blocks, with_opened}
use Rattle.load_subcommand.proofs.over_files.load_screens.Goals as goal

pub returns-in_err-keep_apart-clause-refused : goal.returns-in_err-keep_apart-clause-refused
returns-in_err-keep_apart-clause-refused g c =
    of_err c.from_residual.result _ _ c.from_residual.ensures.1
    (refuses _ _ _ _ _ c.in_err-keep_apart.ensures.asked.0 (refused _ _ _ _ _ c.in_err-keep_apart.ensures.asked) (search rules))

pub returns-in_err-keep_image-clause-refused : goal.returns-in_err-keep_image-clause-refused
returns-in_err-keep_image-clause-refused g c =
    of_err c.from_residual-in_err-keep_image.result _ _ c.from_residual-in_err-keep_image.ensures.1
    (refuses _ _ _ _ _ c.in_err-keep_image.ensures.asked.0 (takes _ _ _ _ _ _ c.in_ok-keep_apart.ensures.asked (refused _ _ _ _ _ c.in_err-keep_image.ensures.asked)) (search rules))

pub returns-in_err-bytes-clause-refused : goal.returns-in_err-bytes-clause-refused
returns-in_err-bytes-clause-refused g c =
    of_err c.from_residual-in_err-bytes.result _ _ c.from_residual-in_err-bytes.ensures.1
    (refuses _ _ _ _ _ c.in_err-bytes.ensures.asked.0 (takes _ _ _ _ _ _ c.in_ok-keep_apart.ensures.asked (takes _ _ _ _ _ _ c.in_ok-keep_image.ensures.asked (refused _ _ _ _ _ c.in_err-bytes.ensures.asked))) (search rules))

pub returns-in_err-device-clause-refused : goal.returns-in_err-device-clause-refused
returns-in_err-device-clause-refused g c =
    of_err c.from_residual-in_err-device.result _ _ c.from_residual-in_err-device.ensures.1
    (refuses _ _ _ _ _ c.in_err-device.ensures.asked.0
    (takes _ _ _ _ _ _ c.in_ok-keep_apart.ensures.asked (takes _ _ _ _ _ _ c.in_ok-keep_image.ensures.asked (takes _ _ _ _ _ _ c.in_ok-bytes.ensures.asked (refused _ _ _ _ _ c.in_err-device.ensures.asked)))) (search rules))

pub returns-clause-loaded : goal.returns-clause-loaded
returns-clause-loaded g c =
    let counted : g.F.Blocks.Device.block_count c.if-is_watched.device ≡ g.F.Blocks.Device.block_count c.in_ok-device.device = search rules in
    record {
      bytes = c.as_slice-bytes.result.now;
      reads = read_so _ _ _ _ _ _ c.write_made.ensures.none c.write_made.ensures.made ∙ search rules;
      count = g.F.Blocks.Device.block_count c.in_ok-device.device;
      before = g.F.Blocks.Device.calls c.if-is_watched.device;
      tried = search rules;
      after = g.F.Blocks.Device.calls c.do_load-status.new.device;
      used = used_so _ _ _ _ _ _ c.write_made.ensures.none c.write_made.ensures.made ∙ ap (λ f. f.used) c.close_blocks.ensures.used
          ∙ ap (λ u. with_blocks u (g.F.Blocks.Device.calls c.do_load-status.new.device)) (ap (λ f. f.used) c.in_ok-device.ensures.files
          ∙ ap (λ u. with_opened u (g.F.Blocks.Device.block_count c.in_ok-device.device)) (ap (λ f. f.used) c.in_ok-bytes.ensures.read
          ∙ ap (λ f. f.used) (c.keep_image.ensures.files ∙ c.keep_apart.ensures.files)));
      ended = c.do_load-status.result;
      moved = rw (← counted) c.do_load-status.ensures.moved;
      refused = c.do_load-status.ensures.refused;
      makes = made _ _ c.do_load-status.result.file _ _ _ _ _ _ _ _
          (rw (c.close_blocks.ensures.asked) (takes _ _ _ _ _ _ c.in_ok-keep_apart.ensures.asked (takes _ _ _ _ _ _ c.in_ok-keep_image.ensures.asked (takes _ _ _ _ _ _ c.in_ok-bytes.ensures.asked (taken _ _ _ c.in_ok-device.ensures.asked)))))
          (search rules) (both _ _ _ c.do_load-status.ensures.status (is_itself c.do_load-status.result.file))
          c.write_made.ensures.none c.write_made.ensures.made;
    }
