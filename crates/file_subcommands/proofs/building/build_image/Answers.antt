use Rattle.std.proofs.Common.{ap, rules, ◌≡◌, ◌∙◌, inl, inr}
use Rattle.named_files.proofs.Making.{any, beside, both, made, no_file, of_err, read_so, refused, used_so, refuses, taken, takes}
use Rattle.named_files.specs.Uses.{with_blocks, with_opened}
use Rattle.file_subcommands.proofs.building.build_image.Goals as goal

pub returns-then-not-is_count-clause-refused : goal.returns-then-not-is_count-clause-refused
returns-then-not-is_count-clause-refused g c = inl (search rules, refuses _ _ _ _ _ c.refuse_use.ensures.asked.0 (refused _ _ _ _ _ c.refuse_use.ensures.asked) (ap (λ f. f.written) c.refuse_use.ensures.files))

pub returns-in_err-keep_apart-clause-refused : goal.returns-in_err-keep_apart-clause-refused
returns-in_err-keep_apart-clause-refused g c =
    of_err c.from_residual.result _ _ c.from_residual.ensures.1
    (inr (refuses _ _ _ _ _ c.in_err-keep_apart.ensures.asked.0 (refused _ _ _ _ _ c.in_err-keep_apart.ensures.asked) (search rules)))

pub returns-in_err-keep_image-clause-refused : goal.returns-in_err-keep_image-clause-refused
returns-in_err-keep_image-clause-refused g c =
    of_err c.from_residual-in_err-keep_image.result _ _ c.from_residual-in_err-keep_image.ensures.1
    (inr (refuses _ _ _ _ _ c.in_err-keep_image.ensures.asked.0 (takes _ _ _ _ _ _ c.in_ok-keep_apart.ensures.asked (refused _ _ _ _ _ c.in_err-keep_image.ensures.asked)) (search rules)))

pub returns-in_err-keep_blocks-clause-refused : goal.returns-in_err-keep_blocks-clause-refused
returns-in_err-keep_blocks-clause-refused g c =
    of_err c.from_residual-in_err-keep_blocks.result _ _ c.from_residual-in_err-keep_blocks.ensures.1
    (inr (refuses _ _ _ _ _ c.in_err-keep_blocks.ensures.asked.0 (takes _ _ _ _ _ _ c.in_ok-keep_apart.ensures.asked (takes _ _ _ _ _ _ c.in_ok-keep_image.ensures.asked (refused _ _ _ _ _ c.in_err-keep_blocks.ensures.asked))) (search rules)))

pub returns-in_err-device-clause-refused : goal.returns-in_err-device-clause-refused
returns-in_err-device-clause-refused g c =
    of_err c.from_residual-in_err-device.result _ _ c.from_residual-in_err-device.ensures.1
    (inr (refuses _ _ _ _ _ c.in_err-device.ensures.asked.0 (takes _ _ _ _ _ _ c.in_ok-keep_apart.ensures.asked (takes _ _ _ _ _ _ c.in_ok-keep_image.ensures.asked (takes _ _ _ _ _ _ c.in_ok-keep_blocks.ensures.asked (refused _ _ _ _ _ c.in_err-device.ensures.asked)))) (search rules)))

pub returns-clause-built : goal.returns-clause-built
returns-clause-built g c = record {
  reads = read_so _ _ _ _ _ _ c.write_made.ensures.none c.write_made.ensures.made ∙ search rules;
  count = g.F.Blocks.Device.block_count c.in_ok-device.device;
  calls = g.F.Blocks.Device.calls c.do_build-status.new.device;
  all = g.F.Blocks.Device.calls c.if-status-eq1.device;
  shown = search rules;
  used = used_so _ _ _ _ _ _ c.write_made.ensures.none c.write_made.ensures.made ∙ ap (λ f. f.used) c.close_blocks.ensures.used
      ∙ ap (λ u. with_blocks u (g.F.Blocks.Device.calls c.if-status-eq1.device)) (ap (λ f. f.used) c.in_ok-device.ensures.files
      ∙ ap (λ u. with_opened u (g.F.Blocks.Device.block_count c.in_ok-device.device))
      (ap (λ f. f.used) (c.keep_blocks.ensures.files ∙ c.keep_image.ensures.files ∙ c.keep_apart.ensures.files)));
  ended = c.do_build-status.result.status;
  makes = made _ _ c.do_build-status.result.file _ _ _ _ _ _ _ _
      (rw (c.close_blocks.ensures.asked) (takes _ _ _ _ _ _ c.in_ok-keep_apart.ensures.asked (takes _ _ _ _ _ _ c.in_ok-keep_image.ensures.asked (takes _ _ _ _ _ _ c.in_ok-keep_blocks.ensures.asked (taken _ _ _ c.in_ok-device.ensures.asked)))))
      (search rules)
      (both _ _ _ c.do_build-status.ensures.status
      (beside _ _ (g.W.Output.failed c.do_build-status.new.writer) c.do_build-status.result.file (rw (← c.in_ok-device.ensures.fresh) c.do_build-status.ensures.read) c.do_build-status.ensures.told))
      c.write_made.ensures.none c.write_made.ensures.made;
  refused = λ fine lt. rw (← c.in_ok-device.ensures.fresh) (c.do_build-status.ensures.refused fine (no_file _ _ _ (both (λ f. f ≡ f) _ _ c.do_build-status.ensures.status (any c.do_build-status.result.file)) lt));
}
