use Rattle.std.proofs.Common.{ap, rules, ◌≡◌, ◌∙◌, inl, inr}
use Rattle.named_files.proofs.Making.{any, both, made, no_file, of_err, read_so, refused, refuses, taken, takes}
use Rattle.file_subcommands.proofs.Making.{upgraded_file}
use Rattle.file_subcommands.proofs.building.upgrade_image.Goals as goal

pub returns-then-not-may_be_wanted-clause-refused : goal.returns-then-not-may_be_wanted-clause-refused
returns-then-not-may_be_wanted-clause-refused g c = inl (search rules, refuses _ _ _ _ _ c.refuse_use.ensures.asked.0 (refused _ _ _ _ _ c.refuse_use.ensures.asked) (ap (λ f. f.written) c.refuse_use.ensures.files))

pub returns-in_err-keep_image-clause-refused : goal.returns-in_err-keep_image-clause-refused
returns-in_err-keep_image-clause-refused g c =
    of_err c.from_residual.result _ _ c.from_residual.ensures.1
    (inr (refuses _ _ _ _ _ c.in_err-keep_image.ensures.asked.0 (refused _ _ _ _ _ c.in_err-keep_image.ensures.asked) (search rules)))

pub returns-in_err-bytes-clause-refused : goal.returns-in_err-bytes-clause-refused
returns-in_err-bytes-clause-refused g c =
    of_err c.from_residual-in_err-bytes.result _ _ c.from_residual-in_err-bytes.ensures.1
    (inr (refuses _ _ _ _ _ c.in_err-bytes.ensures.asked.0 (takes _ _ _ _ _ _ c.in_ok-keep_image.ensures.asked (refused _ _ _ _ _ c.in_err-bytes.ensures.asked)) (search rules)))

pub returns-clause-upgraded : goal.returns-clause-upgraded
returns-clause-upgraded g c = record {
  bytes = c.as_slice.result.now;
  reads = read_so _ _ _ _ _ _ c.write_made.ensures.none c.write_made.ensures.made ∙ search rules;
  ended = c.do_upgrade-status.result.status;
  makes = made _ _ c.do_upgrade-status.result.file _ _ _ _ _ _ _ _
      (takes _ _ _ _ _ _ c.in_ok-keep_image.ensures.asked (taken _ _ _ c.in_ok-bytes.ensures.asked)) (search rules)
      (both _ _ _ c.do_upgrade-status.ensures.status (upgraded_file c.as_slice.result.now c.args.upgrade.buffers (g.W.Output.failed c.do_upgrade-status.new.writer) c.do_upgrade-status.result.file (g.W.Output.sent c.args.writer.now) (g.W.Output.sent c.do_upgrade-status.new.writer) c.do_upgrade-status.ensures.upgraded))
      c.write_made.ensures.none c.write_made.ensures.made;
  refused = c.do_upgrade-status.ensures.refused;
  too_large = c.do_upgrade-status.ensures.too_large;
  wanting = λ fine lt. c.do_upgrade-status.ensures.wanting fine (no_file _ _ _ (both (λ f. f ≡ f) _ _ c.do_upgrade-status.ensures.status (any c.do_upgrade-status.result.file)) lt);
}
