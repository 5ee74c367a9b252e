use Rattle.std.proofs.Common.{ap, rules, ◌∙◌, inl, inr}
use Rattle.named_files.proofs.Making.{made, of_err, read_so, refused, refuses, taken, takes}
use Rattle.old_disk_subcommands.proofs.packing.pack_disk.Goals as goal

pub returns-in_err-options-clause-refused : goal.returns-in_err-options-clause-refused
returns-in_err-options-clause-refused g c =
    let same = ap (λ f. f.written) c.in_err-options.ensures.files in
    of_err c.from_residual.result _ _ c.from_residual.ensures.1
    (inl (elim c.in_err-options.ensures.refused [
      | inl h ↦ inl (refuses _ _ _ _ _ h.0 (refused _ _ _ _ _ h) same)
      | inr more ↦ elim more [
        | inl h ↦ inr (inl (refuses _ _ _ _ _ h.0 (refused _ _ _ _ _ h) same))
        | inr h ↦ inr (inr (refuses _ _ _ _ _ h.0 (refused _ _ _ _ _ h) same))
      ]
    ]))

pub returns-in_err-keep_apart-clause-refused : goal.returns-in_err-keep_apart-clause-refused
returns-in_err-keep_apart-clause-refused g c =
    of_err c.from_residual-in_err-keep_apart.result _ _ c.from_residual-in_err-keep_apart.ensures.1
    (inr (rw (← c.in_ok-options.ensures.same) (refuses _ _ _ _ _ c.in_err-keep_apart.ensures.asked.0 (refused _ _ _ _ _ c.in_err-keep_apart.ensures.asked) (search rules))))

pub returns-in_err-keep_blocks-clause-refused : goal.returns-in_err-keep_blocks-clause-refused
returns-in_err-keep_blocks-clause-refused g c =
    of_err c.from_residual-in_err-keep_blocks.result _ _ c.from_residual-in_err-keep_blocks.ensures.1
    (inr (rw (← c.in_ok-options.ensures.same) (refuses _ _ _ _ _ c.in_err-keep_blocks.ensures.asked.0 (takes _ _ _ _ _ _ c.in_ok-keep_apart.ensures.asked (refused _ _ _ _ _ c.in_err-keep_blocks.ensures.asked)) (search rules))))

pub returns-in_err-keep_blocks-2-clause-refused : goal.returns-in_err-keep_blocks-2-clause-refused
returns-in_err-keep_blocks-2-clause-refused g c =
    of_err c.from_residual-in_err-keep_blocks-2.result _ _ c.from_residual-in_err-keep_blocks-2.ensures.1
    (inr (rw (← c.in_ok-options.ensures.same) (refuses _ _ _ _ _ c.in_err-keep_blocks-2.ensures.asked.0 (takes _ _ _ _ _ _ c.in_ok-keep_apart.ensures.asked (takes _ _ _ _ _ _ c.in_ok-keep_blocks.ensures.asked (refused _ _ _ _ _ c.in_err-keep_blocks-2.ensures.asked))) (search rules))))

pub returns-in_err-screens-clause-refused : goal.returns-in_err-screens-clause-refused
returns-in_err-screens-clause-refused g c =
    of_err c.from_residual-in_err-screens.result _ _ c.from_residual-in_err-screens.ensures.1
    (inr (rw (← c.in_ok-options.ensures.same) (refuses _ _ _ _ _ c.in_err-screens.ensures.asked.0 (takes _ _ _ _ _ _ c.in_ok-keep_apart.ensures.asked (takes _ _ _ _ _ _ c.in_ok-keep_blocks.ensures.asked (takes _ _ _ _ _ _ c.in_ok-keep_blocks-2.ensures.asked (refused _ _ _ _ _ c.in_err-screens.ensures.asked)))) (search rules))))

pub returns-in_err-hold-clause-refused : goal.returns-in_err-hold-clause-refused
returns-in_err-hold-clause-refused g c =
    of_err c.from_residual-in_err-hold.result _ _ c.from_residual-in_err-hold.ensures.1
    (inr (rw (← c.in_ok-options.ensures.same) (refuses _ _ _ _ _ c.in_err-hold.ensures.asked.0 (takes _ _ _ _ _ _ c.in_ok-keep_apart.ensures.asked (takes _ _ _ _ _ _ c.in_ok-keep_blocks.ensures.asked (takes _ _ _ _ _ _ c.in_ok-keep_blocks-2.ensures.asked (takes _ _ _ _ _ _ c.in_ok-screens.ensures.asked (refused _ _ _ _ _ c.in_err-hold.ensures.asked))))) (search rules))))

pub returns-in_err-old-clause-refused : goal.returns-in_err-old-clause-refused
returns-in_err-old-clause-refused g c =
    of_err c.from_residual-in_err-old.result _ _ c.from_residual-in_err-old.ensures.1
    (inr (rw (← c.in_ok-options.ensures.same) (refuses _ _ _ _ _ c.in_err-old.ensures.asked.0 (takes _ _ _ _ _ _ c.in_ok-keep_apart.ensures.asked (takes _ _ _ _ _ _ c.in_ok-keep_blocks.ensures.asked (takes _ _ _ _ _ _ c.in_ok-keep_blocks-2.ensures.asked (takes _ _ _ _ _ _ c.in_ok-screens.ensures.asked (takes _ _ _ _ _ _ c.in_ok-hold.ensures.asked (refused _ _ _ _ _ c.in_err-old.ensures.asked)))))) (search rules))))

pub returns-clause-packed : goal.returns-clause-packed
returns-clause-packed g c = rw (← c.in_ok-options.ensures.same) (record {
  screens = c.as_slice.result.now;
  bytes = c.as_slice-2.result.now;
  reads = read_so _ _ _ _ _ _ c.write_made.ensures.none c.write_made.ensures.made ∙ search rules;
  ended = c.do_pack-status.result.status;
  makes = made _ _ c.do_pack-status.result.file _ _ _ _ _ _ _ _
      (takes _ _ _ _ _ _ c.in_ok-keep_apart.ensures.asked (takes _ _ _ _ _ _ c.in_ok-keep_blocks.ensures.asked (takes _ _ _ _ _ _ c.in_ok-keep_blocks-2.ensures.asked (takes _ _ _ _ _ _ c.in_ok-screens.ensures.asked (takes _ _ _ _ _ _ c.in_ok-hold.ensures.asked (taken _ _ _ c.in_ok-old.ensures.asked))))))
      (search rules) c.do_pack-status.ensures.file c.write_made.ensures.none c.write_made.ensures.made;
  printed = c.do_pack-status.ensures.printed;
  refused = c.do_pack-status.ensures.refused;
})
