use Rattle.std.proofs.Common.{ap, rules, inr}
use Rattle.named_files.proofs.Making.{a_file, made, no_file, of_err, passed_on, read_so, refused, refuses, taken, takes}
use Rattle.file_subcommands.specs.Filed.{wanted_of}
use Rattle.file_subcommands.proofs.Making.{read_old}
use Rattle.file_subcommands.proofs.disks.export_screens.Goals as goal

pub returns-in_err-keep_apart-clause-refused : goal.returns-in_err-keep_apart-clause-refused
returns-in_err-keep_apart-clause-refused g c =
    of_err c.from_residual-in_err-keep_apart.result _ _ c.from_residual-in_err-keep_apart.ensures.1
    (inr (rw (← c.in_ok-layout.ensures.same, ← c.in_ok-layout.ensures.silent)
    (refuses _ _ _ _ _ c.in_err-keep_apart.ensures.asked.0 (refused _ _ _ _ _ c.in_err-keep_apart.ensures.asked) (search rules))))

pub returns-in_err-keep_blocks-clause-refused : goal.returns-in_err-keep_blocks-clause-refused
returns-in_err-keep_blocks-clause-refused g c =
    of_err c.from_residual-in_err-keep_blocks.result _ _ c.from_residual-in_err-keep_blocks.ensures.1
    (inr (rw (← c.in_ok-layout.ensures.same, ← c.in_ok-layout.ensures.silent)
    (refuses _ _ _ _ _ c.in_err-keep_blocks.ensures.asked.0 (takes _ _ _ _ _ _ c.in_ok-keep_apart.ensures.asked (refused _ _ _ _ _ c.in_err-keep_blocks.ensures.asked)) (search rules))))

pub returns-in_err-keep_blocks-2-clause-refused : goal.returns-in_err-keep_blocks-2-clause-refused
returns-in_err-keep_blocks-2-clause-refused g c =
    of_err c.from_residual-in_err-keep_blocks-2.result _ _ c.from_residual-in_err-keep_blocks-2.ensures.1
    (inr (rw (← c.in_ok-layout.ensures.same, ← c.in_ok-layout.ensures.silent)
    (refuses _ _ _ _ _ c.in_err-keep_blocks-2.ensures.asked.0 (takes _ _ _ _ _ _ c.in_ok-keep_apart.ensures.asked (takes _ _ _ _ _ _ c.in_ok-keep_blocks.ensures.asked (refused _ _ _ _ _ c.in_err-keep_blocks-2.ensures.asked))) (search rules))))

pub returns-in_err-screens-clause-refused : goal.returns-in_err-screens-clause-refused
returns-in_err-screens-clause-refused g c =
    of_err c.from_residual-in_err-screens.result _ _ c.from_residual-in_err-screens.ensures.1
    (inr (rw (← c.in_ok-layout.ensures.same, ← c.in_ok-layout.ensures.silent)
    (refuses _ _ _ _ _ c.in_err-screens.ensures.asked.0 (takes _ _ _ _ _ _ c.in_ok-keep_apart.ensures.asked (takes _ _ _ _ _ _ c.in_ok-keep_blocks.ensures.asked (takes _ _ _ _ _ _ c.in_ok-keep_blocks-2.ensures.asked (refused _ _ _ _ _ c.in_err-screens.ensures.asked)))) (search rules))))

pub returns-in_err-hold-clause-refused : goal.returns-in_err-hold-clause-refused
returns-in_err-hold-clause-refused g c =
    of_err c.from_residual-in_err-hold.result _ _ c.from_residual-in_err-hold.ensures.1
    (inr (rw (← c.in_ok-layout.ensures.same, ← c.in_ok-layout.ensures.silent)
    (refuses _ _ _ _ _ c.in_err-hold.ensures.asked.0 (takes _ _ _ _ _ _ c.in_ok-keep_apart.ensures.asked (takes _ _ _ _ _ _ c.in_ok-keep_blocks.ensures.asked (takes _ _ _ _ _ _ c.in_ok-keep_blocks-2.ensures.asked (takes _ _ _ _ _ _ c.in_ok-screens.ensures.asked (refused _ _ _ _ _ c.in_err-hold.ensures.asked))))) (search rules))))

pub returns-in_err-before-clause-refused : goal.returns-in_err-before-clause-refused
returns-in_err-before-clause-refused g c =
    of_err c.from_residual-in_err-before.result _ _ c.from_residual-in_err-before.ensures.1
    (inr (rw (← c.in_ok-layout.ensures.same, ← c.in_ok-layout.ensures.silent)
    (refuses _ _ _ _ _ c.in_err-before.ensures.asked.0 (takes _ _ _ _ _ _ c.in_ok-keep_apart.ensures.asked (takes _ _ _ _ _ _ c.in_ok-keep_blocks.ensures.asked (takes _ _ _ _ _ _ c.in_ok-keep_blocks-2.ensures.asked (takes _ _ _ _ _ _ c.in_ok-screens.ensures.asked (takes _ _ _ _ _ _ c.in_ok-hold.ensures.asked (refused _ _ _ _ _ c.in_err-before.ensures.asked)))))) (search rules))))

pub returns-clause-exported : goal.returns-clause-exported
returns-clause-exported g c = rw (← c.in_ok-layout.ensures.same, ← c.in_ok-layout.ensures.silent) (record {
  layout = c.in_ok-layout.layout;
  is_wanted = c.in_ok-layout.ensures.wanted;
  screens = c.as_slice.result.now;
  before = _;
  reads = read_old (wanted_of c.args.disk) _ c.in_ok-before.before _ _ _ _ _ _ (search rules) c.in_ok-before.ensures.read
      (read_so _ _ _ _ _ _ c.write_made.ensures.none c.write_made.ensures.made);
  ended = c.exported-status.result.status;
  makes = made _ _ c.exported-status.result.file _ _ _ _ _ _ _ _
      (takes _ _ _ _ _ _ c.in_ok-keep_apart.ensures.asked (takes _ _ _ _ _ _ c.in_ok-keep_blocks.ensures.asked
      (takes _ _ _ _ _ _ c.in_ok-keep_blocks-2.ensures.asked (takes _ _ _ _ _ _ c.in_ok-screens.ensures.asked
      (takes _ _ _ _ _ _ c.in_ok-hold.ensures.asked (taken _ _ _ c.in_ok-before.ensures.asked))))))
      (search rules) c.exported-status.ensures.file c.write_made.ensures.none c.write_made.ensures.made;
  silent = λ e. ap g.W.Output.sent (c.exported-status.ensures.silent (a_file _ _ _ c.exported-status.ensures.file e));
  refused = λ fine lt. c.exported-status.ensures.refused fine (no_file _ _ _ c.exported-status.ensures.file lt);
})

pub returns-clause-passed : goal.returns-clause-passed
returns-clause-passed g c = rw (← c.in_ok-layout.ensures.silent)
    (passed_on g.W.Output.sent _ _ _ _ _ c.exported-status.result.file c.exported-status.ensures.silent c.exported-status.ensures.passed)
