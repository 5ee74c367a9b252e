use Rattle.std.proofs.Common.{◌∙◌, inl, inr, rules}
use Rattle.run_subcommand.proofs.Ran.{moved_by, run_as}
use Rattle.run_subcommand.proofs.run_command.do_run.Goals as goal

pub returns-in-Err-clause-ran : goal.returns-in-Err-clause-ran
returns-in-Err-clause-ran g c = λ file f. inr (record {
  reader_is = search rules;
  device_is = search rules;
  status_is = search rules;
  printed = λ kept. c.refuse_image.ensures.out_of_memory kept (c.in-Err.ensures.accepted file f);
})

pub returns-in-Err-clause-moved : goal.returns-in-Err-clause-moved
returns-in-Err-clause-moved g c = λ heard fine file f. inr (record {
  reader_is = search rules;
  device_is = search rules;
  status_is = search rules;
  printed = λ kept. c.refuse_image.ensures.out_of_memory kept (c.in-Err.ensures.accepted file f);
})

pub returns-in-Ok-run_loaded-clause-ran : goal.returns-in-Ok-run_loaded-clause-ran
returns-in-Ok-run_loaded-clause-ran g c = λ file f. inl (record {
  stop = c.in-Ok-run_loaded.stop;
  status_is = c.end_with.ensures.status ∙ c.status_of.ensures;
  run = run_as _ _ _ _ _ _ (c.in-Ok.ensures.accepted file f) c.in-Ok-run_loaded.ensures.ran;
})

pub returns-in-Ok-run_loaded-clause-moved : goal.returns-in-Ok-run_loaded-clause-moved
returns-in-Ok-run_loaded-clause-moved g c = λ heard fine file f. inl (moved_by _ _ _ _ _ heard fine (record {
  stop = c.in-Ok-run_loaded.stop;
  status_is = c.end_with.ensures.status ∙ c.status_of.ensures;
  run = run_as _ _ _ _ _ _ (c.in-Ok.ensures.accepted file f) c.in-Ok-run_loaded.ensures.ran;
}))

pub returns-in-Ok-run_loaded-clause-passed : goal.returns-in-Ok-run_loaded-clause-passed
returns-in-Ok-run_loaded-clause-passed g c = c.in-Ok-run_loaded.ensures.ran.run.passed
