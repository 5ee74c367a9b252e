use Rattle.std.proofs.Common.{◌∙◌, inl, inr, rules, subst}
use Rattle.debug_subcommand.proofs.Debugging.{cut_of, faulted_of, moved_of, of_file, ran_of, fault_of, printed_why, printed_want, told_of, unfinished_of, unrun_passes}
use Rattle.debug_subcommand.specs.Traced.{PrintsUntraced}
use Rattle.debug_subcommand.proofs.debug_command.do_debug.Goals as goal

pub returns-in-Err-clause-debugged : goal.returns-in-Err-clause-debugged
returns-in-Err-clause-debugged g c = record {
  ran = search rules;
  untraced = λ fine file f why is. inr (c.refuse_image.ensures.out_of_memory fine (c.in-Err.ensures.accepted file f));
  unmarked = search rules;
  refused = search rules;
  unrun = search rules;
  wanting = λ fine file f traced one. c.refuse_image.ensures.out_of_memory fine (c.in-Err.ensures.accepted file f);
  untouched = search rules;
  output = search rules;
  input = search rules;
  lines = search rules;
  told = search rules;
  one = search rules;
  passed = λ fine kept. (c.refuse_image.ensures.passed fine, λ other. unrun_passes c.refuse_image.ensures.status fine other);
  cut = search rules;
  faulted = search rules;
  unfinished = search rules;
  moved = search rules;
}

pub returns-in_default-clause-debugged : goal.returns-in_default-clause-debugged
returns-in_default-clause-debugged g c = record {
  ran = search rules;
  untraced = search rules;
  unmarked = search rules;
  refused = search rules;
  unrun = search rules;
  wanting = search rules;
  untouched = search rules;
  output = search rules;
  input = search rules;
  lines = search rules;
  told = search rules;
  one = search rules;
  passed = λ fine kept. (c.print_out_of_memory.ensures.passed fine, λ other. unrun_passes c.print_out_of_memory.ensures.status fine other);
  cut = search rules;
  faulted = search rules;
  unfinished = search rules;
  moved = search rules;
}

pub returns-in-Ok-debug-clause-debugged : goal.returns-in-Ok-debug-clause-debugged
returns-in-Ok-debug-clause-debugged g c =
    let status = c.end_with.ensures.status ∙ c.status_of.ensures in
    record {
      ran = λ other fine good kept file f. ran_of file _ c.count.ensures.told status (of_file c.in-Ok-load.ensures (c.in-Ok.ensures.accepted file f) c.as_bytes-text.ensures.value c.in-Ok-debug.ensures.debugged) fine good kept;
      untraced = search rules;
      unmarked = search rules;
      refused = search rules;
      unrun = search rules;
      wanting = search rules;
      untouched = search rules;
      output = search rules;
      input = search rules;
      lines = search rules;
      told = told_of _ _ _ c.in-Ok-load.ensures status c.in-Ok-debug.ensures.debugged;
      one = search rules;
      passed = λ fine kept. let p = c.in-Ok-debug.ensures.debugged.run.passed fine kept in (p.0, λ other. p.1);
      cut = λ fine failed file f typed u disk k sent s. inl (cut_of file c.count.ensures.told (of_file c.in-Ok-load.ensures (c.in-Ok.ensures.accepted file f) c.as_bytes-text.ensures.value c.in-Ok-debug.ensures.debugged) fine failed typed u disk k sent s);
      faulted = λ fine failed file f. faulted_of file c.count.ensures.told (of_file c.in-Ok-load.ensures (c.in-Ok.ensures.accepted file f) c.as_bytes-text.ensures.value c.in-Ok-debug.ensures.debugged) fine failed;
      unfinished = λ fine failed file f. unfinished_of file c.count.ensures.told (of_file c.in-Ok-load.ensures (c.in-Ok.ensures.accepted file f) c.as_bytes-text.ensures.value c.in-Ok-debug.ensures.debugged) fine failed;
      moved = λ file f traced. inl (moved_of _ c.count.ensures.value status (of_file c.in-Ok-load.ensures (c.in-Ok.ensures.accepted file f) c.as_bytes-text.ensures.value c.in-Ok-debug.ensures.debugged));
    }

pub returns-clause-debugged : goal.returns-clause-debugged
returns-clause-debugged g c = record {
  ran = search rules;
  untraced = λ fine file f why is. printed_why _ _ _ _ _ _ _ is
      (fault_of c.in-Ok-load.ensures (c.in-Ok.ensures.accepted file f) c.as_bytes-text.ensures.value c.in-Err-debug.ensures.refused)
      (subst (λ w. PrintsUntraced c.args.name.now c.in-Err-debug.fault c.refuse_debug.result.status (g.W.Output.sent w) (g.W.Output.sent c.refuse_debug.new.writer)) c.in-Err-debug.ensures.writer (c.refuse_debug.ensures.printed fine));
  unmarked = search rules;
  refused = search rules;
  unrun = search rules;
  wanting = λ fine file f ok one. printed_want _ _ _ _ _ _ ok
      (fault_of c.in-Ok-load.ensures (c.in-Ok.ensures.accepted file f) c.as_bytes-text.ensures.value c.in-Err-debug.ensures.refused)
      (subst (λ w. PrintsUntraced c.args.name.now c.in-Err-debug.fault c.refuse_debug.result.status (g.W.Output.sent w) (g.W.Output.sent c.refuse_debug.new.writer)) c.in-Err-debug.ensures.writer (c.refuse_debug.ensures.printed fine));
  untouched = search rules;
  output = search rules;
  input = search rules;
  lines = search rules;
  told = search rules;
  one = search rules;
  passed = λ fine kept. (c.refuse_debug.ensures.passed fine, λ other. unrun_passes c.refuse_debug.ensures.status fine other);
  cut = search rules;
  faulted = search rules;
  unfinished = search rules;
  moved = search rules;
}
