use Rattle.std.proofs.Common.{refl, rules}
use Rattle.inner_interpreter.proofs.machine_runs.run.Goals as goal

pub returns-clause-runs : goal.returns-clause-runs
returns-clause-runs g c =
    let r = c.in_ok-stop.ensures.runs in
    record {
      whole = λ fine good w at. (r.whole fine good refl w at).ends;
      ended = λ fine good. r.ended fine good refl;
      ends_told = r.ends_told;
      cut = λ fine failed w at. (r.cut fine failed w at).cut;
      faulted = λ fine failed w at. (r.faulted fine failed w at).faulted;
      passed = λ fine. (r.passed fine refl).0;
      moved = r.moved.run;
      untraced = search rules;
    }
