use Rattle.serve_subcommand.proofs.Ended.{passed_on, cut_off}
use Rattle.serve_subcommand.proofs.serve_command.sit.Goals as goal

pub returns-clause-served : goal.returns-clause-served
returns-clause-served g c = record {
  how = c.serve-ending.result;
  state = c.serve-ending.new.machine;
  calls = g.D.Device.calls c.serve-ending.new.device;
  served = rw c.load-machine.ensures at c.serve-ending.ensures.served;
  saved = rw c.count-count.ensures.value at c.finish.ensures;
}

pub returns-clause-passed : goal.returns-clause-passed
returns-clause-passed g c = passed_on _ _ _ _ _ _ _ _ _ _ _ _ c.serve-ending.ensures.writer c.finish.ensures

pub returns-clause-cut : goal.returns-clause-cut
returns-clause-cut g c = cut_off _ _ _ _ _ _ _ _ _ _ _ _ c.serve-ending.ensures.writer c.finish.ensures
