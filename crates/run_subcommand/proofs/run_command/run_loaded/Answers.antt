use Rattle.run_subcommand.proofs.Ran.{run_of}
use Rattle.run_subcommand.proofs.run_command.run_loaded.Goals as goal

pub returns-clause-ran : goal.returns-clause-ran
returns-clause-ran g c = run_of _ _ _ _ _ _ _ _ c.in_ok-machine.ensures c.count.ensures.value c.in_ok-stop.ensures.runs
