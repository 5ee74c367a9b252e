use Rattle.std.proofs.Common.{rules}
use Rattle.machine.proofs.Ran.{without_ip}
use Rattle.machine.proofs.lent_machine.LentMachine.ticks.Goals as goal

pub returns-clause-went : goal.returns-clause-went
returns-clause-went c = ((search rules, search rules), without_ip _ _ _ _ _ _ _ c.ticks_running-made.ensures.ran)
