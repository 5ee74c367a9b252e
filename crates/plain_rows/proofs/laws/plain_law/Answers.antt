use Rattle.plain_rows.proofs.Plain.{plain_control, plain_stack, plain_cells, plain_doubles, plain_memory}
use Rattle.plain_rows.proofs.laws.plain_law.Goals as goal

pub returns-clause-control : goal.returns-clause-control
returns-clause-control c = plain_control

pub returns-clause-stack : goal.returns-clause-stack
returns-clause-stack c = plain_stack

pub returns-clause-cells : goal.returns-clause-cells
returns-clause-cells c = plain_cells

pub returns-clause-doubles : goal.returns-clause-doubles
returns-clause-doubles c = plain_doubles

pub returns-clause-memory : goal.returns-clause-memory
returns-clause-memory c = plain_memory
