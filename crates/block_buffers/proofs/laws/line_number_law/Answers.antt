use Rattle.block_buffers.proofs.ScreenLines.{delete_on, insert_on, line_on, put_on}
use Rattle.block_buffers.proofs.laws.line_number_law.Goals as goal

pub returns-clause-read : goal.returns-clause-read
returns-clause-read c = line_on

pub returns-clause-put : goal.returns-clause-put
returns-clause-put c = put_on

pub returns-clause-inserted : goal.returns-clause-inserted
returns-clause-inserted c = insert_on

pub returns-clause-deleted : goal.returns-clause-deleted
returns-clause-deleted c = delete_on
