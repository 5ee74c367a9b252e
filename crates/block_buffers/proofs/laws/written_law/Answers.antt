use Rattle.std.proofs.Common.{[], get_or-set_same, get_or-set_other, length-set}
use Rattle.block_buffers.proofs.laws.written_law.Goals as goal

pub returns-clause-block : goal.returns-clause-block
returns-clause-block c = λ d n page l. get_or-set_same d.blocks n page [] l

pub returns-clause-others : goal.returns-clause-others
returns-clause-others c = λ d n m page h. get_or-set_other d.blocks n m page [] h

pub returns-clause-count : goal.returns-clause-count
returns-clause-count c = λ d n page. length-set d.blocks n page
