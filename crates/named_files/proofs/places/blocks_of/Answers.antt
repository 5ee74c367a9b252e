use Rattle.std.proofs.Common.{◌∙◌, refl}
use Rattle.named_files.proofs.Copying.{keeps_all, keeps_more, no_block, no_reads, one_block, reads_more}
use Rattle.named_files.proofs.places.blocks_of.Goals as goal

pub loop-number-init : goal.loop-number-init
loop-number-init g c = record { kept = keeps_all _; counted = refl; read = no_block _ _; only_reads = no_reads _ }

pub loop-number-preserved : goal.loop-number-preserved
loop-number-preserved g c =
    let i = c.loop-number.invariant in
    record {
      kept = keeps_more _ _ _ i.kept c.block_in.ensures.kept;
      counted = c.block_in.ensures.counted ∙ i.counted;
      read = one_block _ _ _ _ _ _ _ i.counted i.read c.in-Some.ensures.read.0 c.in-Some.ensures.read.1;
      only_reads = reads_more _ _ _ i.only_reads c.block_in.ensures.only_reads;
    }

pub returns-in-Err-clause-only_reads : goal.returns-in-Err-clause-only_reads
returns-in-Err-clause-only_reads g c = reads_more _ _ _ c.loop-number.invariant.only_reads c.block_in.ensures.only_reads

pub returns-in-Err-clause-counted : goal.returns-in-Err-clause-counted
returns-in-Err-clause-counted g c = c.block_in.ensures.counted ∙ c.loop-number.invariant.counted
