use Rattle.memory.specs.Mirrored.{stored}
use Rattle.std.proofs.Common.{arith, ◌∙◌}
use Rattle.std.proofs.lemmas.List.{length-set}
use Rattle.memory.specs.Bytes.{bytes}
use Rattle.input_source.proofs.Copies.{copied_more}
use Rattle.input_source.proofs.placing.copied.Goals as goal

pub loop-i-preserved : goal.loop-i-preserved
loop-i-preserved c = record {
  len = length-set c.loop-i.copy c.loop-i.i c.byte_in.result ∙ c.loop-i.invariant.len;
  same =
      copied_more c.loop-i.copy (bytes (stored c.args.memory.now) c.args.at c.args.n) c.loop-i.i c.byte_in.result c.loop-i.invariant.same c.byte_in.ensures.value
      (omega (arith, c.byte_in.ensures.len)) (omega arith);
}
