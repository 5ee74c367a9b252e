use Rattle.std.proofs.Common.{◌∙◌, ap, set, get_or, arith}
use Rattle.std.proofs.lemmas.List.{get_or_default}
use Rattle.std.proofs.lemmas.List.Edits.{map_over_more}
use Rattle.containers.specs.Cleaning.{cleaned_byte}
use Rattle.containers.proofs.cleaning.clean.Goals as goal

pub loop-byte-preserved : goal.loop-byte-preserved
loop-byte-preserved c =
    ap (set c.loop-byte.bytes c.loop-byte.byte-index) c.cleaned_byte.ensures
    ∙ map_over_more cleaned_byte c.args.bytes.now c.loop-byte.bytes c.loop-byte.byte-index (get_or c.loop-byte.bytes c.loop-byte.byte-index 0) (omega arith) c.loop-byte.invariant
    (get_or_default c.loop-byte.bytes c.loop-byte.byte-index 0 (get_or c.loop-byte.bytes c.loop-byte.byte-index 0) (omega arith))
