use Rattle.std.proofs.Common.{◌≡◌, reverse}
use Rattle.std.specs.Prelude.{take}
use Rattle.std.specs.List.{flat_map}
use Rattle.std.specs.Io.KnownBytes.{Appends}
use Rattle.debug_tracer.specs.Lines.{signed_text}
use Rattle.debug_tracer.proofs.lines.send_values.Given as goal

-- the cells below this place were sent
abbrev pub invariant-loop-place : goal.invariant-loop-place
invariant-loop-place g l = record {
  told : Appends (g.T.Output.sent l.fn.trace) (g.T.Output.sent l.trace) (flat_map signed_text (take l.place (reverse l.values)));
  mark : g.T.Output.failed l.trace ≡ g.T.Output.failed l.fn.trace;
}
