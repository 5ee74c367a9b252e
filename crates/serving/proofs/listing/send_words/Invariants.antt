use Rattle.std.proofs.Common.{◌≡◌, take}
use Rattle.std.specs.List.{flat_map}
use Rattle.std.specs.Io.KnownBytes.{Appends}
use Rattle.memory.specs.Mirrored.{stored}
use Rattle.serving.specs.Replies.{header_bytes}
use Rattle.serving.proofs.listing.send_words.Given as goal

-- the headers so far were sent
abbrev pub invariant-loop-l : goal.invariant-loop-l
invariant-loop-l g l = record {
  sent : Appends (g.W.Output.sent l.fn.writer) (g.W.Output.sent l.writer) (flat_map (header_bytes (stored l.memory)) (take l.l-index l.headers));
  mark : g.W.Output.failed l.writer ≡ g.W.Output.failed l.fn.writer;
}
