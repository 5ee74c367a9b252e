use Rattle.std.proofs.Common.{rules}
use Rattle.memory.specs.Mirrored.{stored}
use Rattle.serving.specs.Replies.{header_bytes}
use Rattle.serving.proofs.States.{piece_cut}
use Rattle.serving.proofs.listing.send_words.Goals as goal

pub returns-in-Err-clause-err : goal.returns-in-Err-clause-err
returns-in-Err-clause-err g c = piece_cut (header_bytes (stored c.args.memory.now)) c.args.headers.now c.loop-l.l-index 0 _ _ _ (search rules) c.loop-l.invariant.sent (search rules)
