use Rattle.std.proofs.Common.{rules}
use Rattle.forth83_c.proofs.Replying.{filled_more, more_size}
use Rattle.forth83_c.proofs.replies.RepliesOutput.send.Goals as goal

pub invariant_of-self : goal.invariant_of-self
invariant_of-self c = record {
  put = filled_more _ _ _ c.args.bytes.now c.args.self.now.room.now _ c.args.self.now.size c.args.self.now.put c.args.self.now.counted (search rules) c.grown-self.ensures.0 c.put_part.ensures;
  counted = more_size c.args.self.now.taken.bytes _ c.args.bytes.now c.args.self.now.size _ c.args.self.now.counted c.grown-self.ensures.0 c.saturating_add-self.ensures;
}
