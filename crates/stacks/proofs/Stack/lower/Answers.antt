use Rattle.std.proofs.Common.{◌≡◌, ◌≤◌, ◌+◌, length, drop, slice_range}
use Rattle.stacks.proofs.Apart.{lowered_within}
use Rattle.stacks.proofs.Stack.lower.Goals as goal

pub returns : goal.returns
returns c =
    let deep : c.args.n ≤ length (slice_range c.self.inside.cells c.self.inside.top 256) = rw c.self.view_is c.requires in
    let all : slice_range c.self.inside.cells (c.self.inside.top + c.args.n) 256 ≡ drop c.args.n (slice_range c.self.inside.cells c.self.inside.top 256) =
    lowered_within c.self.inside.cells c.self.inside.top c.args.n c.self.told c.self.invariant deep in
    rw (← c.self.view_is) all
