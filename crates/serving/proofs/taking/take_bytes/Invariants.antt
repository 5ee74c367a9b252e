use Rattle.std.proofs.Common.{◌≡◌, ◌≤◌, ◌++◌, vec_len, vec_capacity, length}
use Rattle.inner_interpreter.specs.Reads.{as_given}
use Rattle.serving.proofs.taking.take_bytes.Given as goal

-- the bytes so far were given
abbrev pub invariant-loop : goal.invariant-loop
invariant-loop g l = record {
  count : vec_len l.bytes ≤ l.counter;
  full : length l.bytes.items ≡ l.counter;
  given : g.R.Input.reads l.reader ≡ g.R.Input.reads l.fn.reader ++ as_given l.bytes.items;
  mark : g.R.Input.failed l.reader ≡ g.R.Input.failed l.fn.reader;
  room : 65535 ≤ vec_capacity l.bytes;
}
