use Rattle.std.proofs.Common.{◌≡◌, ◌≤◌, ◌+◌, ◌++◌, take, vec_capacity, vec_len}
use Rattle.serving.proofs.text.add.Given as goal

-- the bytes so far were added
abbrev pub invariant-loop-byte : goal.invariant-loop-byte
invariant-loop-byte l = record {
  added : l.bytes.items ≡ l.fn.bytes.items ++ take l.byte-index l.part;
  count : vec_len l.bytes ≡ vec_len l.fn.bytes + l.byte-index;
  room : 1245184 ≤ vec_capacity l.bytes;
}
