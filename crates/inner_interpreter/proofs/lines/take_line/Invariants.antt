use Rattle.std.proofs.Common.{◌≡◌, ◌≤◌, ◌-◌, ◌++◌, ℕ, List, Some, true, vec_len, vec_capacity, length}
use Rattle.std.specs.List.{list_all}
use Rattle.machine.specs.Answer.{is_typed}
use Rattle.inner_interpreter.specs.Lines.{line_of, with_front}
use Rattle.inner_interpreter.specs.Reads.{as_given}
use Rattle.inner_interpreter.proofs.lines.take_line.Given as goal

-- the bytes so far and the line of what is left are the line of all
abbrev pub invariant-loop : goal.invariant-loop
invariant-loop g l = record {
  told : (typed : List ℕ) → g.R.Input.unread l.fn.reader ≡ Some typed → (rest : List ℕ) × (g.R.Input.unread l.reader ≡ Some rest) × (with_front l.line.items (line_of (l.n - l.counter) rest) ≡ line_of l.n typed);
  read : (typed : List ℕ) → g.R.Input.unread l.fn.reader ≡ Some typed → (rest : List ℕ) × (g.R.Input.unread l.reader ≡ Some rest) × (typed ≡ l.line.items ++ rest);
  typed : list_all is_typed l.line.items ≡ true;
  count : vec_len l.line ≤ l.counter;
  full : length l.line.items ≡ l.counter;
  given : g.R.Input.reads l.reader ≡ g.R.Input.reads l.fn.reader ++ as_given l.line.items;
  room : 65535 ≤ vec_capacity l.line;
  mark : g.R.Input.failed l.reader ≡ g.R.Input.failed l.fn.reader;
}
