use Rattle.std.proofs.Common.{◌≡◌, ◌≤◌, ◌-◌, ◌++◌, ℕ, List, true, length, take, drop}
use Rattle.std.specs.List.{list_all}
use Rattle.machine.specs.Answer.{is_typed}
use Rattle.inner_interpreter.specs.Lines.{line_of, with_front}
use Rattle.forth83_c.proofs.lines.whole_line.Given as goal

-- the bytes so far and the line of what is left are the line of all
abbrev pub invariant-loop-i : goal.invariant-loop-i
invariant-loop-i l = record {
  told : (more : List ℕ) → with_front (take l.i l.typed) (line_of (l.n - l.i) (drop l.i l.typed ++ more)) ≡ line_of l.n (l.typed ++ more);
  typed : list_all is_typed (take l.i l.typed) ≡ true;
  there : l.i ≤ length l.typed;
}
