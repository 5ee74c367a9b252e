-- How many bytes are sent for a request that may move the machine.
use Rattle.std.specs.Prelude.{ℕ, ◌+◌, ◌≤◌, List, Option, Some, None, Bool, true, false, length}
use Rattle.serving.specs.Requests.{Wish, Run, Answer, Enter, SetCell, SetBytes, PutBack}

-- it moves the machine, or writes to it
abbrev pub may_move : Wish → Bool
may_move (Run limit) = true
may_move (Answer reply) = true
may_move (Enter word) = true
may_move (SetCell address x) = true
may_move (SetBytes at bytes) = true
may_move (PutBack body) = true
may_move _ = false

-- so many bytes more were sent, at most
abbrev pub SendsFew : (most : ℕ) → (old new : Option (List ℕ)) → Type 0
SendsFew most None new = Unit {0}
SendsFew most (Some xs) None = ⊥
SendsFew most (Some xs) (Some ys) = length ys ≤ length xs + most

-- room for its replies: 2,047 frames of one shown byte, 65,536 shown bytes in 32 frames, and the end
abbrev pub move_room : ℕ
move_room = 73830
