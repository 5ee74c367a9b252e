use Rattle.std.proofs.Common.{◌≡◌, ℕ, List, Some, arith}
use Rattle.colon_bodies.specs.Tokens.{Token, laid_by}
use Rattle.colon_bodies.specs.Open.{State, At}
use Rattle.resident_bodies.specs.Words.{lays}
use Rattle.resident_bodies.specs.Drafts.{Beginning, HasRoom, IsDraft, read_on}
use Rattle.resident_bodies.proofs.Words.{word_is}
use Rattle.resident_bodies.proofs.laws.word_law.Goals as goal

word : (b : Beginning) (r q : State) (w : Token) (m d : List ℕ) → HasRoom b.at m (laid_by w) → read_on r w ≡ Some q → IsDraft b r (m, d) → IsDraft b q (lays w m d)
word b (At o t h) (At p u k) w m d room e g =
    word_is b.memory b.at o p t u h k w m d b.stack room.low (omega arith) e g

pub returns : goal.returns
returns c = word
