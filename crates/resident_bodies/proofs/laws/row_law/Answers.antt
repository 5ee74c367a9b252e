use Rattle.std.proofs.Common.{◌≡◌, ◌≤◌, ℕ, Some, length, arith}
use Rattle.machine_parts.specs.Whole.{Whole}
use Rattle.machine_parts.specs.declared.parts.Outcome.TheVariants.{Done}
use Rattle.primitives.specs.Table.{row}
use Rattle.colon_bodies.specs.declared.words.Half.TheVariants.{Free, Compiling}
use Rattle.colon_bodies.specs.Tokens.{Token, NAME, FORCE, laid_by}
use Rattle.colon_bodies.specs.Open.{State, At}
use Rattle.resident_bodies.specs.Words.{FitsHere, behind_word, row_of}
use Rattle.resident_bodies.specs.Drafts.{Beginning, IsDraft, read_on}
use Rattle.resident_bodies.proofs.Rows.{row_is, semicolon_is}
use Rattle.resident_bodies.proofs.laws.row_law.Goals as goal

-- a keyword that has a row fits only if nothing is half read
keyword : (b : Beginning) (r q : State) (k : Token) (n w : ℕ) (s : Whole) → IsDraft b r (s.memory, s.values) → read_on r k ≡ Some q → FitsHere s (laid_by k) → length s.values ≤ 250 → row_of k ≡ Some n → row n w s ≡ (behind_word k s, Done)
keyword b (At o t h) q (NAME v) n w s g e f c r = cc
keyword b (At o t Free) (At p u i) k n w s g e f c r =
    row_is b.memory b.at o p t u i k n w s b.stack (omega arith) c r e g
keyword b (At o t Compiling) q FORCE n w s g e f c r = cc
keyword b (At o t _) q _ n w s g e f c r = cc

pub returns-clause-keyword : goal.returns-clause-keyword
returns-clause-keyword c = λ b r k n w s m e. keyword b r m.behind k n w s m.draft m.fits m.room m.cells e

pub returns-clause-semicolon : goal.returns-clause-semicolon
returns-clause-semicolon c = semicolon_is
