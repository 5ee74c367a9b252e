use Rattle.std.proofs.Common.{ℕ, ◌≤◌, List, arith}
use Rattle.memory.specs.Bytes.{put_cell}
use Rattle.colon_bodies.specs.Open.{State, At}
use Rattle.resident_bodies.specs.Drafts.{Beginning, IsDraft}
use Rattle.resident_bodies.proofs.Moved.{moved, moved_name, moved_number, moved_double, moved_text}
use Rattle.resident_bodies.proofs.Rows.{compiles_past_is, lays_past_is}
use Rattle.resident_bodies.proofs.Words.{tick_name}
use Rattle.resident_bodies.proofs.laws.stream_law.Goals as goal

goes_on : (b : Beginning) (r : State) (m d : List ℕ) (q : ℕ) → 256 ≤ b.at → IsDraft b r (m, d) → IsDraft b r (put_cell m 20 q, d)
goes_on b (At o t h) m d q l g = moved b.memory b.at o t h m d b.stack q l g

pub returns-clause-moved : goal.returns-clause-moved
returns-clause-moved c = goes_on

pub returns-clause-name : goal.returns-clause-name
returns-clause-name c = moved_name

pub returns-clause-number : goal.returns-clause-number
returns-clause-number c = moved_number

pub returns-clause-double : goal.returns-clause-double
returns-clause-double c = moved_double

pub returns-clause-text : goal.returns-clause-text
returns-clause-text c = moved_text

pub returns-clause-tick : goal.returns-clause-tick
returns-clause-tick c = λ b o t m d w r g. tick_name b.memory b.at o t m d b.stack w r.low (omega arith) g

pub returns-clause-compiles : goal.returns-clause-compiles
returns-clause-compiles c = compiles_past_is

pub returns-clause-lays : goal.returns-clause-lays
returns-clause-lays c = lays_past_is
