use Rattle.metacompiler.proofs.Turns.{turn_six, turn_eight, turn_four}
use Rattle.metacompiler.proofs.laws.turn_law.Goals as goal

pub returns-clause-compiled : goal.returns-clause-compiled
returns-clause-compiled c = λ ws a u v f d s. turn_six ws u v f d a s.low s.before s.behind s.room s.scanned

pub returns-clause-executed : goal.returns-clause-executed
returns-clause-executed c = λ ws a u v z f d e w n s code small last made.
    turn_eight ws u v z f d e a w n s.low s.before s.behind last s.room s.scanned code small made

pub returns-clause-last : goal.returns-clause-last
returns-clause-last c = λ ws a u v f d k s one. turn_four ws u v f d a k s.low s.before s.behind s.room s.scanned one
