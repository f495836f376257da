use Rattle.frames.proofs.FaultLaws.{faults_stand}
use Rattle.frames.proofs.frame.FrameFault.number.Goals as goal

pub returns-in-Digits-clause-meaning : goal.returns-in-Digits-clause-meaning
returns-in-Digits-clause-meaning c = faults_stand

pub returns-in-Check-clause-meaning : goal.returns-in-Check-clause-meaning
returns-in-Check-clause-meaning c = faults_stand

pub returns-in-Kind-clause-meaning : goal.returns-in-Kind-clause-meaning
returns-in-Kind-clause-meaning c = faults_stand

pub returns-in-Field-clause-meaning : goal.returns-in-Field-clause-meaning
returns-in-Field-clause-meaning c = faults_stand
