use Rattle.event_text.proofs.LawLemmas.{fault_once}
use Rattle.event_text.proofs.PathFaults.{fault_is, no_fault}
use Rattle.event_text.proofs.laws.path_faults_are_first.Goals as goal

pub returns-clause-once : goal.returns-clause-once
returns-clause-once c fault other text n m h k = fault_once fault other text n m h k

pub returns-clause-computed : goal.returns-clause-computed
returns-clause-computed c fault text n h = fault_is fault text n h

pub returns-clause-none : goal.returns-clause-none
returns-clause-none c ps text h = no_fault ps text h
