use Rattle.event_json.proofs.OneFault.{no_fault_of_text, one_fault}
use Rattle.event_json.proofs.laws.faults_are_at_one_place.Goals as goal

pub returns-clause-none : goal.returns-clause-none
returns-clause-none c = no_fault_of_text

pub returns-clause-once : goal.returns-clause-once
returns-clause-once c = one_fault
