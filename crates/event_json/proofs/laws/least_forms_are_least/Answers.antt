use Rattle.event_json.proofs.LeastForms.{least_some, least_none}
use Rattle.event_json.proofs.laws.least_forms_are_least.Goals as goal

pub returns-clause-some : goal.returns-clause-some
returns-clause-some c mantissa places n h = least_some mantissa places n h

pub returns-clause-none : goal.returns-clause-none
returns-clause-none c mantissa places n h least same = least_none mantissa places h n least same
