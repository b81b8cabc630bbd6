use Rattle.event_json.proofs.OneFault.{one_value, computed}
use Rattle.event_json.proofs.laws.texts_have_one_value.Goals as goal

pub returns-clause-once : goal.returns-clause-once
returns-clause-once c = one_value

pub returns-clause-computed : goal.returns-clause-computed
returns-clause-computed c = computed
