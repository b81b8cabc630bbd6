use Rattle.pq_tools.proofs.DamagesDiffer.{opened_damage_differs}
use Rattle.pq_tools.proofs.laws.damage_differs.Goals as goal

pub returns : goal.returns
returns c = opened_damage_differs
