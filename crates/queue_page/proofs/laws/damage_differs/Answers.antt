use Rattle.queue_page.proofs.Differing.{damage_differs}
use Rattle.queue_page.proofs.laws.damage_differs.Goals as goal

pub returns : goal.returns
returns c = damage_differs
