use Rattle.out_bulk.proofs.Keeping.{asked_kept}
use Rattle.out_bulk.proofs.bulk.Bulk.ask.Goals as goal

pub invariant_of-self : goal.invariant_of-self
invariant_of-self g c = asked_kept _ _ _ _ _ _ _ _ c.ask.ensures.asked c.self.invariant

pub invariant_of-self-2 : goal.invariant_of-self-2
invariant_of-self-2 g c = asked_kept _ _ _ _ _ _ _ _ c.ask.ensures.asked c.self.invariant
