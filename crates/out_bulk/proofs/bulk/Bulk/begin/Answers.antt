use Rattle.out_bulk.proofs.Keeping.{unsettled_kept}
use Rattle.out_bulk.proofs.bulk.Bulk.begin.Goals as goal

pub returns-then-not-are_same-clause-of_these : goal.returns-then-not-are_same-clause-of_these
returns-then-not-are_same-clause-of_these g c = unsettled_kept _ _ c.args.events.now _ c.clear-then-not-are_same.ensures
