use Rattle.std.proofs.Common.{rules}
use Rattle.line_core.proofs.BatchesStay.{found}
use Rattle.line_core.proofs.summing.first_to_deliver.Goals as goal

pub returns-then-not-batch : goal.returns-then-not-batch
returns-then-not-batch c = found c.args.batches.now c.loop-at.at c.index-batches-at.result (search rules) (search rules)
