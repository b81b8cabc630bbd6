use Rattle.std.proofs.Common.{rules}
use Rattle.line_core.proofs.BatchesStay.{found}
use Rattle.line_core.proofs.summing.first_finished.Goals as goal

pub returns-then-is_finished : goal.returns-then-is_finished
returns-then-is_finished c = found c.args.batches.now c.loop-at.at c.index-batches-at.result (search rules) (search rules)
