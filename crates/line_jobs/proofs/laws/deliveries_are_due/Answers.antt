use Rattle.line_jobs.proofs.Dues.{deliveries_due}
use Rattle.line_jobs.proofs.laws.deliveries_are_due.Goals as goal

pub returns : goal.returns
returns c config draws es verdicts own = deliveries_due config draws es verdicts own
