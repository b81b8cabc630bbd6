use Rattle.queue_page.proofs.Spelling.{runs_are_longest}
use Rattle.queue_page.proofs.laws.runs_are_longest.Goals as goal

pub returns : goal.returns
returns c = runs_are_longest
