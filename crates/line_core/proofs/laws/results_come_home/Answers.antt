use Rattle.line_core.proofs.JobsHome.{come_home}
use Rattle.line_core.proofs.laws.results_come_home.Goals as goal

pub returns : goal.returns
returns g c = come_home _
