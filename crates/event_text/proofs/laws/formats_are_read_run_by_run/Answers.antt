use Rattle.event_text.proofs.TemplateLaws.{run_read, run_refused}
use Rattle.event_text.proofs.laws.formats_are_read_run_by_run.Goals as goal

pub returns-clause-part : goal.returns-clause-part
returns-clause-part c run rest part parts one other = run_read run rest one other part parts

pub returns-clause-other : goal.returns-clause-other
returns-clause-other c run rest one other = run_refused run rest one other
