use Rattle.queue_files.proofs.Torn.{open_heads_stand}
use Rattle.queue_files.proofs.laws.rows_may_be_torn.Goals as goal

pub returns : goal.returns
returns c = open_heads_stand
