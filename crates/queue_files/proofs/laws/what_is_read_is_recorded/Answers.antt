use Rattle.queue_files.proofs.Recording.{read_is_recorded}
use Rattle.queue_files.proofs.laws.what_is_read_is_recorded.Goals as goal

pub returns : goal.returns
returns c = read_is_recorded
