use Rattle.queue_files.proofs.Removals.{unread_may_go}
use Rattle.queue_files.proofs.folder_laws.unread_files_may_go.Goals as goal

pub returns : goal.returns
returns c = unread_may_go
