use Rattle.queue_files.proofs.TornMarks.{marks_keep}
use Rattle.queue_files.proofs.WholeMarks.{marks_record}
use Rattle.queue_files.proofs.folder_laws.marks_keep_the_queue.Goals as goal

pub returns-clause-any_moment : goal.returns-clause-any_moment
returns-clause-any_moment c = marks_keep

pub returns-clause-recorded : goal.returns-clause-recorded
returns-clause-recorded c = marks_record
