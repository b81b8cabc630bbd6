use Rattle.dead_letters.proofs.RecordReads.{records_are_read_back, records_are_spelled}
use Rattle.dead_letters.proofs.laws.records_have_one_spelling.Goals as goal

pub returns-clause-read_back : goal.returns-clause-read_back
returns-clause-read_back c = records_are_read_back

pub returns-clause-spelled : goal.returns-clause-spelled
returns-clause-spelled c = records_are_spelled
