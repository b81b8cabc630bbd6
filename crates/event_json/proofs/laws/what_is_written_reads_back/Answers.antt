use Rattle.event_json.proofs.WrittenValues.{reads_back}
use Rattle.event_json.proofs.laws.what_is_written_reads_back.Goals as goal

pub returns : goal.returns
returns c = reads_back
