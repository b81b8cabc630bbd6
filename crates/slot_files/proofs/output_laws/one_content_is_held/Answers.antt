use Rattle.slot_files.proofs.Holding.{holds_one}
use Rattle.slot_files.proofs.output_laws.one_content_is_held.Goals as goal

pub returns : goal.returns
returns c = holds_one
