use Rattle.in_file.proofs.GrownFiles.{look_stands, growth_stands}
use Rattle.in_file.proofs.laws.what_was_read_stands_in_the_file.Goals as goal

pub returns-clause-look : goal.returns-clause-look
returns-clause-look c = look_stands

pub returns-clause-growth : goal.returns-clause-growth
returns-clause-growth c = growth_stands
