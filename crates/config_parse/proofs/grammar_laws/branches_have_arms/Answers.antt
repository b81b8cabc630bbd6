use Rattle.config_parse.proofs.Branches.{branched}
use Rattle.config_parse.proofs.grammar_laws.branches_have_arms.Goals as goal

pub returns : goal.returns
returns c = λ levels tokens config r. branched r
