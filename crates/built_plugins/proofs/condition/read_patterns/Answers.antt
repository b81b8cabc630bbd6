use Rattle.built_plugins.proofs.Patterns.{all_read}
use Rattle.built_plugins.proofs.condition.read_patterns.Goals as goal

pub returns-in-Ok-clause-read : goal.returns-in-Ok-clause-read
returns-in-Ok-clause-read c = all_read c.args.condition.now c.in-Ok.patterns c.in-Ok.ensures.made
