use Rattle.std.proofs.Common.{ap, ◌∙◌}
use Rattle.condition_eval.specs.Made.{texts}
use Rattle.built_plugins.specs.Conditions.{condition_patterns}
use Rattle.built_plugins.proofs.Patterns.{as_many}
use Rattle.built_plugins.proofs.condition.CompiledCondition.count_patterns.Goals as goal

pub returns : goal.returns
returns c = c.len.ensures ∙ as_many (texts c.self.inside.says.condition) c.self.inside.patterns c.self.invariant ∙ ap condition_patterns c.self.view_is
