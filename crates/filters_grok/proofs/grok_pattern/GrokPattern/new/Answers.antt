use Rattle.std.proofs.Common.{subst}
use Rattle.pattern_box.specs.Patterns.{IsReadFrom}
use Rattle.pattern_box.proofs.Written.{of_pattern}
use Rattle.filters_grok.proofs.grok_pattern.GrokPattern.new.Goals as goal

pub invariant_of-result : goal.invariant_of-result
invariant_of-result c = subst (λ s. IsReadFrom s c.in_ok-pattern.pattern) c.as_str.ensures c.in_ok-pattern.ensures.read

pub returns-clause-pattern : goal.returns-clause-pattern
returns-clause-pattern c = of_pattern c.args.says.text c.in_ok-pattern.pattern (subst (λ s. IsReadFrom s c.in_ok-pattern.pattern) c.as_str.ensures c.in_ok-pattern.ensures.read)
