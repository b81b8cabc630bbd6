-- What may come of a condition.
use Rattle.std.specs.Prelude.{◌≡◌, ⊤}
use Rattle.condition_eval.specs.declared.truth.Truth.{Truth}
use Rattle.config_tests.specs.declared.truths.ConditionResult.{ConditionResult}
use Rattle.config_tests.specs.declared.truths.ConditionResult.TheVariants as o

-- what was said is what the definition says
abbrev pub IsOutcome : Truth → ConditionResult → Type 0
IsOutcome t (o.Said said) = said ≡ t
IsOutcome t o.Unread = ⊥
IsOutcome t o.BadPattern = ⊤
