-- The equations of a fold over conditions, one for each variant, for any step.
use Rattle.std.proofs.Common.{◌≡◌, List, map, sym, ap, ◌∙◌}
use Rattle.config_tree.specs.declared.operators.Conjunction.{Conjunction}
use Rattle.config_tree.specs.declared.operators.Disjunction.{Disjunction}
use Rattle.config_tree.specs.declared.operators.Comparison.{Comparison}
use Rattle.config_tree.specs.declared.operators.Matching.{Matching}
use Rattle.config_tree.specs.declared.tree.Condition.{Condition}
use Rattle.config_tree.specs.declared.tree.Condition.TheOpen.{Condition-F}
use Rattle.config_tree.specs.declared.tree.Condition.TheFolds.{fold-Condition, fold-roll-Condition}
use Rattle.config_tree.specs.declared.tree.Condition.TheVariants as c
use Rattle.config_tree.specs.declared.tree.MatchPattern.{MatchPattern}
use Rattle.config_tree.specs.declared.tree.Operand.{Operand}

module _ {A : Type 0} (step : Condition-F A → A) where
  -- what follows the first condition of a row, with what the fold says of each condition
  abbrev pub folded : {J : Type 0} → List (J × Condition) → List (J × A)
  folded rest = map (λ p. (p.0, fold-Condition A step p.1)) rest

  pub fold-Operand : (x : Operand) → fold-Condition A step (c.Operand x) ≡ step (Condition-F.Operand x)
  fold-Operand x = ap (fold-Condition A step) (sym (c.rolls-Operand x)) ∙ fold-roll-Condition A step (Condition-F.Operand x)

  pub fold-Not : (x : Condition) → fold-Condition A step (c.Not x) ≡ step (Condition-F.Not (fold-Condition A step x))
  fold-Not x = ap (fold-Condition A step) (sym (c.rolls-Not x)) ∙ fold-roll-Condition A step (Condition-F.Not x)

  pub fold-Conjoined : (x : Condition) (rest : List (Conjunction × Condition)) → fold-Condition A step (c.Conjoined x rest) ≡ step (Condition-F.Conjoined (fold-Condition A step x) (folded rest))
  fold-Conjoined x rest = ap (fold-Condition A step) (sym (c.rolls-Conjoined x rest)) ∙ fold-roll-Condition A step (Condition-F.Conjoined x rest)

  pub fold-Disjoined : (x : Condition) (rest : List (Disjunction × Condition)) → fold-Condition A step (c.Disjoined x rest) ≡ step (Condition-F.Disjoined (fold-Condition A step x) (folded rest))
  fold-Disjoined x rest = ap (fold-Condition A step) (sym (c.rolls-Disjoined x rest)) ∙ fold-roll-Condition A step (Condition-F.Disjoined x rest)

  pub fold-Compared : (j : Comparison) (x y : Operand) → fold-Condition A step (c.Compared j x y) ≡ step (Condition-F.Compared j x y)
  fold-Compared j x y = ap (fold-Condition A step) (sym (c.rolls-Compared j x y)) ∙ fold-roll-Condition A step (Condition-F.Compared j x y)

  pub fold-Matched : (j : Matching) (x : Operand) (y : MatchPattern) → fold-Condition A step (c.Matched j x y) ≡ step (Condition-F.Matched j x y)
  fold-Matched j x y = ap (fold-Condition A step) (sym (c.rolls-Matched j x y)) ∙ fold-roll-Condition A step (Condition-F.Matched j x y)

  pub fold-In : (x y : Operand) → fold-Condition A step (c.In x y) ≡ step (Condition-F.In x y)
  fold-In x y = ap (fold-Condition A step) (sym (c.rolls-In x y)) ∙ fold-roll-Condition A step (Condition-F.In x y)

  pub fold-NotIn : (x y : Operand) → fold-Condition A step (c.NotIn x y) ≡ step (Condition-F.NotIn x y)
  fold-NotIn x y = ap (fold-Condition A step) (sym (c.rolls-NotIn x y)) ∙ fold-roll-Condition A step (Condition-F.NotIn x y)

pub ruleset condition_folds = (fold-Operand, fold-Not, fold-Conjoined, fold-Disjoined, fold-Compared, fold-Matched, fold-In, fold-NotIn)
