-- The measure of recursions over conditions.
use Rattle.std.proofs.Common.{◌≡◌, ◌<◌, ◌≤◌, ℕ, zero, suc, ◌+◌, List, [], ◌∷◌, length, map, get_or, sym, ap, subst, ◌∙◌, arith}
use Rattle.config_tree.specs.declared.operators.Conjunction.{Conjunction}
use Rattle.config_tree.specs.declared.operators.Disjunction.{Disjunction}
use Rattle.config_tree.specs.declared.tree.Condition.{Condition}
use Rattle.config_tree.specs.declared.tree.Condition.TheOpen.{Condition-F}
use Rattle.config_tree.specs.declared.tree.Condition.TheFolds.{fold-Condition}
use Rattle.config_tree.specs.declared.tree.Condition.TheVariants as c
use Rattle.config_tree.proofs.Folds as folds

abbrev sum : {J : Type 0} → List (J × ℕ) → ℕ
sum [] = 0
sum (p ∷ rest) = suc (p.1 + sum rest)

abbrev weight_step : Condition-F ℕ → ℕ
weight_step (Condition-F.Operand x) = 0
weight_step (Condition-F.Not part) = suc part
weight_step (Condition-F.Conjoined first rest) = suc (first + sum rest)
weight_step (Condition-F.Disjoined first rest) = suc (first + sum rest)
weight_step (Condition-F.Compared j x y) = 0
weight_step (Condition-F.Matched j x p) = 0
weight_step (Condition-F.In x y) = 0
weight_step (Condition-F.NotIn x y) = 0

-- how many joints and negations a condition has
unfoldable pub weight : Condition → ℕ
weight = fold-Condition ℕ weight_step

-- those of what follows the first condition of a row
abbrev pub row_weight : {J : Type 0} → List (J × Condition) → ℕ
row_weight rest = sum (map (λ p. (p.0, weight p.1)) rest)

pub weight-Not : (x part : Condition) → x ≡ c.Not part → weight x ≡ suc (weight part)
unfolding weight
weight-Not x part e = ap weight e ∙ folds.fold-Not weight_step part

pub weight-Conjoined : (x first : Condition) (rest : List (Conjunction × Condition)) → x ≡ c.Conjoined first rest → weight x ≡ suc (weight first + row_weight rest)
unfolding weight
weight-Conjoined x first rest e = ap weight e ∙ folds.fold-Conjoined weight_step first rest

pub weight-Disjoined : (x first : Condition) (rest : List (Disjunction × Condition)) → x ≡ c.Disjoined first rest → weight x ≡ suc (weight first + row_weight rest)
unfolding weight
weight-Disjoined x first rest e = ap weight e ∙ folds.fold-Disjoined weight_step first rest

lighter : {J : Type 0} (rest : List (J × Condition)) (i : ℕ) (d : J × Condition) → i < length rest → suc (weight (get_or rest i d).1) ≤ row_weight rest
lighter [] i d l = absurd (omega (arith, l))
lighter (p ∷ rest) zero d l = omega arith
lighter (p ∷ rest) (suc i) d l = omega (arith, lighter rest i d (omega (arith, l)))

-- each condition of a row is lighter
pub part_lighter : {J : Type 0} (rest : List (J × Condition)) (i : ℕ) (p : J × Condition) → p ≡ get_or rest i p → i < length rest → suc (weight p.1) ≤ row_weight rest
part_lighter rest i p e l = subst (λ q. suc (weight q.1) ≤ row_weight rest) (sym e) (lighter rest i p l)
