-- A condition goes on with a joint and another: the row that comes of it, by what the first is.
use Rattle.std.proofs.Common.{◌≡◌, List, [], ◌∷◌, ◌++◌, sym, ap, ◌∙◌}
use Rattle.config_tree.specs.Joints.{conjuncts, disjuncts, conjoined, disjoined}
use Rattle.config_tree.specs.declared.operators.Comparison.{Comparison}
use Rattle.config_tree.specs.declared.operators.Conjunction.{Conjunction}
use Rattle.config_tree.specs.declared.operators.Disjunction.{Disjunction}
use Rattle.config_tree.specs.declared.operators.Matching.{Matching}
use Rattle.config_tree.specs.declared.tree.Condition.{Condition, out-Condition, roll-Condition, out-roll-Condition}
use Rattle.config_tree.specs.declared.tree.Condition.TheOpen.{Condition-F}
use Rattle.config_tree.specs.declared.tree.Condition.TheVariants as c
use Rattle.config_tree.specs.declared.tree.MatchPattern.{MatchPattern}
use Rattle.config_tree.specs.declared.tree.Operand.{Operand}

conjoined_at : (j : Conjunction) (x y : Condition) (o : Condition-F Condition) → roll-Condition o ≡ x → conjoined j x y ≡ c.Conjoined (conjuncts x o).0 ((conjuncts x o).1 ++ (j, y) ∷ [])
conjoined_at j x y o e = ap (λ q. c.Conjoined (conjuncts x q).0 ((conjuncts x q).1 ++ (j, y) ∷ [])) (ap out-Condition (sym e) ∙ out-roll-Condition o)

disjoined_at : (j : Disjunction) (x y : Condition) (o : Condition-F Condition) → roll-Condition o ≡ x → disjoined j x y ≡ c.Disjoined (disjuncts x o).0 ((disjuncts x o).1 ++ (j, y) ∷ [])
disjoined_at j x y o e = ap (λ q. c.Disjoined (disjuncts x q).0 ((disjuncts x q).1 ++ (j, y) ∷ [])) (ap out-Condition (sym e) ∙ out-roll-Condition o)

pub behind_comparison : (j : Conjunction) (by : Comparison) (a b : Operand) (y : Condition) → conjoined j (c.Compared by a b) y ≡ c.Conjoined (c.Compared by a b) ((j, y) ∷ [])
behind_comparison j by a b y = conjoined_at j (c.Compared by a b) y (Condition-F.Compared by a b) (c.rolls-Compared by a b)

pub behind_match : (j : Conjunction) (by : Matching) (a : Operand) (b : MatchPattern) (y : Condition) → conjoined j (c.Matched by a b) y ≡ c.Conjoined (c.Matched by a b) ((j, y) ∷ [])
behind_match j by a b y = conjoined_at j (c.Matched by a b) y (Condition-F.Matched by a b) (c.rolls-Matched by a b)

pub behind_conjunction : (j : Conjunction) (x y : Condition) (rest : List (Conjunction × Condition)) → conjoined j (c.Conjoined x rest) y ≡ c.Conjoined x (rest ++ (j, y) ∷ [])
behind_conjunction j x y rest = conjoined_at j (c.Conjoined x rest) y (Condition-F.Conjoined x rest) (c.rolls-Conjoined x rest)

pub match_or : (j : Disjunction) (by : Matching) (a : Operand) (b : MatchPattern) (y : Condition) → disjoined j (c.Matched by a b) y ≡ c.Disjoined (c.Matched by a b) ((j, y) ∷ [])
match_or j by a b y = disjoined_at j (c.Matched by a b) y (Condition-F.Matched by a b) (c.rolls-Matched by a b)

pub conjunction_or : (j : Disjunction) (x y : Condition) (rest : List (Conjunction × Condition)) → disjoined j (c.Conjoined x rest) y ≡ c.Disjoined (c.Conjoined x rest) ((j, y) ∷ [])
conjunction_or j x y rest = disjoined_at j (c.Conjoined x rest) y (Condition-F.Conjoined x rest) (c.rolls-Conjoined x rest)

pub behind_disjunction : (j : Disjunction) (x y : Condition) (rest : List (Disjunction × Condition)) → disjoined j (c.Disjoined x rest) y ≡ c.Disjoined x (rest ++ (j, y) ∷ [])
behind_disjunction j x y rest = disjoined_at j (c.Disjoined x rest) y (Condition-F.Disjoined x rest) (c.rolls-Disjoined x rest)
