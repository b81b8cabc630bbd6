-- How many patterns a condition has, operator by operator.
use Rattle.std.proofs.Common.{◌≡◌, ◌+◌, List, ◌++◌, length, length-append, ap, ◌∙◌}
use Rattle.config_tree.specs.declared.operators.Comparison.{Comparison}
use Rattle.config_tree.specs.declared.operators.Conjunction.{Conjunction}
use Rattle.config_tree.specs.declared.operators.Disjunction.{Disjunction}
use Rattle.config_tree.specs.declared.operators.Matching.{Matching}
use Rattle.config_tree.specs.declared.tree.Operand.{Operand}
use Rattle.config_tree.specs.declared.tree.MatchPattern.{MatchPattern}
use Rattle.config_tree.specs.declared.tree.Condition.{Condition}
use Rattle.config_tree.specs.declared.tree.Condition.TheVariants as c
use Rattle.config_tree.proofs.Folds as folds
use Rattle.condition_eval.specs.Made.{texts, texts_step, texts_behind}

pub texts-Conjoined : (x : Condition) (rest : List (Conjunction × Condition)) → texts (c.Conjoined x rest) ≡ texts x ++ texts_behind rest
unfolding texts
texts-Conjoined x rest = folds.fold-Conjoined texts_step x rest

pub texts-Disjoined : (x : Condition) (rest : List (Disjunction × Condition)) → texts (c.Disjoined x rest) ≡ texts x ++ texts_behind rest
unfolding texts
texts-Disjoined x rest = folds.fold-Disjoined texts_step x rest

pub count-Operand : (x : Operand) → length (texts (c.Operand x)) ≡ 0
unfolding texts
count-Operand x = ap length (folds.fold-Operand texts_step x)

pub count-Not : (part : Condition) → length (texts (c.Not part)) ≡ length (texts part)
unfolding texts
count-Not part = ap length (folds.fold-Not texts_step part)

pub count-Conjoined : (x : Condition) (rest : List (Conjunction × Condition)) → length (texts (c.Conjoined x rest)) ≡ length (texts x) + length (texts_behind rest)
count-Conjoined x rest = ap length (texts-Conjoined x rest) ∙ length-append (texts x) (texts_behind rest)

pub count-Disjoined : (x : Condition) (rest : List (Disjunction × Condition)) → length (texts (c.Disjoined x rest)) ≡ length (texts x) + length (texts_behind rest)
count-Disjoined x rest = ap length (texts-Disjoined x rest) ∙ length-append (texts x) (texts_behind rest)

pub count-Compared : (j : Comparison) (x y : Operand) → length (texts (c.Compared j x y)) ≡ 0
unfolding texts
count-Compared j x y = ap length (folds.fold-Compared texts_step j x y)

pub count-Matched : (j : Matching) (x : Operand) (p : MatchPattern) → length (texts (c.Matched j x p)) ≡ 1
unfolding texts
count-Matched j x p = ap length (folds.fold-Matched texts_step j x p)

pub count-In : (x y : Operand) → length (texts (c.In x y)) ≡ 0
unfolding texts
count-In x y = ap length (folds.fold-In texts_step x y)

pub count-NotIn : (x y : Operand) → length (texts (c.NotIn x y)) ≡ 0
unfolding texts
count-NotIn x y = ap length (folds.fold-NotIn texts_step x y)

pub ruleset counts = (count-Operand, count-Not, count-Conjoined, count-Disjoined, count-Compared, count-Matched, count-In, count-NotIn)

-- the same of a condition that is one of these
pub texts_of-Not : (x part : Condition) → x ≡ c.Not part → texts x ≡ texts part
unfolding texts
texts_of-Not x part e = ap texts e ∙ folds.fold-Not texts_step part

pub texts_of-Conjoined : (x first : Condition) (rest : List (Conjunction × Condition)) → x ≡ c.Conjoined first rest → texts x ≡ texts first ++ texts_behind rest
texts_of-Conjoined x first rest e = ap texts e ∙ texts-Conjoined first rest

pub texts_of-Disjoined : (x first : Condition) (rest : List (Disjunction × Condition)) → x ≡ c.Disjoined first rest → texts x ≡ texts first ++ texts_behind rest
texts_of-Disjoined x first rest e = ap texts e ∙ texts-Disjoined first rest

pub counted-Not : (x part : Condition) → x ≡ c.Not part → length (texts x) ≡ length (texts part)
counted-Not x part e = ap length (texts_of-Not x part e)

pub counted-Conjoined : (x first : Condition) (rest : List (Conjunction × Condition)) → x ≡ c.Conjoined first rest → length (texts x) ≡ length (texts first) + length (texts_behind rest)
counted-Conjoined x first rest e = ap length (texts_of-Conjoined x first rest e) ∙ length-append (texts first) (texts_behind rest)

pub counted-Disjoined : (x first : Condition) (rest : List (Disjunction × Condition)) → x ≡ c.Disjoined first rest → length (texts x) ≡ length (texts first) + length (texts_behind rest)
counted-Disjoined x first rest e = ap length (texts_of-Disjoined x first rest e) ∙ length-append (texts first) (texts_behind rest)
