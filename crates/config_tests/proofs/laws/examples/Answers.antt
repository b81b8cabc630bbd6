use Rattle.std.proofs.Common.{◌≡◌, sym, ap, ◌∙◌, subst, refl}
use Rattle.config_lex.specs.Bytes.{passing, skip, closing, unescaped}
use Rattle.config_parse.specs.Grammar.{ReadsConfig}
use Rattle.config_lex.specs.Lexemes.{tokens, parts_at, token_at, lexed}
use Rattle.config_tests.specs.Examples.{input_text, input_config, values_text, values_tokens, values_config, branch_text, branch_tokens, branch_with, branch_config, first_condition, is_one, has_x, is_listed}
use Rattle.config_tree.specs.Joints.{conjoined, disjoined}
use Rattle.config_tree.specs.declared.operators.Conjunction.TheVariants as and
use Rattle.config_tree.specs.declared.operators.Disjunction.TheVariants as or
use Rattle.config_tree.specs.declared.tree.Condition.TheVariants as v
use Rattle.config_tests.proofs.Joined.{behind_comparison, match_or}
use Rattle.config_tests.proofs.laws.examples.Goals as goal

values_are : tokens values_text ≡ values_tokens
unfolding passing skip closing unescaped parts_at token_at lexed
values_are = refl

branch_is : tokens branch_text ≡ branch_tokens
unfolding passing skip closing unescaped parts_at token_at lexed
branch_is = refl

pub returns-clause-input : goal.returns-clause-input
unfolding passing skip closing unescaped parts_at token_at lexed
returns-clause-input c = c.machine_is_right.ensures.config 64 (tokens input_text) input_config refl

pub returns-clause-values : goal.returns-clause-values
returns-clause-values c = subst (λ ts. ReadsConfig 64 ts values_config) (sym values_are) (c.machine_is_right.ensures.config 64 values_tokens values_config refl)

-- the condition of the first arm, joint by joint
condition_is : conjoined and.And is_one (v.Not (disjoined or.Or has_x is_listed)) ≡ first_condition
condition_is = ap (λ x. conjoined and.And is_one (v.Not x)) (match_or or.Or _ _ _ is_listed) ∙ behind_comparison and.And _ _ _ _

pub returns-clause-conditions : goal.returns-clause-conditions
returns-clause-conditions c =
    let reads = c.machine_is_right.ensures.config 64 branch_tokens (branch_with (conjoined and.And is_one (v.Not (disjoined or.Or has_x is_listed)))) refl in
    subst (λ ts. ReadsConfig 64 ts branch_config) (sym branch_is) (subst (λ x. ReadsConfig 64 branch_tokens (branch_with x)) condition_is reads)
