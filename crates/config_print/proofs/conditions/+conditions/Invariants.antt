use Rattle.std.proofs.Common.{◌≡◌, ◌++◌, drop, string_bytes}
use Rattle.config_lex.specs.declared.token.Word.TheVariants as w
use Rattle.config_print.specs.declared.conditions.ConditionContext.TheVariants as at
use Rattle.config_print.specs.Layout.{text_of}
use Rattle.config_print.specs.Conditions.{row}
use Rattle.config_print.proofs.conditions.+conditions.Given as goal

abbrev pub invariant-add_conjuncts-loop-part : goal.invariant-add_conjuncts-loop-part
invariant-add_conjuncts-loop-part l = string_bytes l.to ++ text_of (row w.Conjunction at.Unary (drop l.part-index l.rest)) ≡ string_bytes l.fn.to ++ text_of (row w.Conjunction at.Unary l.rest)

abbrev pub invariant-add_disjuncts-loop-part : goal.invariant-add_disjuncts-loop-part
invariant-add_disjuncts-loop-part l = string_bytes l.to ++ text_of (row w.Disjunction at.Joined (drop l.part-index l.rest)) ≡ string_bytes l.fn.to ++ text_of (row w.Disjunction at.Joined l.rest)
