-- How words and operators are written.
use Rattle.std.specs.Prelude.{ℕ, List, codes}
use Rattle.config_tree.specs.declared.operators.Conjunction.{Conjunction}
use Rattle.config_tree.specs.declared.operators.Conjunction.TheVariants as and
use Rattle.config_tree.specs.declared.operators.Disjunction.{Disjunction}
use Rattle.config_tree.specs.declared.operators.Disjunction.TheVariants as or
use Rattle.config_tree.specs.declared.operators.Comparison.{Comparison}
use Rattle.config_tree.specs.declared.operators.Comparison.TheVariants as is
use Rattle.config_tree.specs.declared.operators.Matching.{Matching}
use Rattle.config_tree.specs.declared.operators.Matching.TheVariants as matching
use Rattle.config_lex.specs.declared.token.Section.{Section}
use Rattle.config_lex.specs.declared.token.Section.TheVariants as kind
use Rattle.config_lex.specs.declared.token.Word.{Word}
use Rattle.config_lex.specs.declared.token.Word.TheVariants as w

abbrev pub conjunction_text : Conjunction → List ℕ
conjunction_text and.And = codes "and"
conjunction_text and.Nand = codes "nand"

abbrev pub disjunction_text : Disjunction → List ℕ
disjunction_text or.Or = codes "or"
disjunction_text or.Xor = codes "xor"

abbrev pub comparison_text : Comparison → List ℕ
comparison_text is.Equal = codes "=="
comparison_text is.Unequal = codes "!="
comparison_text is.Less = codes "<"
comparison_text is.Greater = codes ">"
comparison_text is.AtMost = codes "<="
comparison_text is.AtLeast = codes ">="

abbrev pub matching_text : Matching → List ℕ
matching_text matching.Matches = codes "=~"
matching_text matching.MatchesNot = codes "!~"

abbrev pub section_text : Section → List ℕ
section_text kind.Input = codes "input"
section_text kind.Filter = codes "filter"
section_text kind.Output = codes "output"

abbrev pub spelling : Word → List ℕ
spelling w.If = codes "if"
spelling w.Else = codes "else"
spelling w.In = codes "in"
spelling w.Not = codes "not"
spelling (w.Conjunction j) = conjunction_text j
spelling (w.Disjunction j) = disjunction_text j
spelling (w.Section kind) = section_text kind
spelling (w.Other s) = s
