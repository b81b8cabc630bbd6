-- What is seen of what a pattern is made of.
use Rattle.regex_nfa.specs.Sizes.{table_bytes}
use Rattle.pattern_box.specs.Patterns.{Expression}
use Rattle.pattern_box.specs.declared.matcher.Matcher.{Matcher}

abbrev pub shown : Matcher → Expression
shown m = record { hir = m.searcher.hir; groups = m.groups; tables = table_bytes m.searcher.dfa.nfa }
