use Rattle.std.proofs.Common.{sym, subst, rules}
use Rattle.regex_hir.specs.Meaning.{meaning}
use Rattle.regex_compile.specs.Implements.{Implements}
use Rattle.pattern_box.proofs.searcher.Searcher.new.Goals as goal

pub invariant_of-result : goal.invariant_of-result
invariant_of-result c = record {
  implements = ∣ subst (λ n. Implements n (meaning c.args.hir)) (sym c.in_ok-dfa.ensures.same) c.in_ok-nfa.ensures.matches ∣₁;
  tagged_runs = c.in_ok-tagged.ensures.own;
  pikevm_states = search rules;
  pikevm_groups = search rules;
}
