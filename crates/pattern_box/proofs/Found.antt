-- The automaton of a searcher finds what its pattern means.
use Rattle.std.proofs.Common.{◌≡◌, ℕ, List, length, refl}
use Rattle.std.proofs.Math.Logic.{∥∥₁_elim}
use Rattle.std.specs.Coded.{Coded, code_by, coded_option, coded_ℕ, coded_list, coded×}
use base.Stored.{Coded-set}
use Rattle.regex_hir.specs.Re.{Trace, accept, attempt}
use Rattle.regex_hir.specs.Meaning.{meaning}
use Rattle.regex_hir.specs.Find.{find}
use Rattle.regex_hir.proofs.FindLemmas.{first_between_cong}
use Rattle.regex_nfa.specs.Run.{run}
use Rattle.regex_vm.specs.Found.{first_match}
use Rattle.pattern_box.specs.declared.searcher.Searcher.{Searcher}

stored_trace : Coded Trace
stored_trace = code_by (ℕ × List (ℕ × ℕ)) (coded× coded_ℕ (coded_list (coded× coded_ℕ coded_ℕ)))
    (λ t. (t.end, t.writes)) (λ p. record { end = p.0; writes = p.1 }) (λ _. refl)

module _ (s : Searcher) (hay : List ℕ) where
  pub run_is_attempt : (i : ℕ) → run s.dfa.nfa hay (length hay) s.dfa.nfa.start i ≡ attempt hay (meaning s.hir) accept i
  run_is_attempt i = ∥∥₁_elim s.implements (Coded-set (coded_option stored_trace) _ _) (λ h. h hay i)

  pub first_match_is_find : (start : ℕ) → first_match s.dfa.nfa hay (length hay) start (length hay) ≡ find (meaning s.hir) hay start
  unfolding find
  first_match_is_find start = first_between_cong _ _ start (length hay) (λ i _ _. run_is_attempt i)
