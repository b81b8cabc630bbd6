-- A match in bytes, read as one in text, where no match starts inside a character.
use Rattle.std.proofs.Common.{◌≡◌, ℕ, ◌+◌, ◌<◌, true, false, List, length, All, Some, option_map, IsUtf8, refl, sym, ap, ◌∙◌, subst, arith}
use Rattle.regex_hir.specs.Re.{Re}
use Rattle.regex_hir.specs.Text.{is_boundary}
use Rattle.regex_hir.specs.Find.{Match, find, find_str}
use Rattle.regex_vm.specs.Found.{span}
use Rattle.regex.specs.Search.{LiesWithin}
use Rattle.regex.specs.Utf8.{MatchesText, CutsCleanly}
use Rattle.regex_meta.proofs.ProgramLemmas.{value_of_option_map}
use Rattle.regex.proofs.SearchLemmas.{leftmost_here, leftmost_retry, leftmost_within, leftmost_attempt, inside_char}
use Rattle.regex.proofs.Utf8Lemmas.{IsCharBoundary-of_test, match_ends_cleanly}

-- what a pattern finds that is now the same as it was
module _ (re now : Re) (hay : List ℕ) (at : ℕ) (s : ℕ × ℕ) (found : Some s ≡ option_map span (find now hay at)) (same : now ≡ re) where
  pub was_found : Some s ≡ option_map span (find re hay at)
  was_found = found ∙ ap (λ p. option_map span (find p hay at)) same

  the_match : (m : Match) × (find re hay at ≡ Some m) × (span m ≡ s)
  the_match = value_of_option_map span (find re hay at) s (sym was_found)

  starts : the_match.0.start ≡ s.0
  starts = ap (λ (x : ℕ × ℕ). x.0) the_match.2

  pub match_within : LiesWithin at (length hay) s
  match_within = subst (LiesWithin at (length hay)) the_match.2 (leftmost_within re hay false at the_match.0 the_match.1)

  pub match_here : is_boundary hay s.0 ≡ true → find_str re hay at ≡ find re hay at
  match_here cut =
      leftmost_here re hay true at the_match.0 the_match.1 (λ _. ap (is_boundary hay) starts ∙ cut) ∙ sym the_match.1

  pub match_inside : is_boundary hay s.0 ≡ false → (s.0 < length hay) × (find_str re hay at ≡ find_str re hay (s.0 + 1))
  match_inside inside = (
    inside_char re hay s.0 inside,
    leftmost_retry re hay true at the_match.0 refl the_match.1 (ap (is_boundary hay) starts ∙ inside)
        ∙ ap (λ n. find_str re hay (n + 1)) starts,
  )

  pub match_cuts : All (λ b. b < 256) hay → MatchesText re → IsUtf8 hay → is_boundary hay s.0 ≡ true → CutsCleanly hay s
  match_cuts bytes whole utf8 cut =
      let m = the_match.0 in
      let inside = leftmost_within re hay false at m the_match.1 in
      let first = IsCharBoundary-of_test hay m.start (omega arith) (ap (is_boundary hay) starts ∙ cut) in
      let here = leftmost_attempt re hay false at m the_match.1 in
      subst (CutsCleanly hay) the_match.2 (first, match_ends_cleanly re hay bytes whole utf8 m.start m.trace first here.2)
