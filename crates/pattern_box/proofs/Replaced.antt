-- What one more match adds to a text whose matches are replaced.
use Rattle.std.proofs.Common.{◌≡◌, ℕ, ◌+◌, ◌++◌, true, List, Some, None, drop, slice_range, option_map, sym, ap}
use Rattle.regex_hir.specs.Re.{Re}
use Rattle.regex_hir.specs.Find.{Match}
use Rattle.regex_vm.specs.Found.{span}
use Rattle.regex.specs.Search.{next_match, matches_after}
use Rattle.regex.specs.Replace.{replaced_by}
use Rattle.regex_meta.proofs.ProgramLemmas.{none_of_option_map}
use Rattle.regex.proofs.SearchLemmas.{matches_after_none, matches_after_some}

module _ (re : Re) (text : List ℕ) (written : Match → List ℕ) where
  -- the text from a position on, with the matches still to come replaced
  abbrev pub replaced_from : ℕ → ℕ → List ℕ
  replaced_from at after = replaced_by written text at (matches_after true re text after)

  pub replaced_next : (at after : ℕ) (m : Match) → next_match true re text after ≡ Some m →
      replaced_from at after ≡ (slice_range text at m.start ++ written m) ++ replaced_from m.trace.end (m.trace.end + 1)
  unfolding replaced_by
  replaced_next at after m found = ap (replaced_by written text at) (matches_after_some re text true after m found)

  pub replaced_end : (at after : ℕ) → None ≡ option_map span (next_match true re text after) → replaced_from at after ≡ drop at text
  unfolding replaced_by
  replaced_end at after none =
      ap (replaced_by written text at) (matches_after_none re text true after (none_of_option_map span _ (sym none)))
