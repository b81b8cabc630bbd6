-- What a pattern finds is what the pattern finds that the grammar reads from its text.
use Rattle.std.proofs.Common.{◌≡◌, ℕ, ◌<◌, List, get_or, true, Option, None, Some, refl, sym, ap, ◌∙◌}
use Rattle.std.specs.Prelude.{chars, is_some, option_and_then, option_map, IsSomeAnd}
use Rattle.regex_hir.specs.Re.{Re}
use Rattle.regex_hir.specs.Meaning.{meaning}
use Rattle.regex_hir.specs.Find.{find_str}
use Rattle.regex_hir.specs.declared.hir.Hir.{Hir}
use Rattle.regex_syntax.specs.Grammar.{Names, read}
use Rattle.regex_syntax.specs.Verdict.{default_config, Reads}
use Rattle.regex.proofs.ForCallers.{is_match_alike}
use Rattle.pattern_box.specs.Patterns.{Expression, pattern_re, IsReadFrom}
use Rattle.condition_eval.specs.Truths.{found_in}

with_found : {A B : Type 0} (o : Option A) (P : A → Type 0) → ((x : A) → o ≡ Some x → P x → B) → IsSomeAnd o P → B
with_found None P f h = absurd h
with_found (Some x) P f h = f x refl h

found_where_read : (s text : List ℕ) (re : Re) (hir : Hir) (names : Names) → re ≡ meaning hir → ((k : ℕ) → get_or text k 0 < 256) → Reads default_config s hir names → is_some (find_str re text 0) ≡ found_in s text
unfolding Reads found_in
found_where_read s text re hir names e bytes reads = with_found (read default_config (chars s)) _ (λ x is h. ap (λ r. is_some (find_str r text 0)) e ∙ is_match_alike h.1 text bytes true 0 ∙ sym (ap (λ o. is_some (option_and_then (λ found. find_str found.0.value text 0) o)) is)) reads

pub found_by_pattern : (s text : List ℕ) (p : Expression) → IsReadFrom s p → ((k : ℕ) → get_or text k 0 < 256) → is_some (find_str (pattern_re p) text 0) ≡ found_in s text
found_by_pattern s text p h bytes = found_where_read s text (pattern_re p) h.1.0 h.1.1 h.1.3 bytes h.1.2

pub is_some_mapped : {A B : Type 0} (f : A → B) (o : Option A) → is_some (option_map f o) ≡ is_some o
is_some_mapped f None = refl
is_some_mapped f (Some x) = refl
