-- What a pattern finds is said by the text that it was read from.
use Rattle.std.proofs.Common.{◌≡◌, ℕ, ◌-◌, ◌*◌, ◌+◌, ◌<◌, List, ◌∷◌, map, length, get_or, Option, None, Some, IsSomeAnd, refl, sym, ap, ◌∙◌}
use Rattle.std.proofs.lemmas.List.{get_or_default}
use Rattle.std.specs.Prelude.{chars, option_map, option_and_then}
use Rattle.std.specs.List.{range_with_len}
use Rattle.regex_hir.specs.Re.{Re}
use Rattle.regex_hir.specs.Find.{Match, find_str}
use Rattle.regex_hir.specs.Meaning.{meaning}
use Rattle.regex_hir.specs.declared.hir.Hir.{Hir}
use Rattle.regex_syntax.specs.Grammar.{Names, read}
use Rattle.regex_syntax.specs.Verdict.{default_config, Reads}
use Rattle.regex_syntax.proofs.CapturesLemmas as seen
use Rattle.regex.specs.Writes.{both}
use Rattle.regex.proofs.ForCallers.{spans}
use Rattle.pattern_box.specs.Patterns.{Expression, pattern_re, pattern_groups, IsReadFrom}
use Rattle.pattern_box.specs.Spans.{spans_of}
use Rattle.filters_grok.specs.Matches.{Spans, spans_in}

abbrev Seen : Type 0
Seen = ℕ × ℕ × (ℕ → Option ℕ)

abbrev seen_spans : ℕ → Seen → Spans
seen_spans groups s = Some (s.0, s.1) ∷ map (λ n. both (s.2 (2 * n)) (s.2 (2 * n + 1))) (range_with_len 1 (groups - 1))

seen_as : (groups : ℕ) (o : Option Match) → option_map (spans_of groups) o ≡ option_map (seen_spans groups) (option_map spans o)
seen_as groups None = refl
seen_as groups (Some m) = refl

with_read : {A B : Type 0} (o : Option A) (P : A → Type 0) → ((x : A) → o ≡ Some x → P x → B) → IsSomeAnd o P → B
with_read None P f h = absurd h
with_read (Some x) P f h = f x refl h

as_read : (s text : List ℕ) (re : Re) (groups : ℕ) (hir : Hir) (names : Names) → re ≡ meaning hir → groups ≡ length names → ((k : ℕ) → get_or text k 0 < 256) →
    Reads default_config s hir names → option_map (spans_of groups) (find_str re text 0) ≡ spans_in s text
unfolding Reads spans_in
as_read s text re groups hir names e counted bytes reads =
    with_read (read default_config (chars s)) _
    (λ x is h.
    ap (λ r. option_map (spans_of groups) (find_str r text 0)) e
    ∙ ap (λ n. option_map (spans_of n) (find_str (meaning hir) text 0)) (counted ∙ ap length h.2)
    ∙ seen_as (length x.1) (find_str (meaning hir) text 0)
    ∙ ap (option_map (seen_spans (length x.1))) (seen.find_str_alike (meaning hir) x.0.value h.1 text (λ k d below. rw (get_or_default text k d 0 below) (bytes k)) 0)
    ∙ sym (seen_as (length x.1) (find_str x.0.value text 0))
    ∙ sym (ap (λ o. option_and_then (λ found. option_map (spans_of (length found.1)) (find_str found.0.value text 0)) o) is))
    reads

-- the spans that a pattern finds are those of its text
pub found_as_written : (s text : List ℕ) (box : Expression) → IsReadFrom s box → ((k : ℕ) → get_or text k 0 < 256)
    → option_map (spans_of (pattern_groups box)) (find_str (pattern_re box) text 0) ≡ spans_in s text
found_as_written s text box h bytes = as_read s text (pattern_re box) (pattern_groups box) h.1.0 h.1.1 h.1.3 h.1.4 bytes h.1.2
