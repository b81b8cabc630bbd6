-- What a grok pattern finds in a text, as this project's table of the filter grok has it.
use Rattle.std.specs.Prelude.{ℕ, ◌==◌, ◌&&◌, ◌||◌, not, List, [], ◌∷◌, ◌++◌, length, chars, slice_get, slice_range, Bool, is_some, if◌then◌else◌, Option, Some, None, option_map, option_and_then}
use Rattle.std.specs.List.{list_any}
use Rattle.regex_hir.specs.Find.{find_str}
use Rattle.regex_syntax.specs.Grammar.{read}
use Rattle.regex_syntax.specs.Verdict.{default_config}
use Rattle.pattern_box.specs.Spans.{spans_of}
use Rattle.event_tree.specs.Number.{Num}
use Rattle.event_tree.specs.Paths.{over}
use Rattle.event_tree.specs.declared.value.Value.{Value}
use Rattle.event_tree.specs.declared.value.Value.TheVariants as v
use Rattle.event_json.specs.Numbers.{number_of}
use Rattle.filter_settings.specs.Paths.{same_path}
use Rattle.grok_patterns.specs.declared.expansion.Capture.{Capture}
use Rattle.grok_patterns.specs.declared.expansion.Expanded.{Expanded}
use Rattle.filters_grok.specs.declared.grok_pattern.Put.{Put}
use Rattle.grok_patterns.specs.declared.piece.Coercion.{Coercion}
use Rattle.grok_patterns.specs.declared.piece.Coercion.TheVariants as coercion

-- the spans of a match and of its groups
abbrev pub Spans : Type 0
Spans = List (Option (ℕ × ℕ))

-- those of the leftmost match of a pattern, as the grammar of `regex` reads it, anywhere in a text; none where nothing matches
unfoldable pub spans_in : List ℕ → List ℕ → Option Spans
spans_in pattern text =
    option_and_then (λ found. option_map (spans_of (length found.1)) (find_str found.0.value text 0)) (read default_config (chars pattern))

abbrev pub span_at : ℕ → Spans → Option (ℕ × ℕ)
span_at n spans = option_and_then (λ s. s) (slice_get spans n)

-- what the group of a capture found; none where it took no part
abbrev pub text_at : List ℕ → Spans → Capture → Option (List ℕ)
text_at text spans c = option_map (λ s. slice_range text s.0 s.1) (span_at c.group spans)

-- the whole number that a text writes
abbrev pub whole_of : List ℕ → Option Num
whole_of s = option_and_then (λ n. if n.scale == 0 then Some n else None) (number_of s)

-- the number that is made of a text: one that it writes, and a whole one where that is wanted
abbrev pub number_for : Coercion → List ℕ → Option Num
number_for coercion.Text s = None
number_for coercion.Integer s = whole_of s
number_for coercion.Float s = number_of s

-- what a text becomes
abbrev pub coerced : Coercion → List ℕ → Value
coerced k s = over v.Num (v.Text s) (number_for k s)

abbrev pub is_empty : List ℕ → Bool
is_empty s = length s == 0

-- a text that is kept: an empty one only where that is wanted
abbrev pub kept_text : Bool → List ℕ → Option (List ℕ)
kept_text keep_empty s = if keep_empty || not (is_empty s) then Some s else None

abbrev pub kept_at : Bool → List ℕ → Spans → Capture → Option (List ℕ)
kept_at keep_empty text spans c = option_and_then (kept_text keep_empty) (text_at text spans c)

-- a capture found something for the field of another
abbrev pub is_before : Bool → List ℕ → Spans → Capture → Capture → Bool
is_before keep_empty text spans c d = same_path c.path d.path && is_some (kept_at keep_empty text spans d)

-- one of the captures in front found something for the same field
abbrev pub stands : Bool → List ℕ → Spans → List Capture → Capture → Bool
stands keep_empty text spans front c = list_any (is_before keep_empty text spans c) front

-- several captures of one field become a list, and so do a capture and what stands at a field that isn't overwritten
abbrev pub joins : Bool → List ℕ → Spans → List Capture → Capture → Bool
joins keep_empty text spans front c = not c.overwrites || stands keep_empty text spans front c

abbrev pub put_of : ℕ → ℕ → Bool → Capture → List ℕ → Put
put_of number at joined c s = record { pattern = number; capture = at; value = coerced c.coercion s; joins = joined }

-- what a capture found, where it found something
abbrev pub capture_puts : Bool → ℕ → List ℕ → Spans → List Capture → Capture → List Put
capture_puts keep_empty number text spans front c =
    over (λ s. put_of number (length front) (joins keep_empty text spans front c) c s ∷ []) [] (kept_at keep_empty text spans c)

-- what the captures behind those in front found
abbrev pub captured : Bool → ℕ → List ℕ → Spans → List Capture → List Capture → List Put
captured keep_empty number text spans front [] = []
captured keep_empty number text spans front (c ∷ cs) =
    capture_puts keep_empty number text spans front c ++ captured keep_empty number text spans (front ++ c ∷ []) cs

-- what the captures of a pattern found at its first match in a text
abbrev pub puts_in : Bool → ℕ → Expanded → List ℕ → Option (List Put)
puts_in keep_empty number p text = option_map (λ spans. captured keep_empty number text spans [] p.captures) (spans_in p.text text)
