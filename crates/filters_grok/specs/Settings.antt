-- What the settings of the filter grok say of patterns.
use Rattle.std.specs.Prelude.{ℕ, List, [], codes, Bool, false, not, if◌then◌else◌, Option, Some, None, option_map, option_and_then, Ok, Err}
use Rattle.event_tree.specs.Events.{Way}
use Rattle.event_tree.specs.Paths.{over}
use Rattle.event_text.specs.Options.{each_in}
use Rattle.pattern_box.specs.Patterns.{is_pattern}
use Rattle.config_tree.specs.Joining.{Entries}
use Rattle.config_tree.specs.Readers.{value_at}
use Rattle.config_tree.specs.declared.tree.SettingValue.{SettingValue}
use Rattle.config_tree.specs.declared.fault.SettingFault.TheVariants as fault
use Rattle.filter_settings.specs.Settings.{Made, wanted, next}
use Rattle.filter_settings.specs.Readers.{text_item, flag_of, path_of, paths_of, hash_of, field_lists_of}
use Rattle.grok_patterns.specs.Pieces.{pieces_of}
use Rattle.grok_patterns.specs.Expansions.{known_patterns, expanded}
use Rattle.grok_patterns.specs.declared.expansion.Expanded.{Expanded}
use Rattle.grok_patterns.specs.declared.expansion.ExpansionRules.{ExpansionRules}

-- a name with its pattern
abbrev pub definition : List ℕ × SettingValue → Option (List ℕ × List ℕ)
definition e = option_map (λ s. (e.0, s)) (text_item e.1)

abbrev pub definitions_of : SettingValue → Option (List (List ℕ × List ℕ))
definitions_of x = option_and_then (each_in definition) (hash_of x)

-- what a setting says that stands anywhere, where it can be read
abbrev pub said_at : {A : Type 0} → (SettingValue → Option A) → List ℕ → Entries → Option A
said_at f k es = option_and_then f (value_at k es)

abbrev pub all_kept : Entries → Bool
all_kept es = over not false (said_at flag_of (codes "named_captures_only") es)

abbrev pub target_in : Entries → Option Way
target_in es = said_at path_of (codes "target") es

abbrev pub overwrite_in : Entries → List Way
overwrite_in es = over (λ ws. ws) [] (said_at paths_of (codes "overwrite") es)

abbrev pub definitions_in : Entries → List (List ℕ × List ℕ)
definitions_in es = over (λ ds. ds) [] (said_at definitions_of (codes "pattern_definitions") es)

-- what patterns are expanded by
abbrev pub rules_of : Entries → ExpansionRules
rules_of es = record {
  known = known_patterns (all_kept es) (definitions_in es);
  all_kept = all_kept es;
  target = target_in es;
  overwrite = overwrite_in es;
}

abbrev pub if_pattern : Expanded → Option Expanded
if_pattern x = if is_pattern x.text then Some x else None

-- the pattern that a text is: what it stands for is a regular expression
abbrev pub pattern_of : ExpansionRules → List ℕ → Option Expanded
pattern_of r s = option_and_then if_pattern (expanded r (pieces_of r.all_kept s))

-- a field with its patterns
abbrev pub field_patterns : ExpansionRules → Way × List (List ℕ) → Option (Way × List Expanded)
field_patterns r f = option_map (λ ps. (f.0, ps)) (each_in (pattern_of r) f.1)

-- what was read of a setting; a text that is no pattern is a fault
abbrev pub readable : {A : Type 0} → List ℕ → Option A → Made A
readable k None = Err (fault.BadPattern k)
readable k (Some x) = Ok x

abbrev pub match_of : ExpansionRules → List ℕ → SettingValue → Made (List (Way × List Expanded))
match_of r k x = next (λ fs. readable k (each_in (field_patterns r) fs)) (wanted k (field_lists_of x))
