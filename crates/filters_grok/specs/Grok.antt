-- The filter grok, as this project's table of plugins has it.
use Rattle.std.specs.Prelude.{ℕ, List, [], ◌∷◌, codes, bytes_eq, Bool, true, false, if◌then◌else◌, Option, Some, None, Ok, Err}
use Rattle.event_tree.specs.Events.{Ev, Way, event_at}
use Rattle.event_tree.specs.Paths.{over}
use Rattle.event_text.specs.Options.{no_options}
use Rattle.event_text.specs.declared.applied.Applied.{Applied}
use Rattle.config_tree.specs.Joining.{Entries}
use Rattle.config_tree.specs.declared.tree.SettingValue.{SettingValue}
use Rattle.filter_settings.specs.Settings.{Made, wanted, with_made, all_set, next, needed}
use Rattle.filter_settings.specs.Trying.{Tried, tried, all_tried, finished}
use Rattle.filter_settings.specs.Readers.{text_of, flag_of, path_of, paths_of}
use Rattle.filter_settings.specs.Options.{option_set}
use Rattle.filters_grok.specs.Searching.{none, value_finds, put_in}
use Rattle.filters_grok.specs.Settings.{rules_of, definitions_of, match_of}
use Rattle.grok_patterns.specs.declared.expansion.Expanded.{Expanded}
use Rattle.grok_patterns.specs.declared.expansion.ExpansionRules.{ExpansionRules}
use Rattle.filters_grok.specs.declared.grok.Grok.{Grok}
use Rattle.filters_grok.specs.declared.grok.Searched.{Searched}
use Rattle.filters_grok.specs.declared.grok.Searched.TheVariants as x
use Rattle.filters_grok.specs.declared.searching.Finds.{Finds}
use Rattle.filters_grok.specs.declared.searching.SearchOptions.{SearchOptions}

-- a setting of which the rules were made already, or one that every filter has
abbrev pub further_set : List ℕ → SettingValue → Grok → Made Grok
further_set k x g =
    if bytes_eq k (codes "pattern_definitions") then with_made (λ y. g) (wanted k (definitions_of x))
    else (if bytes_eq k (codes "named_captures_only") then with_made (λ y. g) (wanted k (flag_of x))
    else (if bytes_eq k (codes "overwrite") then with_made (λ y. g) (wanted k (paths_of x))
    else (if bytes_eq k (codes "target") then with_made (λ y. g) (wanted k (path_of x))
    else with_made (λ o. record g { options = o }) (option_set k x g.options))))

-- one setting
abbrev pub grok_set : List ℕ → SettingValue → Grok → Made Grok
grok_set k x g =
    if bytes_eq k (codes "match") then with_made (λ fs. record g { fields = fs }) (match_of g.rules k x)
    else (if bytes_eq k (codes "break_on_match") then with_made (λ b. record g { break_on_match = b }) (wanted k (flag_of x))
    else (if bytes_eq k (codes "keep_empty_captures") then with_made (λ b. record g { keep_empty_captures = b }) (wanted k (flag_of x))
    else (if bytes_eq k (codes "tag_on_failure") then with_made (λ s. record g { tag_on_failure = s }) (wanted k (text_of x))
    else further_set k x g)))

-- before any setting
abbrev pub grok_start : ExpansionRules → Grok
grok_start rules = record {
  rules = rules;
  fields = [];
  break_on_match = true;
  keep_empty_captures = false;
  tag_on_failure = codes "_grokparsefailure";
  options = no_options;
}

-- what the settings are read as
abbrev pub grok_of : Entries → Made Grok
grok_of es = next (needed (codes "match") es) (all_set grok_set es (grok_start (rules_of es)))

abbrev pub how : Grok → SearchOptions
how g = record { ends = g.break_on_match; keep_empty = g.keep_empty_captures }

-- what the patterns of a field find in it
abbrev pub finds_in : SearchOptions → Way × List Expanded → Ev → Finds
finds_in how f e = over (value_finds how f.1) none (event_at f.0 e)

-- what was found is put into the event; none where nothing matched
abbrev pub found_put : List Expanded → Finds → Ev → Option Tried
found_put ps found e = if found.matched then Some (all_tried (put_in ps) found.puts e) else None

abbrev pub field_searched : SearchOptions → Way × List Expanded → Ev → Option Tried
field_searched how f e = found_put f.1 (finds_in how f e) e

-- what became of an event in which something matched
abbrev pub found_in : Searched → Ev → Option Tried
found_in x.Missed e = None
found_in x.Failed e = Some (Err e)
found_in x.Matched e = Some (Ok e)

-- the search ends with a refused put, and with the first match where that is wanted
abbrev pub ends : SearchOptions → Searched → Bool
ends how x.Missed = false
ends how x.Failed = true
ends how x.Matched = how.ends

abbrev pub matched_by_now : Bool → Searched → Bool
matched_by_now before x.Missed = before
matched_by_now before x.Failed = before
matched_by_now before x.Matched = true

-- where something matched: what a refused put leaves fails, and the first match may end the filter
abbrev pub behind_match : SearchOptions → (Ev → Tried) → Tried → Tried
behind_match how more (Ok e) = if how.ends then Ok e else more e
behind_match how more (Err e) = Err e

-- one field after another; whether something matched so far
abbrev pub searched : SearchOptions → List (Way × List Expanded) → Bool → Ev → Tried
searched how [] matched e = tried matched e
searched how (f ∷ fs) matched e = over (behind_match how (searched how fs true)) (searched how fs matched e) (field_searched how f e)

abbrev pub grokked : Grok → Ev → Applied
grokked g e = finished g.options g.tag_on_failure (searched (how g) g.fields false e)
