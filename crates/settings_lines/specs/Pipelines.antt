-- What a text says as `pipelines.yml`.
use Rattle.std.specs.Prelude.{ℕ, ◌+◌, nat_lt, Bool, List, [], ◌∷◌, ◌++◌, map, length, if◌then◌else◌, Option, Some, None, Result, Ok, Err, bytes_eq}
use Rattle.std.specs.List.{list_any}
use Rattle.settings_lines.specs.Lines.{is_blank, lines_of}
use Rattle.settings_lines.specs.Values.{settings_of}
use Rattle.settings_lines.specs.Entries.{Fault, Numbered, Grouped, grouped, values, first_line_fault}
use Rattle.settings_lines.specs.declared.fault.SettingsLineFault.TheVariants as line
use Rattle.settings_lines.specs.declared.fault.SettingsFault.{SettingsFault}
use Rattle.settings_lines.specs.declared.fault.SettingsFault.TheVariants as fault
use Rattle.settings_lines.specs.declared.orders.Orders.{Orders}
use Rattle.settings_lines.specs.declared.settings.PipelineSettings.{PipelineSettings}

abbrev pub Answer : Type 0
Answer = Result (List PipelineSettings) SettingsFault

-- with a line in front, unless it is blank
abbrev pub with_written : ℕ → List ℕ → List Numbered → List Numbered
with_written n l ls = if is_blank l then ls else (n, l) ∷ ls

-- the lines that aren't blank, with their numbers
abbrev pub written : ℕ → List (List ℕ) → List Numbered
written n [] = []
written n (l ∷ ls) = with_written n l (written (n + 1) ls)

-- the first id that stands before it
abbrev pub has_id : List ℕ → List PipelineSettings → Bool
has_id id ps = list_any (λ p. bytes_eq p.pipeline_id id) ps

abbrev pub first_twice : List PipelineSettings → List PipelineSettings → Option (List ℕ)
first_twice before [] = None
first_twice before (p ∷ ps) = if has_id p.pipeline_id before then Some p.pipeline_id else first_twice (before ++ p ∷ []) ps

abbrev pub check_unique_ids : Option (List ℕ) → List PipelineSettings → Answer
check_unique_ids None ps = Ok ps
check_unique_ids (Some id) ps = Err (fault.Twice id)

-- the first line at fault; without one an id that stands twice; and else the settings
abbrev pub concluded : Fault → List PipelineSettings → Answer
concluded (Some f) ps = Err f
concluded None ps = check_unique_ids (first_twice [] ps) ps

abbrev pub entries_answer : Orders → Grouped → Answer
entries_answer orders g = concluded (first_line_fault g) (map (λ e. settings_of orders (values e)) g.entries)

-- the most bytes of a text
abbrev pub max_text : ℕ
max_text = 1048576

unfoldable pub pipelines_of : Orders → List ℕ → Answer
pipelines_of orders text =
    if nat_lt max_text (length text) then Err (fault.Line 1 line.Long)
    else entries_answer orders (grouped (written 1 (lines_of text)))
