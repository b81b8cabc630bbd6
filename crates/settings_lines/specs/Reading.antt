-- What is read of a text so far: the settings of the entries that are whole, and an entry that may go on.
use Rattle.std.specs.Prelude.{ℕ, List, [], ◌∷◌, ◌++◌, length, if◌then◌else◌, Option, Some, None, Result, Ok, Err, option_map}
use Rattle.settings_lines.specs.Lines.{is_blank, begins_entry, pair_of}
use Rattle.settings_lines.specs.Values.{Values, Line, with_line, settings_of}
use Rattle.settings_lines.specs.Entries.{Fault, or_else, later_fault, first_fault}
use Rattle.settings_lines.specs.Pairs.{line_view, values_view}
use Rattle.settings_lines.specs.declared.fault.SettingsLineFault.TheVariants as line
use Rattle.settings_lines.specs.declared.fault.SettingsFault.{SettingsFault}
use Rattle.settings_lines.specs.declared.fault.SettingsFault.TheVariants as fault
use Rattle.settings_lines.specs.declared.orders.Orders.{Orders}
use Rattle.settings_lines.specs.declared.settings.PipelineSettings.{PipelineSettings}
use Rattle.settings_lines.specs.declared.entry.PipelineEntry.{PipelineEntry}
use Rattle.settings_lines.specs.declared.partial_settings.PartialSettings.{PartialSettings}

-- an entry: the number of its first line, that line, its keys, and the fault of the first line behind that one
pub record Opened : Type 0 where
  pub number : ℕ
  pub first : Line
  pub values : Values
  pub fault : Fault

abbrev pub entry_view : PipelineEntry → Opened
entry_view e = record { number = e.number; first = line_view e.first; values = values_view e.values; fault = e.fault }

pub record ReadSoFar : Type 0 where
  pub done : List PipelineSettings
  pub open_entry : Option Opened

abbrev pub reading_view : PartialSettings → ReadSoFar
reading_view r = record { done = r.done; open_entry = option_map entry_view r.entry }

abbrev pub opened : ℕ → Line → Opened
opened n l = record { number = n; first = l; values = with_line [] l; fault = None }

-- with one more line
abbrev pub with_later : Opened → ℕ → Line → Opened
with_later o n l = record {
  number = o.number;
  first = o.first;
  values = with_line o.values l;
  fault = or_else o.fault (later_fault o.values n l);
}

-- unless there is a fault
abbrev pub unless : {A : Type 0} → Fault → A → Result A SettingsFault
unless None x = Ok x
unless (Some f) x = Err f

abbrev pub and_then : {A B : Type 0} → (A → Result B SettingsFault) → Result A SettingsFault → Result B SettingsFault
and_then next (Ok x) = next x
and_then next (Err f) = Err f

-- the settings of an entry that is whole, behind so many others
abbrev pub finished : Orders → ℕ → Opened → Result PipelineSettings SettingsFault
finished orders before o = unless (or_else (first_fault before o.number o.first o.values) o.fault) (settings_of orders o.values)

-- the settings of all entries, where the last one is whole
abbrev pub closed_with : Orders → List PipelineSettings → Option Opened → Result (List PipelineSettings) SettingsFault
closed_with orders done None = Ok done
closed_with orders done (Some o) = and_then (λ s. Ok (done ++ s ∷ [])) (finished orders (length done) o)

abbrev pub closed : Orders → ReadSoFar → Result (List PipelineSettings) SettingsFault
closed orders r = closed_with orders r.done r.open_entry

-- with a line that begins an entry, and with another
abbrev pub begun : Orders → ReadSoFar → ℕ → Line → Result ReadSoFar SettingsFault
begun orders r n l = and_then (λ done. Ok (record { done = done; open_entry = Some (opened n l) })) (closed orders r)

abbrev pub added_to : List PipelineSettings → Option Opened → ℕ → Line → Result ReadSoFar SettingsFault
added_to done None n l = Err (fault.Line n line.Form)
added_to done (Some o) n l = Ok (record { done = done; open_entry = Some (with_later o n l) })

abbrev pub added : ReadSoFar → ℕ → Line → Result ReadSoFar SettingsFault
added r n l = added_to r.done r.open_entry n l

-- with any line
abbrev pub taken : Orders → ReadSoFar → ℕ → List ℕ → Result ReadSoFar SettingsFault
taken orders r n text =
    if is_blank text then Ok r
    else (if begins_entry text then begun orders r n (pair_of text) else added r n (pair_of text))
