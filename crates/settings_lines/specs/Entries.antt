-- The entries of `pipelines.yml`, and the first line at fault.
use Rattle.std.specs.Prelude.{ℕ, ◌+◌, nat_le, not, Bool, true, false, List, [], ◌∷◌, if◌then◌else◌, Option, Some, None, codes}
use Rattle.settings_lines.specs.Lines.{begins_entry, pair_of}
use Rattle.settings_lines.specs.Table.{value_test}
use Rattle.settings_lines.specs.Values.{Values, Line, stands, with_line}
use Rattle.settings_lines.specs.declared.fault.SettingsLineFault.TheVariants as line
use Rattle.settings_lines.specs.declared.fault.SettingsFault.{SettingsFault}
use Rattle.settings_lines.specs.declared.fault.SettingsFault.TheVariants as fault

abbrev pub Fault : Type 0
Fault = Option SettingsFault

-- the first of two faults
abbrev pub or_else : Fault → Fault → Fault
or_else None next = next
or_else (Some f) next = Some f

-- a line that isn't blank, with its number from 1 on
abbrev pub Numbered : Type 0
Numbered = ℕ × List ℕ

-- an entry: its first line, and those behind it up to the next entry
pub record EntryLines : Type 0 where
  pub first : Numbered
  pub later : List Numbered

-- the lines in front of all entries, and the entries
pub record Grouped : Type 0 where
  pub front : List Numbered
  pub entries : List EntryLines

-- with one line in front
abbrev pub with_first : Bool → Numbered → Grouped → Grouped
with_first true l g = record { front = []; entries = record { first = l; later = g.front } ∷ g.entries }
with_first false l g = record { front = l ∷ g.front; entries = g.entries }

abbrev pub grouped : List Numbered → Grouped
grouped [] = record { front = []; entries = [] }
grouped (l ∷ ls) = with_first (begins_entry l.1) l (grouped ls)

-- the keys of an entry, of which some stand already
abbrev pub values_behind : Values → List Numbered → Values
values_behind vs [] = vs
values_behind vs (l ∷ ls) = values_behind (with_line vs (pair_of l.1)) ls

abbrev pub first_values : Numbered → Values
first_values l = with_line [] (pair_of l.1)

abbrev pub values : EntryLines → Values
values e = values_behind (first_values e.first) e.later

-- a key that is none of the table, or whose value is not in its range
abbrev pub test_fault : ℕ → List ℕ → Option Bool → Fault
test_fault n k None = Some (fault.Unknown n k)
test_fault n k (Some true) = None
test_fault n k (Some false) = Some (fault.Range n k)

abbrev pub key_fault : ℕ → List ℕ × List ℕ → Fault
key_fault n p = test_fault n p.0 (value_test p.0 p.1)

-- the fault of a line behind the first of its entry, in front of which these keys stand
abbrev pub later_fault : Values → ℕ → Line → Fault
later_fault vs n None = Some (fault.Line n line.Form)
later_fault vs n (Some p) = if stands p.0 vs then Some (fault.Line n line.KeyTwice) else key_fault n p

-- of the first such line at fault
abbrev pub faults_behind : Values → List Numbered → Fault
faults_behind vs [] = None
faults_behind vs (l ∷ ls) = or_else (later_fault vs l.0 (pair_of l.1)) (faults_behind (with_line vs (pair_of l.1)) ls)

-- exactly one of `path.config` and `config.string` stands
abbrev pub has_configuration : Values → Bool
has_configuration vs = if stands (codes "path.config") vs then not (stands (codes "config.string") vs) else stands (codes "config.string") vs

-- the fault of the first line of an entry with these keys, behind so many entries
abbrev pub first_fault : ℕ → ℕ → Line → Values → Fault
first_fault before n None vs = Some (fault.Line n line.Form)
first_fault before n (Some p) vs =
    if not (stands (codes "pipeline.id") vs) then Some (fault.Line n line.NoId)
    else (if not (has_configuration vs) then Some (fault.Line n line.NoConfiguration)
    else (if nat_le 16 before then Some (fault.Line n line.TooMany)
    else key_fault n p))

abbrev pub entry_fault : ℕ → EntryLines → Fault
entry_fault before e = or_else (first_fault before e.first.0 (pair_of e.first.1) (values e)) (faults_behind (first_values e.first) e.later)

-- a line in front of all entries
abbrev pub front_fault : List Numbered → Fault
front_fault [] = None
front_fault (l ∷ ls) = Some (fault.Line l.0 line.Form)

-- of the first line at fault in entries, behind so many others
abbrev pub entries_fault : ℕ → List EntryLines → Fault
entries_fault before [] = None
entries_fault before (e ∷ es) = or_else (entry_fault before e) (entries_fault (before + 1) es)

-- the first line at fault
abbrev pub first_line_fault : Grouped → Fault
first_line_fault g = or_else (front_fault g.front) (entries_fault 0 g.entries)
