-- A text read line by line, from the front on.
use Rattle.std.specs.Prelude.{ℕ, ◌+◌, List, [], ◌∷◌, None, Result, Ok}
use Rattle.settings_lines.specs.Lines.{lines_of}
use Rattle.settings_lines.specs.Reading.{ReadSoFar, and_then, taken}
use Rattle.settings_lines.specs.declared.fault.SettingsFault.{SettingsFault}
use Rattle.settings_lines.specs.declared.orders.Orders.{Orders}

-- what is read behind lines that are numbered from n on, where so much was read before them
abbrev pub read_behind : Orders → ReadSoFar → ℕ → List (List ℕ) → Result ReadSoFar SettingsFault
read_behind orders r n [] = Ok r
read_behind orders r n (l ∷ ls) = and_then (λ more. read_behind orders more (n + 1) ls) (taken orders r n l)

abbrev pub nothing : ReadSoFar
nothing = record { done = []; open_entry = None }

abbrev pub read : Orders → List ℕ → Result ReadSoFar SettingsFault
read orders text = read_behind orders nothing 1 (lines_of text)
