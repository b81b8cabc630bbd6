-- What the boxes of the rows do.
use Rattle.std.specs.Prelude.{◌≡◌, ℕ, List, [], ◌∷◌, true, codes, Option, Some, None, option_and_then}
use Rattle.config_tree.specs.Joining.{Entries}
use Rattle.config_tree.specs.Readers.{value_at}
use Rattle.config_tree.specs.declared.fault.SettingFault.{SettingFault}
use Rattle.config_tree.specs.declared.fault.SettingFault.TheVariants as fault
use Rattle.event_tree.specs.Events.{Ev}
use Rattle.foreign_parts.specs.declared.filter.Verdict.{Verdict}

-- the setting of this name is refused as unknown
abbrev pub refused : List ℕ → Entries → Option SettingFault
refused k es = option_and_then (λ x. Some (fault.Unknown k)) (value_at k es)

abbrev pub unchanged : Ev → Verdict → Type 0
unchanged e v = v ≡ record { events = e ∷ []; matched = true }
