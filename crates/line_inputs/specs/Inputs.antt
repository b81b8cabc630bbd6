-- An open input between two calls: the events that are to come of it, and what a poll and an event are of it (this project's rules for inputs).
use Rattle.std.specs.Prelude.{◌≡◌, Bool, false, Option, Result, Ok, Err, IfNone, IfOk, IsErr, List, [], ◌++◌, map}
use Rattle.std.specs.Option.{option_to_list}
use Rattle.std.specs.declared.alloc.AllocError.{AllocError}
use Rattle.event_tree.specs.Events.{Ev}
use Rattle.in_lines.specs.Settings.{with_settings}
use Rattle.in_lines.specs.declared.poll_outcome.Got.{Got}
use Rattle.in_lines.specs.declared.poll_outcome.PollFault.{PollFault}
use Rattle.in_lines.specs.declared.settings.EventSettings.{EventSettings}
use Rattle.line_inputs.specs.Rows.{is_end}
use Rattle.line_inputs.specs.Sources.{events_held}
use Rattle.line_inputs.specs.declared.source.InputSource.{InputSource}

-- An open input, as contracts see it: its source; the settings that its events get; the event that the source gave and that was not handed on yet; and whether
-- a poll met its end.
pub record InputView : Type 0 where
  pub source : InputSource
  pub settings : EventSettings
  pub waiting : Option Ev
  pub ended : Bool

-- the events that are to come of it before another poll, before its settings
abbrev pub coming : InputView → List Ev
coming v = option_to_list v.waiting ++ events_held v.source

-- a poll met the end
abbrev pub met_end : Result Got PollFault → Bool
met_end (Ok got) = is_end got
met_end (Err e) = false

-- The next event was handed on, with the settings; none, where none is to come, or where memory ran out.
pub record GaveNext (old new : InputView) (result : Result (Option Ev) AllocError) : Type 0 where
  pub given : List Ev
  pub events : coming old ≡ given ++ coming new
  pub changed : IfOk result (λ event. option_to_list event ≡ map (with_settings old.settings) given)
  pub none : IfOk result (λ event. IfNone event (coming old ≡ []))
  pub err : IsErr result → given ≡ []
  pub settings : new.settings ≡ old.settings
  pub ended : new.ended ≡ old.ended
