-- The events that an input gives, poll by poll (this project's rules for inputs).
use Rattle.std.specs.Prelude.{ℕ, ◌*◌, List, [], ◌∷◌, ◌++◌, map, length, drop}
use Rattle.event_tree.specs.Events.{Ev}
use Rattle.in_lines.specs.Generators.{events_from}
use Rattle.in_lines.specs.Polls.{Poll, received_at, lines_through}
use Rattle.in_lines.specs.Settings.{event_with}
use Rattle.in_lines.specs.declared.input.LineInput.{LineInput}
use Rattle.in_lines.specs.declared.input.LineInput.TheVariants.{Stdin, Generated}

-- how many events a poll of a generator makes, unless it gave all
abbrev pub poll_limit : ℕ
poll_limit = 125

-- The events that a poll brings, where others were before it. Of an input that reads bytes those of the lines that it made whole, as `received` has them; of a
-- generator the next ones, at its moment.
abbrev pub new_events : ℕ → LineInput → List Poll → Poll → List Ev
new_events limit (Stdin s) before poll =
    map (event_with s) (received_at poll.moment (drop (length (lines_through limit before)) (lines_through limit (before ++ poll ∷ []))))
new_events limit (Generated g) before poll = events_from g poll.moment (poll_limit * length before) poll_limit

-- the events of polls
abbrev pub events_after : ℕ → LineInput → List Poll → List Poll → List Ev
events_after limit input before [] = []
events_after limit input before (poll ∷ polls) = new_events limit input before poll ++ events_after limit input (before ++ poll ∷ []) polls

unfoldable pub events_by : ℕ → LineInput → List Poll → List Ev
events_by limit input polls = events_after limit input [] polls
