-- What a generator gives: the lines of its settings as events, counted from 0 (this project's tables of plugins and of samples).
use Rattle.std.specs.Prelude.{ℕ, zero, suc, ◌/◌, ◌%◌, ◌==◌, pos, Bool, not, ◌&&◌, ◌||◌, List, [], ◌∷◌, length, codes, get_or, if◌then◌else◌, Option, Some, None, nat_le, ℤ}
use Rattle.event_tree.specs.Events.{Ev, Way}
use Rattle.event_tree.specs.declared.value.Value.{Value}
use Rattle.event_tree.specs.declared.value.Value.TheVariants as v
use Rattle.event_text.specs.Options.{set_at}
use Rattle.in_lines.specs.Decoding.{event_by, in_event}
use Rattle.in_lines.specs.Polls.{Received}
use Rattle.in_lines.specs.Settings.{with_settings}
use Rattle.in_lines.specs.Samples.{number_at, sample_line}
use Rattle.in_lines.specs.declared.generator.GeneratedLines.{GeneratedLines}
use Rattle.in_lines.specs.declared.generator.GeneratedLines.TheVariants.{Texts, Sample}
use Rattle.in_lines.specs.declared.generator.Generator.{Generator}
use Rattle.in_lines.specs.declared.generator.Progress.{Progress}
use Rattle.in_lines.specs.declared.settings.EventSettings.{EventSettings}

-- how many lines make a round
abbrev pub width : GeneratedLines → ℕ
width (Texts texts) = length texts
width (Sample from) = 1

-- the line of a number: of the texts one after another, and from the first again; of a sample each once
abbrev pub line_at : GeneratedLines → ℕ → List ℕ
line_at (Texts texts) k = get_or texts (k % length texts) []
line_at (Sample from) k = sample_line (number_at from (suc k))

-- whether so many events are all: as many rounds are done as the count says, where it is not 0, or there is no line
abbrev pub gave_all : Generator → ℕ → Bool
gave_all g k = width g.lines == 0 || (not (g.count == 0) && nat_le g.count (k / width g.lines))

-- where an event keeps its number
abbrev pub sequence : Way
sequence = in_event (codes "sequence")

abbrev pub whole : ℤ → Value
whole n = v.Num (record { mantissa = n; scale = 0 })

-- the event of a line, with its number
abbrev pub numbered : EventSettings → ℤ → Received → Ev
numbered s n r = with_settings s (set_at sequence (whole n) (event_by s.codec r))

-- the event of a number, at the moment of the poll that makes it
abbrev pub generated : Generator → ℤ → ℕ → Ev
generated g moment k = numbered g.settings (pos k) (record { line = line_at g.lines k; moment = moment })

-- the same, where it gives so many
abbrev pub event_at : Generator → ℤ → ℕ → Option Ev
event_at g moment k = if gave_all g k then None else Some (generated g moment k)

-- so many events at most, from a number on
unfoldable pub events_from : Generator → ℤ → ℕ → ℕ → List Ev
events_from g moment k zero = []
events_from g moment k (suc n) = if gave_all g k then [] else generated g moment k ∷ events_from g moment (suc k) n

-- how far a generator is that gave so many events
abbrev pub last_number : GeneratedLines → ℕ → ℕ
last_number (Texts texts) k = 0
last_number (Sample from) k = number_at from k

abbrev pub progress_at : GeneratedLines → ℕ → Progress
progress_at lines k = record { events = k; number = last_number lines k }

-- and how far it is once it was asked for one more
abbrev pub progress_behind : Generator → ℕ → Progress
progress_behind g k = if gave_all g k then progress_at g.lines k else progress_at g.lines (suc k)
