use Rattle.std.proofs.Common.{◌≡◌, ◌≤◌, ◌+◌, length}
use denote.Text.{Utf8}
use denote.Shadow.{shadow}
use Rattle.settings_lines.specs.Lines.{lines_of}
use Rattle.settings_lines.specs.Reading.{reading_view}
use Rattle.settings_lines.specs.Steps.{read, read_behind}
use Rattle.settings_lines.proofs.pipelines.read_lines.Given as goal

abbrev pub invariant-loop-line : goal.invariant-loop-line
invariant-loop-line l =
    shadow (Utf8 l.rest) × (l.number + length l.rest ≤ length l.fn.text + 1)
    × (read_behind l.orders (reading_view l.reading) l.number (lines_of l.rest) ≡ read l.orders l.fn.text)

abbrev pub decreases-loop-line : goal.decreases-loop-line
decreases-loop-line l = length l.rest
