use Rattle.std.proofs.Common.{◌≡◌, drop}
use Rattle.event_text.proofs.Going.{with_front}
use Rattle.event_text.specs.Options.{each_in}
use Rattle.filters_date.specs.Formats.{format_of}
use Rattle.filters_date.proofs.date_filter.formats.Given as goal

abbrev pub invariant-loop-text : goal.invariant-loop-text
invariant-loop-text l = with_front l.formats (each_in format_of (drop l.text-index l.texts)) ≡ each_in format_of l.texts
