use Rattle.std.proofs.Common.{◌≡◌, drop}
use Rattle.filters_date.specs.Dates.{read_first}
use Rattle.filters_date.proofs.date_filter.DateFilter.moment.Given as goal

abbrev pub invariant-loop-format : goal.invariant-loop-format
invariant-loop-format l = read_first l.self l.event l.value (drop l.format-index l.self.formats) ≡ read_first l.self l.event l.value l.self.formats
