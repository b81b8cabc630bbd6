use Rattle.std.proofs.Common.{◌≡◌, take, map}
use Rattle.filters_text.specs.Csv.{column_of}
use Rattle.filters_text.proofs.csv_filter.Csv.places_of.Given as goal

abbrev pub invariant-loop-name : goal.invariant-loop-name
invariant-loop-name l = l.places ≡ map (column_of l.fn.self) (take l.name-index l.columns)
