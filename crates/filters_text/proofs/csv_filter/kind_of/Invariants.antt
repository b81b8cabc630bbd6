use Rattle.std.proofs.Common.{◌≡◌, drop}
use Rattle.filters_text.specs.Csv.{kind_of}
use Rattle.filters_text.proofs.csv_filter.kind_of.Given as goal

abbrev pub invariant-loop-kind : goal.invariant-loop-kind
invariant-loop-kind l = kind_of l.name (drop l.kind-index l.kinds) ≡ kind_of l.name l.fn.kinds
