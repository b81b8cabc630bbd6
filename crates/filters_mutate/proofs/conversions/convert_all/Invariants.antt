use Rattle.std.proofs.Common.{◌≡◌, drop}
use Rattle.filter_settings.specs.Trying.{all_tried}
use Rattle.filters_mutate.specs.Operations.{converted_at}
use Rattle.filters_mutate.proofs.conversions.convert_all.Given as goal

abbrev pub invariant-loop-field : goal.invariant-loop-field
invariant-loop-field l = all_tried converted_at (drop l.field-index l.fields) l.event ≡ all_tried converted_at l.fn.fields l.fn.event
