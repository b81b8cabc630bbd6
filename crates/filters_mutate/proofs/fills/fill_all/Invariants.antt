use Rattle.std.proofs.Common.{◌≡◌, drop}
use Rattle.filter_settings.specs.Trying.{all_tried}
use Rattle.filters_mutate.specs.Operations.{filled}
use Rattle.filters_mutate.proofs.fills.fill_all.Given as goal

abbrev pub invariant-loop-field : goal.invariant-loop-field
invariant-loop-field l = all_tried (filled l.how) (drop l.field-index l.fields) l.event ≡ all_tried (filled l.how) l.fn.fields l.fn.event
