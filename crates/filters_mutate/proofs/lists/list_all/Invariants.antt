use Rattle.std.proofs.Common.{◌≡◌, drop}
use Rattle.filter_settings.specs.Trying.{all_tried}
use Rattle.filters_mutate.specs.Operations.{listed}
use Rattle.filters_mutate.proofs.lists.list_all.Given as goal

abbrev pub invariant-loop-field : goal.invariant-loop-field
invariant-loop-field l = all_tried (listed l.how) (drop l.field-index l.fields) l.event ≡ all_tried (listed l.how) l.fn.fields l.fn.event
