use Rattle.std.proofs.Common.{◌≡◌, drop}
use Rattle.filter_settings.specs.Trying.{all_tried}
use Rattle.filters_mutate.specs.Operations.{cased_at}
use Rattle.filters_mutate.proofs.cases.change_cases.Given as goal

abbrev pub invariant-loop-field : goal.invariant-loop-field
invariant-loop-field l = all_tried (cased_at l.case) (drop l.field-index l.fields) l.event ≡ all_tried (cased_at l.case) l.fn.fields l.fn.event
