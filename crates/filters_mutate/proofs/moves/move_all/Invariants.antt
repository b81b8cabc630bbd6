use Rattle.std.proofs.Common.{◌≡◌, drop}
use Rattle.filter_settings.specs.Trying.{all_tried}
use Rattle.filters_mutate.specs.Operations.{moved}
use Rattle.filters_mutate.proofs.moves.move_all.Given as goal

abbrev pub invariant-loop-field : goal.invariant-loop-field
invariant-loop-field l = all_tried (moved l.how) (drop l.field-index l.fields) l.event ≡ all_tried (moved l.how) l.fn.fields l.fn.event
