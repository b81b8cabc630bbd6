use Rattle.std.proofs.Common.{◌≡◌, drop}
use Rattle.event_text.specs.Options.{each_done, with_field}
use Rattle.event_text.proofs.options.add_fields.Given as goal

abbrev pub invariant-loop-field : goal.invariant-loop-field
invariant-loop-field l = each_done with_field (drop l.field-index l.fields) l.event ≡ each_done with_field l.fn.fields l.fn.event
