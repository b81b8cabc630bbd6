use Rattle.std.proofs.Common.{◌≡◌, drop}
use Rattle.event_text.specs.Options.{each_done, without_field}
use Rattle.event_text.proofs.options.remove_fields.Given as goal

abbrev pub invariant-loop-path : goal.invariant-loop-path
invariant-loop-path l = each_done without_field (drop l.path-index l.paths) l.event ≡ each_done without_field l.fn.paths l.fn.event
