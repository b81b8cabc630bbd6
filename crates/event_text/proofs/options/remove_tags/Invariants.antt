use Rattle.std.proofs.Common.{◌≡◌, drop}
use Rattle.event_text.specs.Options.{each_done, without_tag}
use Rattle.event_text.proofs.options.remove_tags.Given as goal

abbrev pub invariant-loop-template : goal.invariant-loop-template
invariant-loop-template l = each_done without_tag (drop l.template-index l.templates) l.event ≡ each_done without_tag l.fn.templates l.fn.event
