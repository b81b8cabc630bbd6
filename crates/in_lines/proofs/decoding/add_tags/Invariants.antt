use Rattle.std.proofs.Common.{◌≡◌, drop}
use Rattle.event_text.specs.Options.{each_done, tagged}
use Rattle.in_lines.proofs.decoding.add_tags.Given as goal

abbrev pub invariant-loop-tag : goal.invariant-loop-tag
invariant-loop-tag l = each_done tagged (drop l.tag-index l.tags) l.event ≡ each_done tagged l.tags l.fn.event
