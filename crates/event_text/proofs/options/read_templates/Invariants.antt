use Rattle.std.proofs.Common.{◌≡◌, ◌++◌, map, drop}
use Rattle.event_text.specs.Template.{template_parts}
use Rattle.event_text.proofs.options.read_templates.Given as goal

abbrev pub invariant-loop-text : goal.invariant-loop-text
invariant-loop-text l = l.found ++ map template_parts (drop l.text-index l.texts) ≡ map template_parts l.texts
