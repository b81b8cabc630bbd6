use Rattle.std.proofs.Common.{◌≡◌, drop}
use Rattle.std.specs.List.{list_any}
use Rattle.filters_grok.specs.Matches.{is_before}
use Rattle.filters_grok.proofs.grok_pattern.stands.Given as goal

abbrev pub invariant-loop-other : goal.invariant-loop-other
invariant-loop-other l =
    list_any (is_before l.keep_empty l.text l.spans l.capture) (drop l.other-index l.front) ≡ list_any (is_before l.keep_empty l.text l.spans l.capture) l.front
