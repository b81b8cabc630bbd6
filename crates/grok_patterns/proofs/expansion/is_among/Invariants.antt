use Rattle.std.proofs.Common.{◌≡◌, drop}
use Rattle.std.specs.List.{list_any}
use Rattle.filter_settings.specs.Paths.{same_path}
use Rattle.grok_patterns.proofs.expansion.is_among.Given as goal

abbrev pub invariant-loop-other : goal.invariant-loop-other
invariant-loop-other l = list_any (same_path l.path) (drop l.other-index l.paths) ≡ list_any (same_path l.path) l.paths
