use Rattle.std.proofs.Common.{◌≡◌, ◌++◌, [], drop, take}
use Rattle.filters_grok.specs.Matches.{captured}
use Rattle.filters_grok.proofs.grok_pattern.captured.Given as goal

abbrev pub invariant-loop-index : goal.invariant-loop-index
invariant-loop-index l =
    l.puts ++ captured l.keep_empty l.number l.text l.spans (take l.index l.captures) (drop l.index l.captures) ≡ captured l.keep_empty l.number l.text l.spans [] l.captures
