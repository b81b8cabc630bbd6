use Rattle.std.proofs.Common.{◌≡◌, drop}
use Rattle.grok_patterns.specs.Expansions.{pieces_named}
use Rattle.grok_patterns.proofs.expansion.pieces_named.Given as goal

abbrev pub invariant-loop-one : goal.invariant-loop-one
invariant-loop-one l = pieces_named l.name (drop l.one-index l.known) ≡ pieces_named l.name l.known
