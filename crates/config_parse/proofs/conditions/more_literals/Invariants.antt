use Rattle.std.proofs.Common.{◌≡◌, length, ℕ}
use Rattle.config_parse.specs.Symbols as symbol
use Rattle.config_parse.specs.Read as spec
use Rattle.config_parse.specs.Seen.{tokens_of}
use Rattle.config_parse.proofs.conditions.more_literals.Given as goal

abbrev pub invariant-loop-token : goal.invariant-loop-token
invariant-loop-token l = (d : ℕ) → spec.behind l.found (spec.read d symbol.MoreLiterals) (tokens_of l.rest) ≡ spec.behind l.fn.front (spec.read d symbol.MoreLiterals) (tokens_of l.fn.tokens)

abbrev pub decreases-loop-token : goal.decreases-loop-token
decreases-loop-token l = length (tokens_of l.rest)
