use Rattle.std.proofs.Common.{◌≡◌, [], length}
use Rattle.config_parse.specs.Symbols as symbol
use Rattle.config_parse.specs.Read as spec
use Rattle.config_parse.specs.Seen.{tokens_of}
use Rattle.config_parse.proofs.statements.plugins.Given as goal

abbrev pub invariant-loop-found : goal.invariant-loop-found
invariant-loop-found l = spec.behind l.found (spec.read l.depth symbol.Plugins) (tokens_of l.rest) ≡ spec.behind [] (spec.read l.depth symbol.Plugins) (tokens_of l.fn.tokens)

abbrev pub decreases-loop-found : goal.decreases-loop-found
decreases-loop-found l = length (tokens_of l.rest)
