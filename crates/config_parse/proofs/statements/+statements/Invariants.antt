use Rattle.std.proofs.Common.{◌≡◌, [], length, ◌+◌, ◌*◌}
use Rattle.config_parse.specs.Symbols as symbol
use Rattle.config_parse.specs.Read as spec
use Rattle.config_parse.specs.Seen.{tokens_of}
use Rattle.config_parse.proofs.statements.+statements.Given as goal

abbrev pub decreases-block : goal.decreases-block
decreases-block l = 6 * l.depth

abbrev pub decreases-arm : goal.decreases-arm
decreases-arm l = 6 * l.depth + 1

abbrev pub decreases-otherwise : goal.decreases-otherwise
decreases-otherwise l = 6 * l.depth + 2

abbrev pub decreases-arms : goal.decreases-arms
decreases-arms l = 6 * l.depth + 3

abbrev pub decreases-statement : goal.decreases-statement
decreases-statement l = 6 * l.depth + 4

abbrev pub decreases-statements : goal.decreases-statements
decreases-statements l = 6 * l.depth + 5

abbrev pub invariant-otherwise-loop-token : goal.invariant-otherwise-loop-token
invariant-otherwise-loop-token l = spec.behind l.found (spec.read l.depth symbol.Otherwise) (tokens_of l.rest) ≡ spec.behind l.fn.front (spec.read l.depth symbol.Otherwise) (tokens_of l.fn.tokens)

abbrev pub decreases-otherwise-loop-token : goal.decreases-otherwise-loop-token
decreases-otherwise-loop-token l = length (tokens_of l.rest)

abbrev pub invariant-statements-loop-found : goal.invariant-statements-loop-found
invariant-statements-loop-found l = spec.behind l.found (spec.read l.depth symbol.Statements) (tokens_of l.rest) ≡ spec.behind [] (spec.read l.depth symbol.Statements) (tokens_of l.fn.tokens)

abbrev pub decreases-statements-loop-found : goal.decreases-statements-loop-found
decreases-statements-loop-found l = length (tokens_of l.rest)
