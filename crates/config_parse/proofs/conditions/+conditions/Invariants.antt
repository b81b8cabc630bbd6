use Rattle.std.proofs.Common.{◌≡◌, length, ◌+◌, ◌*◌}
use Rattle.config_parse.specs.Symbols as symbol
use Rattle.config_parse.specs.Read as spec
use Rattle.config_parse.specs.Seen.{tokens_of}
use Rattle.config_parse.proofs.conditions.+conditions.Given as goal

abbrev pub decreases-unary : goal.decreases-unary
decreases-unary l = 5 * l.depth

abbrev pub decreases-ands : goal.decreases-ands
decreases-ands l = 5 * l.depth + 1

abbrev pub decreases-joined : goal.decreases-joined
decreases-joined l = 5 * l.depth + 2

abbrev pub decreases-ors : goal.decreases-ors
decreases-ors l = 5 * l.depth + 3

abbrev pub decreases-condition : goal.decreases-condition
decreases-condition l = 5 * l.depth + 4

abbrev pub invariant-ands-loop-token : goal.invariant-ands-loop-token
invariant-ands-loop-token l = spec.behind l.left (spec.read l.depth symbol.Ands) (tokens_of l.rest) ≡ spec.behind l.fn.front (spec.read l.depth symbol.Ands) (tokens_of l.fn.tokens)

abbrev pub decreases-ands-loop-token : goal.decreases-ands-loop-token
decreases-ands-loop-token l = length (tokens_of l.rest)

abbrev pub invariant-ors-loop-token : goal.invariant-ors-loop-token
invariant-ors-loop-token l = spec.behind l.left (spec.read l.depth symbol.Ors) (tokens_of l.rest) ≡ spec.behind l.fn.front (spec.read l.depth symbol.Ors) (tokens_of l.fn.tokens)

abbrev pub decreases-ors-loop-token : goal.decreases-ors-loop-token
decreases-ors-loop-token l = length (tokens_of l.rest)
