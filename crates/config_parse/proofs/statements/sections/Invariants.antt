use Rattle.std.proofs.Common.{◌≡◌, length}
use Rattle.config_parse.specs.Symbols as symbol
use Rattle.config_parse.specs.Read as spec
use Rattle.config_parse.specs.Seen.{tokens_of}
use Rattle.config_tree.specs.Joining.{empty}
use Rattle.config_parse.proofs.statements.sections.Given as goal

abbrev pub invariant-loop-token : goal.invariant-loop-token
invariant-loop-token l = spec.behind l.found (spec.read l.depth symbol.Sections) (tokens_of l.rest) ≡ spec.behind empty (spec.read l.depth symbol.Sections) (tokens_of l.fn.tokens)

abbrev pub decreases-loop-token : goal.decreases-loop-token
decreases-loop-token l = length (tokens_of l.rest)
