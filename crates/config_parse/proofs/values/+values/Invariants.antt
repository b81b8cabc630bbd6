use Rattle.std.proofs.Common.{◌≡◌, length, ◌+◌, ◌*◌}
use Rattle.config_parse.specs.Symbols as symbol
use Rattle.config_parse.specs.Read as spec
use Rattle.config_parse.specs.Seen.{tokens_of}
use Rattle.config_parse.specs.Tables.{values_of}
use Rattle.config_parse.proofs.values.+values.Given as goal

abbrev pub decreases-nest : goal.decreases-nest
decreases-nest l = 6 * l.depth + 0

abbrev pub decreases-value : goal.decreases-value
decreases-value l = 6 * l.depth + 1

abbrev pub decreases-single : goal.decreases-single
decreases-single l = 6 * l.depth + 2

abbrev pub decreases-entry : goal.decreases-entry
decreases-entry l = 6 * l.depth + 2

abbrev pub decreases-single_entry : goal.decreases-single_entry
decreases-single_entry l = 6 * l.depth + 3

abbrev pub decreases-more : goal.decreases-more
decreases-more l = 6 * l.depth + 4

abbrev pub decreases-put_pairs : goal.decreases-put_pairs
decreases-put_pairs l = 6 * l.depth + 4

abbrev pub decreases-put_settings : goal.decreases-put_settings
decreases-put_settings l = 6 * l.depth + 4

abbrev pub decreases-pairs : goal.decreases-pairs
decreases-pairs l = 6 * l.depth + 5

abbrev pub decreases-settings : goal.decreases-settings
decreases-settings l = 6 * l.depth + 5

abbrev pub decreases-members : goal.decreases-members
decreases-members l = 6 * l.depth + 5

abbrev pub invariant-more-loop-token : goal.invariant-more-loop-token
invariant-more-loop-token l = spec.behind l.found (spec.read l.depth symbol.More) (tokens_of l.rest) ≡ spec.behind l.fn.front (spec.read l.depth symbol.More) (tokens_of l.fn.tokens)

abbrev pub decreases-more-loop-token : goal.decreases-more-loop-token
decreases-more-loop-token l = length (tokens_of l.rest)

abbrev pub invariant-put_pairs-loop-token : goal.invariant-put_pairs-loop-token
invariant-put_pairs-loop-token l = spec.pairs l.depth l.found.entries (tokens_of l.rest) ≡ spec.pairs l.depth l.fn.found.entries (tokens_of l.fn.tokens)

abbrev pub decreases-put_pairs-loop-token : goal.decreases-put_pairs-loop-token
decreases-put_pairs-loop-token l = length (tokens_of l.rest)

abbrev pub invariant-put_settings-loop-token : goal.invariant-put_settings-loop-token
invariant-put_settings-loop-token l = spec.settings l.depth (values_of l.found.entries) (tokens_of l.rest) ≡ spec.settings l.depth (values_of l.fn.found.entries) (tokens_of l.fn.tokens)

abbrev pub decreases-put_settings-loop-token : goal.decreases-put_settings-loop-token
decreases-put_settings-loop-token l = length (tokens_of l.rest)
