use Rattle.std.proofs.Common.{◌≡◌, ◌+◌, ◌*◌, drop}
use Rattle.grok_patterns.specs.Expansions.{all_added, added}
use Rattle.grok_patterns.proofs.expansion.+add.Given as goal

abbrev pub invariant-add_pieces-loop-piece : goal.invariant-add_pieces-loop-piece
invariant-add_pieces-loop-piece l =
    all_added (added l.rules l.depth) (drop l.piece-index l.pieces) l.to
    ≡ all_added (added l.rules l.depth) l.pieces l.fn.to

abbrev pub decreases-add_pieces : goal.decreases-add_pieces
decreases-add_pieces l = 3 * l.depth + 2

abbrev pub decreases-add_piece : goal.decreases-add_piece
decreases-add_piece l = 3 * l.depth + 1

abbrev pub decreases-add_reference : goal.decreases-add_reference
decreases-add_reference l = 3 * l.depth
