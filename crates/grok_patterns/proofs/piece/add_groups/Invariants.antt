use Rattle.std.proofs.Common.{◌≡◌, ◌++◌, drop, false}
use Rattle.grok_patterns.specs.Pieces.{groups_pieces}
use Rattle.grok_patterns.proofs.piece.add_groups.Given as goal

abbrev pub invariant-loop-part : goal.invariant-loop-part
invariant-loop-part l = l.pieces ++ groups_pieces l.later (drop l.part-index l.parts) ≡ l.fn.pieces ++ groups_pieces false l.parts
