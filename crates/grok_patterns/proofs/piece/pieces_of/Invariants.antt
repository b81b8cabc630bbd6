use Rattle.std.proofs.Common.{◌≡◌, ◌++◌, drop, false}
use Rattle.grok_patterns.specs.Pieces.{parts_pieces}
use Rattle.grok_patterns.proofs.piece.pieces_of.Given as goal

abbrev pub invariant-loop-part : goal.invariant-loop-part
invariant-loop-part l = l.pieces ++ parts_pieces l.all_kept l.later (drop l.part-index l.parts) ≡ parts_pieces l.all_kept false l.parts
