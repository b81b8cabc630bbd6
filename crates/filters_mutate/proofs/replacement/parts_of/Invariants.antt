use Rattle.std.proofs.Common.{◌≡◌, ◌++◌, drop, false}
use Rattle.filters_mutate.specs.Gsub.{pieces_parts}
use Rattle.filters_mutate.proofs.replacement.parts_of.Given as goal

abbrev pub invariant-loop-piece : goal.invariant-loop-piece
invariant-loop-piece l = l.parts ++ pieces_parts l.later (drop l.piece-index l.pieces) ≡ pieces_parts false l.pieces
