use Rattle.std.proofs.Common.{◌≡◌, take}
use Rattle.filters_mutate.proofs.moves.copied.Given as goal

abbrev pub invariant-loop-member : goal.invariant-loop-member
invariant-loop-member l = l.copies ≡ take l.member-index l.fields
