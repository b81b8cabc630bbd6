use Rattle.std.proofs.Common.{◌≡◌, drop}
use Rattle.filters_mutate.specs.Operations.{with_members}
use Rattle.filters_mutate.proofs.moves.with_members.Given as goal

abbrev pub invariant-loop-member : goal.invariant-loop-member
invariant-loop-member l = with_members l.all (drop l.member-index l.more) ≡ with_members l.fields l.more
