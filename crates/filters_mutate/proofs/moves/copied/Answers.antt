use Rattle.std.proofs.Common.{◌<◌, length, arith}
use Rattle.plain_data.proofs.MemberLemmas.{below_next}
use Rattle.filters_mutate.proofs.moves.copied.Goals as goal

pub push-requires : goal.push-requires
push-requires c =
    let slice = c.members-member-items in
    let lt : c.loop-member.member-index < length slice.result.now = omega (arith, c.loop-member-test.true) in
    below_next slice.result.now c.loop-member.copies c.loop-member.member-index c.member-item.result c.in_ok-copy.field-0
    (rw slice.ensures.same slice.ensures.rises) (rw slice.ensures.same c.loop-member.invariant) lt c.member-item.is c.in_ok-copy.ensures
