use Rattle.std.proofs.Common.{◌<◌, length, arith}
use Rattle.event_tree.proofs.Depths.{falls_member}
use Rattle.event_tree.proofs.measure.+nests.Goals as goal

pub members_within_depth-is_within_depth-requires : goal.members_within_depth-is_within_depth-requires
members_within_depth-is_within_depth-requires t c =
    let lt : c.loop-member.member-index < length c.args.members.now = omega (arith, c.loop-member-test.true) in
    (omega (arith, falls_member c.args.members.now c.loop-member.member-index c.member-item.result c.member-item.is lt), tt)
