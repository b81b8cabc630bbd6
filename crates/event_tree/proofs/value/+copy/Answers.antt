use Rattle.std.proofs.Common.{◌<◌, length, arith}
use Rattle.plain_data.proofs.MemberLemmas.{below_next}
use Rattle.event_tree.proofs.Depths.{falls_member}
use Rattle.event_tree.proofs.value.+copy.Goals as goal

pub copy_members-copy_value-requires : goal.copy_members-copy_value-requires
copy_members-copy_value-requires t c =
    let lt : c.loop-member.member-index < length c.args.members.now = omega (arith, c.loop-member-test.true) in
    (omega (arith, falls_member c.args.members.now c.loop-member.member-index c.member-item.result c.member-item.is lt), tt)

pub copy_members-push-requires : goal.copy_members-push-requires
copy_members-push-requires t c =
    let lt : c.loop-member.member-index < length c.args.members.now = omega (arith, c.loop-member-test.true) in
    below_next c.args.members.now c.loop-member.copies c.loop-member.member-index c.member-item.result c.in_ok-copy.field-0 c.requires.rises c.loop-member.invariant lt c.member-item.is c.in_ok-copy.ensures
