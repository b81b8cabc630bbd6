use Rattle.std.proofs.Common.{◌<◌, ◌∙◌, length, arith}
use Rattle.std.proofs.lemmas.Grind.{common_steps}
use Rattle.event_tree.proofs.Depths.{falls_member}
use Rattle.event_tree.proofs.Sounds.{members_behind}
use Rattle.event_tree.proofs.measure.+room.Goals as goal

pub room_after_members-room_after-requires : goal.room_after_members-room_after-requires
room_after_members-room_after-requires t c =
    let lt : c.loop-member.member-index < length c.args.members.now = omega (arith, c.loop-member-test.true) in
    (omega (arith, falls_member c.args.members.now c.loop-member.member-index c.member-item.result c.member-item.is lt), tt)

pub room_after_members-loop-member-preserved : goal.room_after_members-loop-member-preserved
room_after_members-loop-member-preserved t c =
    let lt : c.loop-member.member-index < length c.args.members.now = omega (arith, c.loop-member-test.true) in
    record {
      room = grind (arith, common_steps);
      sound = members_behind c.args.members.now c.loop-member.member-index c.member-item.result lt c.member-item.is (rw c.as_str.ensures at c.as_str.utf8) c.in_ok-left-2.ensures.sound ∙ c.loop-member.invariant.sound;
    }
