use Rattle.std.proofs.Common.{◌≡◌, ◌+◌, ◌-◌, suc, arith}
use Rattle.dead_letters.proofs.Turns.{one_named}
use Rattle.dead_letters.proofs.append_plan.names_from.Goals as goal

pub loop-place-preserved : goal.loop-place-preserved
loop-place-preserved c =
    let at = c.loop-place.place in
    let some : c.args.count - at ≡ suc (c.args.count - (at + 1)) = omega (arith, c.loop-place-test.true) in
    let next : c.args.first + (at + 1) ≡ suc (c.args.first + at) = omega arith in
    one_named c.args.folder.now (c.args.first + at) (c.args.count - at) (c.args.first + (at + 1)) (c.args.count - (at + 1)) c.loop-place.names.items c.push.new.self.items _ _ some next c.in_ok-push.ensures.items c.in_ok-segment_name.ensures c.loop-place.invariant
