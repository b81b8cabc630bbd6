use Rattle.std.proofs.Common.{sym, arith, length-take}
use Rattle.slot_files.proofs.NewestSlots.{found_within}
use Rattle.dead_letters.proofs.naming.counted_in.Goals as goal

pub slice_bounds-bytes-end : goal.slice_bounds-bytes-end
slice_bounds-bytes-end c = let w = found_within 32 c.args.front.now c.in-Some.slot (omega arith) (sym c.in-Some.ensures.slot) in omega (arith, w.inside)

pub slice_bounds-broken_slot-end : goal.slice_bounds-broken_slot-end
slice_bounds-broken_slot-end c = omega (arith, length-take 32 c.args.front.now, c.if-front-le-SLOT_LEN.false)
