use Rattle.std.proofs.Common.{sym, arith}
use Rattle.slot_files.proofs.NewestSlots.{found_within}
use Rattle.slot_files.proofs.positions.recorded_in.Goals as goal

pub slice_bounds-bytes-end : goal.slice_bounds-bytes-end
slice_bounds-bytes-end c = let w = found_within 24 c.args.front.now c.in-Some.slot (omega arith) (sym c.in-Some.ensures.slot) in omega (arith, w.inside)
