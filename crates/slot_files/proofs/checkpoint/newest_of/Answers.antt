use Rattle.std.proofs.Common.{sym, arith}
use Rattle.slot_files.proofs.CheckpointReads.{found_within}
use Rattle.slot_files.proofs.checkpoint.newest_of.Goals as goal

pub overflow_add-bytes : goal.overflow_add-bytes
overflow_add-bytes c = let w = found_within c.args.front.now c.in-Some.slot (sym c.in-Some.ensures.slot) in omega (arith, w.low)

pub slice_bounds-bytes-end : goal.slice_bounds-bytes-end
slice_bounds-bytes-end c = let w = found_within c.args.front.now c.in-Some.slot (sym c.in-Some.ensures.slot) in omega (arith, w.inside)
