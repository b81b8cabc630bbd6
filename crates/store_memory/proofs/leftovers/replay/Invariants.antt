use Rattle.std.proofs.Common.{take}
use Rattle.store_memory.specs.Leaving.{IsHeld}
use Rattle.store_memory.proofs.leftovers.replay.Given as goal

abbrev pub invariant-loop-logged : goal.invariant-loop-logged
invariant-loop-logged l = IsHeld l.base (take l.logged-index l.calls) l.files
