use Rattle.std.proofs.Common.{◌≡◌, drop}
use Rattle.io_memory.specs.Showings.{shown_from}
use Rattle.io_memory.proofs.memory_files.shown_in.Given as goal

abbrev pub invariant-loop-showing : goal.invariant-loop-showing
invariant-loop-showing l = shown_from l.shown (drop l.showing-index l.contents) l.number ≡ shown_from l.empty l.contents l.number
