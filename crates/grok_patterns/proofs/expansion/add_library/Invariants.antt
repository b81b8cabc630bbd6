use Rattle.std.proofs.Common.{◌≡◌, ◌++◌, drop, map}
use Rattle.grok_patterns.specs.Expansions.{read}
use Rattle.grok_patterns.specs.Pieces.{pair_of}
use Rattle.grok_patterns.proofs.expansion.add_library.Given as goal

abbrev pub invariant-loop-one : goal.invariant-loop-one
invariant-loop-one l = l.known ++ map (read l.all_kept) (map pair_of (drop l.one-index l.library)) ≡ l.fn.known ++ map (read l.all_kept) (map pair_of l.library)
