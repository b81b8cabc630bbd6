use Rattle.std.proofs.Common.{◌≡◌, ◌++◌, drop, map}
use Rattle.grok_patterns.specs.Expansions.{read}
use Rattle.grok_patterns.proofs.expansion.add_defined.Given as goal

abbrev pub invariant-loop-one : goal.invariant-loop-one
invariant-loop-one l = l.known ++ map (read l.all_kept) (drop l.one-index l.definitions) ≡ l.fn.known ++ map (read l.all_kept) l.definitions
