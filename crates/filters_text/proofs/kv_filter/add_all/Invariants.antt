use Rattle.std.proofs.Common.{◌≡◌, ◌++◌, take}
use Rattle.filters_text.proofs.kv_filter.add_all.Given as goal

abbrev pub invariant-loop-character : goal.invariant-loop-character
invariant-loop-character l = l.set ≡ l.fn.set ++ take l.character-index l.more
