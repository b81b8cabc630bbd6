use Rattle.std.proofs.Common.{◌≡◌, ◌++◌, take}
use Rattle.filter_settings.proofs.paths.add_parts.Given as goal

abbrev pub invariant-loop-part : goal.invariant-loop-part
invariant-loop-part l = l.parts ≡ l.fn.parts ++ take l.part-index l.more
