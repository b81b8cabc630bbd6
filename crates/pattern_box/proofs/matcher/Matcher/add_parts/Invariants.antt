use Rattle.std.proofs.Common.{◌≡◌, ◌++◌, drop, string_bytes}
use Rattle.pattern_box.specs.Replacements.{cells_parts}
use Rattle.pattern_box.proofs.matcher.Matcher.add_parts.Given as goal

abbrev pub invariant-loop-part : goal.invariant-loop-part
invariant-loop-part l =
    string_bytes l.to ++ cells_parts l.text l.whole l.self.cells.items (drop l.part-index l.parts)
    ≡ string_bytes l.fn.to ++ cells_parts l.text l.whole l.self.cells.items l.parts
