use Rattle.std.proofs.Common.{◌≡◌, ◌++◌, drop, string_bytes}
use Rattle.event_tree.specs.PathTexts.{bracketed}
use Rattle.config_print.proofs.tokens.add_parts.Given as goal

abbrev pub invariant-loop-part : goal.invariant-loop-part
invariant-loop-part l = string_bytes l.to ++ bracketed (drop l.part-index l.parts) ≡ string_bytes l.fn.to ++ bracketed l.parts
