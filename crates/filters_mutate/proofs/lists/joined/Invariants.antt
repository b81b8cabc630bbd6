use Rattle.std.proofs.Common.{◌≡◌, ◌++◌, drop, map, string_bytes}
use Rattle.event_text.specs.Shown.{shown}
use Rattle.filters_mutate.specs.Texts.{between, joined_by}
use Rattle.filters_mutate.proofs.lists.joined.Given as goal

abbrev pub invariant-loop-item : goal.invariant-loop-item
invariant-loop-item l = string_bytes l.text ++ between l.separator l.later (map shown (drop l.item-index l.items)) ≡ joined_by l.separator (map shown l.items)
