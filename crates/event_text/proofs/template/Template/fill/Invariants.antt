use Rattle.std.proofs.Common.{◌≡◌, ◌++◌, drop}
use Rattle.std.specs.Prelude.{string_bytes}
use Rattle.event_text.specs.Template.{text}
use Rattle.event_text.proofs.template.Template.fill.Given as goal

abbrev pub invariant-loop-piece : goal.invariant-loop-piece
invariant-loop-piece l = string_bytes l.filled ++ text (drop l.piece-index l.piece-items) l.event ≡ text l.self l.event
