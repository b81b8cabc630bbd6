use Rattle.std.proofs.Common.{◌≡◌, ◌++◌, drop}
use Rattle.std.specs.Prelude.{string_bytes}
use Rattle.event_text.specs.DateFormats.{date_text_of}
use Rattle.event_text.proofs.date_format.add_date.Given as goal

abbrev pub invariant-loop-part : goal.invariant-loop-part
invariant-loop-part l = string_bytes l.to ++ date_text_of (drop l.part-index l.parts) l.fn.moment ≡ string_bytes l.fn.to ++ date_text_of l.parts l.fn.moment
