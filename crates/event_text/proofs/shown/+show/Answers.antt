use Rattle.std.proofs.Common.{◌++◌, sym, ap, ◌∙◌}
use Rattle.std.proofs.lemmas.List.{append-nil}
use Rattle.std.specs.Prelude.{string_bytes}
use Rattle.event_text.specs.Shown.{shown}
use Rattle.event_text.proofs.Shows.{shown-Null}
use Rattle.event_text.proofs.shown.+show.Goals as goal

pub add_shown-returns-in-Null : goal.add_shown-returns-in-Null
add_shown-returns-in-Null t c = sym (ap (λ s. string_bytes c.args.to.now ++ s) (ap shown c.in-Null.is ∙ shown-Null) ∙ append-nil (string_bytes c.args.to.now))
