use Rattle.std.proofs.Common.{sym, ap, ◌∙◌}
use Rattle.event_tree.specs.declared.value.Value.TheVariants as v
use Rattle.event_json.specs.Numbers.{number_or_text}
use Rattle.event_json.proofs.read.number_value.Goals as goal

pub returns-in-Some : goal.returns-in-Some
returns-in-Some c = ap (number_or_text c.args.spelling.now) (sym c.in-Some.is ∙ c.number_of.ensures)

pub returns-in_ok-of-in-None : goal.returns-in_ok-of-in-None
returns-in_ok-of-in-None c = ap v.Text c.in_ok-of-in-None.ensures ∙ ap (number_or_text c.args.spelling.now) (sym c.in-None.is ∙ c.number_of.ensures)
