use Rattle.std.proofs.Common.{sym, ap, ◌∙◌, Some, Ok}
use Rattle.event_tree.specs.declared.value.Value.TheVariants as v
use Rattle.element_code.proofs.Leaves.{is_text, is_no_text}
use Rattle.element_code.proofs.reading.text_from.Goals as goal

pub returns-in_ok-of-in-Some : goal.returns-in_ok-of-in-Some
returns-in_ok-of-in-Some c = ap Ok (is_text _ c.in-Some.ensures.1 ∙ ap (λ t. Some (v.Text t)) (sym (c.in_ok-of-in-Some.ensures ∙ c.in-Some.ensures.0)))

pub returns-in-None : goal.returns-in-None
returns-in-None c = ap Ok (is_no_text _ c.in-None.ensures)
