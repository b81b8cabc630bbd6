use Rattle.in_lines.proofs.Made.{four_pushed}
use Rattle.in_lines.proofs.event.line_fields.Goals as goal

pub returns : goal.returns
returns c = four_pushed c.in_ok-fields.ensures c.in_ok-add_member.ensures c.in_ok-add_text.ensures c.in_ok-add_original.ensures c.in_ok-add_text-2.ensures
