use Rattle.event_text.proofs.Days.{days_have_one_text}
use Rattle.event_text.proofs.laws.a_day_has_one_text.Goals as goal

pub returns : goal.returns
returns c pieces event other day one same = days_have_one_text pieces event other day one same
