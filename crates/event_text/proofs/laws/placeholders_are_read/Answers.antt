use Rattle.event_text.proofs.TemplateLaws.{date_read, field_read, other_stays, unclosed_stays, unopened_stays, plain_read}
use Rattle.event_text.proofs.laws.placeholders_are_read.Goals as goal

pub returns-clause-date : goal.returns-clause-date
returns-clause-date c = date_read

pub returns-clause-field : goal.returns-clause-field
returns-clause-field c = field_read

pub returns-clause-other : goal.returns-clause-other
returns-clause-other c = other_stays

pub returns-clause-unclosed : goal.returns-clause-unclosed
returns-clause-unclosed c = unclosed_stays

pub returns-clause-unopened : goal.returns-clause-unopened
returns-clause-unopened c = unopened_stays

pub returns-clause-plain : goal.returns-clause-plain
returns-clause-plain c = plain_read
