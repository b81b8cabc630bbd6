use Rattle.event_text.proofs.Shows.{shown-Null, shown-Bool, shown-Num, shown-Text, shown-Time, shown-List, shown-Object}
use Rattle.event_text.proofs.value_laws.values_are_shown.Goals as goal

pub returns-clause-null : goal.returns-clause-null
returns-clause-null c = shown-Null

pub returns-clause-bool : goal.returns-clause-bool
returns-clause-bool c = shown-Bool

pub returns-clause-number : goal.returns-clause-number
returns-clause-number c = shown-Num

pub returns-clause-text : goal.returns-clause-text
returns-clause-text c = shown-Text

pub returns-clause-time : goal.returns-clause-time
returns-clause-time c = shown-Time

pub returns-clause-list : goal.returns-clause-list
returns-clause-list c = shown-List

pub returns-clause-object : goal.returns-clause-object
returns-clause-object c = shown-Object
