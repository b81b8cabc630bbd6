use Rattle.event_text.proofs.Wholes.{pieces_whole, pieces_read}
use Rattle.event_text.proofs.laws.pieces_are_those_of_the_text.Goals as goal

pub returns-clause-whole : goal.returns-clause-whole
returns-clause-whole c template = pieces_whole template

pub returns-clause-read : goal.returns-clause-read
returns-clause-read c template = pieces_read template
