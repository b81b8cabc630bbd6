use Rattle.element_code.proofs.Lengths.{length-event_spelling}
use Rattle.element_code.proofs.Wholes.{is_whole}
use Rattle.element_code.proofs.encoding.encode.Goals as goal

pub returns-in_err-reserve-clause-size : goal.returns-in_err-reserve-clause-size
returns-in_err-reserve-clause-size c = length-event_spelling c.args.event.now c.size.ensures.valid.fields_object c.size.ensures.valid.meta_object

pub returns-then-is_err-clause-size : goal.returns-then-is_err-clause-size
returns-then-is_err-clause-size c = length-event_spelling c.args.event.now c.size.ensures.valid.fields_object c.size.ensures.valid.meta_object

pub returns-else-is_err-clause-size : goal.returns-else-is_err-clause-size
returns-else-is_err-clause-size c = length-event_spelling c.args.event.now c.size.ensures.valid.fields_object c.size.ensures.valid.meta_object

pub returns-in_err-reserve-clause-whole : goal.returns-in_err-reserve-clause-whole
returns-in_err-reserve-clause-whole c = is_whole c.args.event.now c.size.ensures.valid

pub returns-then-is_err-clause-whole : goal.returns-then-is_err-clause-whole
returns-then-is_err-clause-whole c = is_whole c.args.event.now c.size.ensures.valid

pub returns-else-is_err-clause-whole : goal.returns-else-is_err-clause-whole
returns-else-is_err-clause-whole c = is_whole c.args.event.now c.size.ensures.valid
