use Rattle.line_machine.proofs.Boxes.{boxes_stay, closed_are_unwanted, opened_boxes_stand, boxes_stand_still}
use Rattle.line_machine.proofs.laws.boxes_are_closed_once.Goals as goal

pub returns-clause-counted : goal.returns-clause-counted
returns-clause-counted c = boxes_stay

pub returns-clause-closed : goal.returns-clause-closed
returns-clause-closed c = closed_are_unwanted

pub returns-clause-opened : goal.returns-clause-opened
returns-clause-opened c = opened_boxes_stand

pub returns-clause-kept : goal.returns-clause-kept
returns-clause-kept c = boxes_stand_still
