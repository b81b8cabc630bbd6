use Rattle.line_machine.proofs.Covering.{opened_marks_cover, marks_cover_still, opened_rows_are_covered, rows_are_covered_still}
use Rattle.line_machine.proofs.laws.marks_cover.Goals as goal

pub returns-clause-opened : goal.returns-clause-opened
returns-clause-opened c = opened_marks_cover

pub returns-clause-kept : goal.returns-clause-kept
returns-clause-kept c = marks_cover_still

pub returns-clause-rows_opened : goal.returns-clause-rows_opened
returns-clause-rows_opened c = opened_rows_are_covered

pub returns-clause-rows_kept : goal.returns-clause-rows_kept
returns-clause-rows_kept c = rows_are_covered_still
