use Rattle.history_book.proofs.Giving.{told_were_done, runs_give_to_stdout, runs_give_to_boxes}
use Rattle.history_book.proofs.laws.runs_give_what_was_told.Goals as goal

pub returns-clause-told : goal.returns-clause-told
returns-clause-told c = told_were_done

pub returns-clause-printed : goal.returns-clause-printed
returns-clause-printed c = runs_give_to_stdout

pub returns-clause-given : goal.returns-clause-given
returns-clause-given c = runs_give_to_boxes
