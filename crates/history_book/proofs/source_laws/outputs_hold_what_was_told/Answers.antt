use Rattle.history_book.proofs.Running.{stdout_holds, boxes_hold}
use Rattle.history_book.proofs.source_laws.outputs_hold_what_was_told.Goals as goal

pub returns-clause-stdout : goal.returns-clause-stdout
returns-clause-stdout c = stdout_holds

pub returns-clause-boxes : goal.returns-clause-boxes
returns-clause-boxes c = boxes_hold
