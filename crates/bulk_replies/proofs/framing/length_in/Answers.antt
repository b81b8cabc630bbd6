use Rattle.bulk_replies.proofs.FieldRuns.{no_number}
use Rattle.bulk_replies.proofs.framing.length_in.Goals as goal

pub returns-in-Err : goal.returns-in-Err
returns-in-Err c = no_number c.args.value.now _ _ c.in-Err.ensures.cases.0
