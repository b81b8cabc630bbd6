use Rattle.bulk_replies.proofs.FieldRuns.{several}
use Rattle.bulk_replies.proofs.fields.FieldMatch.and.Goals as goal

pub returns-in-One : goal.returns-in-One
returns-in-One c reply values finds within = several reply values _ c.args.self c.in-One.is finds
