use Rattle.bulk_replies.proofs.Spots.{opens_object, opens_array, seen}
use Rattle.bulk_replies.proofs.compact.begin.Goals as goal

pub returns-in-123 : goal.returns-in-123
returns-in-123 c = opens_object c.args.text.now c.args.at c.requires (seen c.args.at c.as_bytes.ensures.value c.in-123.is)

pub returns-in-91 : goal.returns-in-91
returns-in-91 c = opens_array c.args.text.now c.args.at c.requires (seen c.args.at c.as_bytes.ensures.value c.in-91.is)
