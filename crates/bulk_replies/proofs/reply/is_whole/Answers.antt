use Rattle.bulk_replies.proofs.Meanings.{whole_where}
use Rattle.bulk_replies.proofs.reply.is_whole.Goals as goal

pub returns : goal.returns
returns c = whole_where c.args.reply.now c.in-Some.head c.in-Some.ensures c.split_at.ensures.back c.ends_within.ensures
