use Rattle.std.proofs.Common.{subst}
use Rattle.bulk_replies.specs.Reading.{SaysBehind}
use Rattle.bulk_replies.proofs.Meanings.{is_bad}
use Rattle.bulk_replies.proofs.reply.read_reply.Goals as goal

pub returns-in-None : goal.returns-in-None
returns-in-None c =
    let says = subst (λ bytes. SaysBehind c.args.count c.in-Some.head.framing bytes c.in_ok-said.field-0) c.split_at.ensures.back c.in_ok-said.ensures in
    is_bad c.args.reply.now c.in-Some.head c.in-Some.ensures c.args.count c.if-head-ne200.false (subst (SaysBehind c.args.count c.in-Some.head.framing _) c.in-None.is says)
