use Rattle.line_links.proofs.Delivering.{sent_now}
use Rattle.line_links.proofs.sender.AddressSender.send_once.Goals as goal

pub returns-clause-some : goal.returns-clause-some
returns-clause-some c = sent_now c.args.events.now c.requires _ _ c.send.result c.send.ensures.sends
