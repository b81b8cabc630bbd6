use Rattle.in_lines.proofs.PlainObjects.{each_made}
use Rattle.in_lines.proofs.plain.plain_event.Goals as goal

pub returns : goal.returns
returns c = each_made c.event_of_fields.result (record { line = c.args.line.now; moment = c.args.moment }) c.args.members c.complete.new.members c.args.plain.time
    c.members-members.ensures.rises c.requires c.in_ok-complete.ensures c.event_of_fields.ensures
