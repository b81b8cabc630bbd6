use Rattle.plugin_graph.specs.KitParts.{contents_in}
use Rattle.plugin_graph.specs.Kits.{table_of}
use Rattle.plugin_graph.proofs.Coming.{gone_added, died_added}
use Rattle.plugin_graph.proofs.passage.Passage.add_outcome.Goals as goal

pub returns-in-Consumed : goal.returns-in-Consumed
returns-in-Consumed g c =
    gone_added (table_of (contents_in c.args.parts.now)) c.send.result c.args.self.now c.args.outcome c.in-Consumed.event c.taken.result c.in-Consumed.targets c.as_slice.result.now c.send.new.to
    c.in-Consumed.is c.taken.ensures c.as_slice.ensures c.send.ensures

pub returns-in-Dead : goal.returns-in-Dead
returns-in-Dead g c =
    died_added (table_of (contents_in c.args.parts.now)) c.push.result c.args.self.now c.args.outcome c.in-Dead.number c.in-Dead.reason c.in-Dead.event c.taken-in-Dead.result c.in-Dead.targets c.as_slice-in-Dead.result.now
    c.send_copies.new.to c.push.new.self c.in_ok-letter-in-Dead.field-0
    c.in-Dead.is c.taken-in-Dead.ensures c.as_slice-in-Dead.ensures c.in_ok-send_copies-in-Dead.ensures c.in_ok-letter-in-Dead.ensures c.push.ensures.ok
