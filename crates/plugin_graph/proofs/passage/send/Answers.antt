use Rattle.std.proofs.Common.{◌≡◌, ◌++◌, ◌∷◌, [], rules}
use Rattle.plugin_graph.specs.KitParts.{contents_in}
use Rattle.plugin_graph.specs.Kits.{table_of}
use Rattle.plugin_graph.proofs.Coming.{sent_last}
use Rattle.plugin_graph.proofs.passage.send.Goals as goal

pub returns : goal.returns
returns g c =
    let whole : c.args.targets.now ≡ c.in-Some.others.now ++ c.in-Some.last.now ∷ [] = search rules in
    sent_last (table_of (contents_in c.args.parts.now)) c.args.event c.send_one.result c.in-Some.others.now c.in-Some.last.now c.args.targets.now c.args.to.now c.send_copies.new.to c.send_one.new.to whole c.in_ok-send_copies.ensures c.send_one.ensures
