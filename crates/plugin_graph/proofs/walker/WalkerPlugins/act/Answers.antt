use Rattle.std.proofs.Common.{◌≡◌, rules, slice_get, true, false}
use Rattle.event_tree.specs.Paths.{over}
use Rattle.plugin_graph.specs.KitParts.{contents_in}
use Rattle.plugin_graph.specs.Kits.{MayAt, boxes_of, table_of}
use Rattle.plugin_graph.proofs.Rereading.{alike_still, anew_by_table, is_yes}
use Rattle.plugin_graph.proofs.walker.WalkerPlugins.act.Goals as goal

pub returns-then-is_marked-clause-ok : goal.returns-then-is_marked-clause-ok
returns-then-is_marked-clause-ok g c =
    let w = c.args.self.now in
    let marked : over (λ b. b) false (slice_get w.plain c.args.number) ≡ true = search rules in
    let lent : c.as_slice-then-is_marked.result.now ≡ w.plugins = search rules in
    anew_by_table c.apply_from_text.result (MayAt g.X.FilterCall.may (boxes_of w.parts.filters)) (table_of (contents_in w.parts)) w.plugins c.as_slice-then-is_marked.result.now w.plain c.args.number c.args.event.now c.args.targets.now c.apply_from_text.new.event c.apply_from_text.new.targets c.args.to.now c.apply_from_text.new.to
    lent c.requires (is_yes (slice_get w.plain c.args.number) marked) c.apply_from_text.ensures

pub returns-else-is_marked-clause-stands : goal.returns-else-is_marked-clause-stands
returns-else-is_marked-clause-stands g c =
    let w = c.args.self.now in
    alike_still w.plugins w.plain (table_of (contents_in w.parts)) (table_of (contents_in c.act.new.self)) c.act.ensures.table c.requires
