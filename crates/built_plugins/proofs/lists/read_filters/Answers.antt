use Rattle.std.proofs.Common.{◌+◌, ap, ◌∙◌, drop, arith}
use Rattle.built_plugins.specs.Each.{each_made}
use Rattle.built_plugins.specs.Makes.{filter_of}
use Rattle.built_plugins.proofs.Making.{behind, made_more}
use Rattle.built_plugins.proofs.lists.read_filters.Goals as goal

pub loop-plugin-preserved : goal.loop-plugin-preserved
loop-plugin-preserved c =
    let l = c.loop-plugin in
    ap (λ filters. behind filters (each_made filter_of (drop (l.plugin-index + 1) c.args.plugins.now))) c.in_ok-push.ensures.ok
    ∙ made_more filter_of c.args.plugins.now l.plugin-index l.filters c.plugin-item.result c.in_ok-from_plugin.field-0
    (omega (arith, c.loop-plugin-test.true)) c.plugin-item.is l.invariant c.in_ok-from_plugin.ensures
