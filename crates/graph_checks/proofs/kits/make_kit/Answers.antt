use Rattle.std.proofs.Common.{subst}
use Rattle.filter_settings.specs.Settings.{Refuses}
use Rattle.plugin_graph.specs.Loads.{loaded}
use Rattle.graph_checks.proofs.Loadings.{never_refused}
use Rattle.graph_checks.proofs.kits.make_kit.Goals as goal

pub unreachable-requires : goal.unreachable-requires
unreachable-requires g c =
    let said = loaded c.args.draws.now c.args.config.now in
    never_refused c.args.draws.now c.args.config.now c.requires c.in-Err-Bad.field-0-0 (subst (λ f. Refuses f said) c.in-Err-Bad.field-0-is c.in-Err-Bad.ensures.refused)
