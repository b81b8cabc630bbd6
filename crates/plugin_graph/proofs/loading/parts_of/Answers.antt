use Rattle.std.proofs.Common.{subst, sym}
use Rattle.plugin_graph.specs.Kits.{HaveOwnTargets}
use Rattle.built_plugins.specs.declared.output.Outputs.{Outputs}
use Rattle.plugin_graph.proofs.Tables.{own_of}
use Rattle.plugin_graph.proofs.loading.parts_of.Goals as goal

pub invariant_of-result : goal.invariant_of-result
invariant_of-result g c = record { own = subst (λ (os : Outputs). HaveOwnTargets os.targets os.outputs) (sym c.in_ok-outputs.ensures) (own_of c.args.draws.now c.as_slice.result.now) }
