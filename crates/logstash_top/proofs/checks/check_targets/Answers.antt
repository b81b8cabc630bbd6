use Rattle.std.proofs.Common.{◌≡◌, Ok, subst}
use Rattle.built_plugins.specs.declared.output.Target.{Target}
use Rattle.graph_checks.specs.Answers.{Refuses}
use Rattle.logstash_top.specs.Checks.{place_checked}
use Rattle.logstash_top.proofs.CheckLemmas.{path_fails, path_passes}
use Rattle.logstash_top.proofs.checks.check_targets.Goals as goal

pub returns-in-Err : goal.returns-in-Err
returns-in-Err c =
    path_fails c.args.folder.now c.args.targets.now c.loop-target.target-index c.target-item.result c.in-Err.fault _ c.loop-target-test.true c.target-item.is c.loop-target.invariant
    (subst (λ (t : Target). Refuses c.in-Err.fault (place_checked c.args.folder.now t.place)) c.get.ensures c.in-Err.ensures)

pub loop-target-preserved : goal.loop-target-preserved
loop-target-preserved c =
    path_passes c.args.folder.now c.args.targets.now c.loop-target.target-index c.target-item.result _ c.loop-target-test.true c.target-item.is c.loop-target.invariant
    (subst (λ (t : Target). place_checked c.args.folder.now t.place ≡ Ok tt) c.get.ensures c.in-Ok.ensures)
