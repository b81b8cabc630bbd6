use Rattle.std.proofs.Common.{◌≡◌, rules}
use Rattle.graph_checks.specs.Plugins.{condition_id_next}
use Rattle.graph_checks.proofs.Telling.{condition_refused}
use Rattle.graph_checks.proofs.walk.Walk.check_condition.Goals as goal

pub returns-in_ok-id-in-Err : goal.returns-in_ok-id-in-Err
returns-in_ok-id-in-Err c =
    let id : c.in_ok-id-in-Err.id ≡ condition_id_next c.args.kind c.args.self.now = search rules in
    condition_refused c.args.kind c.args.condition.now c.in-Some.condition c.args.self.now c.in_ok-id-in-Err.id c.in-Err.fault c.setting_fault.result c.in-Some.is id c.in-Err.ensures c.setting_fault.ensures
