use Rattle.std.proofs.Common.{◌≡◌, rules}
use Rattle.graph_checks.specs.Inputs.{input_id_next}
use Rattle.graph_checks.proofs.Telling.{input_refused}
use Rattle.graph_checks.proofs.inputs.SeenInputs.check_input.Goals as goal

pub returns-in-Err : goal.returns-in-Err
returns-in-Err c =
    let id : c.in_ok-id.id ≡ input_id_next c.args.self.now c.args.plugin.now = search rules in
    input_refused c.args.plugin.now c.args.self.now c.in_ok-id.id c.as_str.result.now c.in-Err.fault c.setting_fault.result id c.as_str.ensures c.in-Err.ensures c.setting_fault.ensures
