use Rattle.std.proofs.Common.{◌≡◌, Ok, rules}
use Rattle.filter_settings.specs.Settings.{Refuses}
use Rattle.event_flow.specs.Parts.{parts_of}
use Rattle.built_plugins.specs.Conditions.{compiled}
use Rattle.built_plugins.specs.Each.{each_made}
use Rattle.plugin_graph.specs.Loads.{conditions_of}
use Rattle.built_plugins.specs.Makes.{filter_of}
use Rattle.plugin_graph.proofs.Tables.{hands_on, filters_refuse, conditions_refuse}
use Rattle.plugin_graph.proofs.loading.load.Goals as goal

pub returns-in_err-read-clause-refused : goal.returns-in_err-read-clause-refused
returns-in_err-read-clause-refused g c =
    let config = c.args.config.now in
    let fault = c.in_err-read.field-0.0 in
    let here : Refuses fault (each_made filter_of (parts_of config.filters).plugins) = search (c.in_err-read.ensures, rules) in
    hands_on c.args.draws.now config c.from_residual-in_err-read.result fault c.from_residual-in_err-read.ensures.1 (filters_refuse c.args.draws.now config fault here)

pub returns-in_err-conditions-clause-refused : goal.returns-in_err-conditions-clause-refused
returns-in_err-conditions-clause-refused g c =
    let config = c.args.config.now in
    let fault = c.in_err-conditions.field-0.0 in
    let made : each_made filter_of (parts_of config.filters).plugins ≡ Ok c.in_ok-read.read = search (c.in_ok-read.ensures, rules) in
    let here : Refuses fault (each_made compiled (conditions_of config)) = search (c.in_err-conditions.ensures, rules) in
    hands_on c.args.draws.now config c.from_residual-in_err-conditions.result fault c.from_residual-in_err-conditions.ensures.1
    (conditions_refuse c.args.draws.now config c.in_ok-read.read fault made here)
