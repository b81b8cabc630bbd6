use Rattle.std.proofs.Common.{rules, ◌≡◌, Some, None, subst}
use Rattle.event_tree.specs.NumberTexts.{NumberReads}
use Rattle.config_tree.specs.declared.tree.SettingValue.TheVariants as v
use Rattle.config_tree.specs.Readers.{value_at}
use Rattle.config_tree.proofs.Reading.{number_refused}
use Rattle.config_tree.proofs.tree.Settings.number.Goals as goal

pub returns-in-None-read : goal.returns-in-None-read
returns-in-None-read c =
    let s = c.as_str.result.now in
    let is : value_at c.args.name.now c.args.self.now.list ≡ Some (v.Text s) = search rules in
    let reads : NumberReads None s = subst (λ r. NumberReads r s) c.in-None-read.is c.read.ensures in
    number_refused c.args.name.now s (value_at c.args.name.now c.args.self.now.list) c.wrong_kind.result is reads c.wrong_kind.ensures
