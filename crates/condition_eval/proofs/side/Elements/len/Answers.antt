use Rattle.std.proofs.Common.{sym, rules}
use Rattle.std.proofs.lemmas.List.{length-map}
use Rattle.condition_eval.specs.Values.{literal_value}
use Rattle.condition_eval.proofs.side.Elements.len.Goals as goal

pub returns-in-Literals : goal.returns-in-Literals
returns-in-Literals c = search (rules, sym (length-map c.in-Literals.literals.now literal_value))
