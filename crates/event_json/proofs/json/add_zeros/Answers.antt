use Rattle.std.proofs.Common.{subst, OnOk}
use Rattle.event_tree.specs.Adds.{Adds}
use Rattle.event_json.proofs.Numbers.{take-zeros}
use Rattle.event_json.proofs.json.add_zeros.Goals as goal

pub returns-clause-ok : goal.returns-clause-ok
returns-clause-ok c = subst (λ l. OnOk c.add.result (Adds l c.args.to.now.items c.add.new.to.items)) (take-zeros c.args.count 18 c.requires) c.add.ensures.ok
