use Rattle.std.proofs.Common.{ap, ◌∙◌}
use Rattle.std.proofs.Math.Seq.{map-set_same}
use Rattle.foreign_parts.proofs.named_boxes.NamedBoxes.configure.Goals as goal

pub returns-clause-refusals : goal.returns-clause-refusals
returns-clause-refusals g c = ap (λ rs. (c.args.self.now.name, rs)) (map-set_same g.T.Plugged.refusal c.args.self.now.left.items c.args.at c.configure.new.self c.index_mut.result.now (c.configure.ensures.refusal ∙ ap g.T.Plugged.refusal c.index_mut.ensures.value))

pub returns-clause-stock : goal.returns-clause-stock
returns-clause-stock g c = ap (λ left. record { name = c.args.self.now.name; left = left; out = c.args.self.now.out }) (map-set_same g.T.Plugged.number c.args.self.now.left.items c.args.at c.configure.new.self c.index_mut.result.now (c.configure.ensures.number ∙ ap g.T.Plugged.number c.index_mut.ensures.value))
