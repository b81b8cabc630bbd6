use Rattle.foreign_parts.specs.Shelves.{stocks}
use Rattle.foreign_parts.proofs.Numbers.{outputs_back}
use Rattle.foreign_parts.proofs.rack.Rack.give_back_output.Goals as goal

pub invariant_of-self : goal.invariant_of-self
invariant_of-self g c = record { own = outputs_back c.args.self.now.given c.args.name.now (stocks (λ p. p.number) c.args.self.now.filters.items) (stocks (λ p. p.number) c.args.self.now.outputs.items) (stocks (λ p. p.number) c.give_back.new.shelves.items) c.args.self.now.own c.args.output.number c.requires.out c.requires.own c.give_back.ensures }
