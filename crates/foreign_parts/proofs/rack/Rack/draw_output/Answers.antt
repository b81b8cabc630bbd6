use Rattle.foreign_parts.specs.Shelves.{stocks}
use Rattle.foreign_parts.proofs.Numbers.{outputs_drawn, outputs_out}
use Rattle.foreign_parts.proofs.rack.Rack.draw_output.Goals as goal

pub invariant_of-self : goal.invariant_of-self
invariant_of-self g c = record { own = outputs_drawn c.args.self.now.given c.args.name.now (stocks (λ p. p.number) c.args.self.now.filters.items) (stocks (λ p. p.number) c.args.self.now.outputs.items) (stocks (λ p. p.number) c.draw.new.shelves.items) c.args.self.now.own (λ p. p.number) c.draw.result c.draw.ensures.last c.draw.ensures.some c.draw.ensures.same }

pub returns-clause-own : goal.returns-clause-own
returns-clause-own g c = outputs_out c.args.self.now.given c.args.name.now (stocks (λ p. p.number) c.args.self.now.filters.items) (stocks (λ p. p.number) c.args.self.now.outputs.items) (stocks (λ p. p.number) c.draw.new.shelves.items) c.args.self.now.own (λ p. p.number) c.draw.result c.draw.ensures.last c.draw.ensures.some
