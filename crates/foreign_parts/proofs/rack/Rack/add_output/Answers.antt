use Rattle.foreign_parts.specs.Shelves.{stocks}
use Rattle.foreign_parts.proofs.Numbers.{outputs_added, outputs_same}
use Rattle.foreign_parts.proofs.rack.Rack.add_output.Goals as goal

pub invariant_of-self : goal.invariant_of-self
invariant_of-self g c = record { own = outputs_same c.args.self.now.given c.args.name.now (stocks (λ p. p.number) c.args.self.now.filters.items) (stocks (λ p. p.number) c.args.self.now.outputs.items) (stocks (λ p. p.number) c.add.new.shelves.items) c.args.self.now.own c.in_err-add.ensures.err }

pub invariant_of-self-2 : goal.invariant_of-self-2
invariant_of-self-2 g c = record { own = outputs_added c.args.self.now.given c.args.name.now (stocks (λ p. p.number) c.args.self.now.filters.items) (stocks (λ p. p.number) c.args.self.now.outputs.items) (stocks (λ p. p.number) c.add.new.shelves.items) c.args.self.now.own c.in_ok-next.next c.in_ok-next.ensures c.in_ok-add.ensures.ok }
