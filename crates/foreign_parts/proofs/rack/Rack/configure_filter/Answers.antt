use Rattle.foreign_parts.specs.Shelves.{stocks}
use Rattle.foreign_parts.proofs.Numbers.{filters_same}
use Rattle.foreign_parts.proofs.rack.Rack.configure_filter.Goals as goal

pub invariant_of-self : goal.invariant_of-self
invariant_of-self g c = record { own = filters_same c.args.self.now.given c.args.name.now (stocks (λ p. p.number) c.args.self.now.filters.items) (stocks (λ p. p.number) c.args.self.now.outputs.items) (stocks (λ p. p.number) c.configure.new.shelves.items) c.args.self.now.own c.configure.ensures.stocks }
