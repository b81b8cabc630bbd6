use Rattle.std.proofs.Common.{◌≡◌, ◌+◌, [], ◌∷◌, ◌++◌, subst, sym, arith}
use Rattle.std.proofs.lemmas.Grind.{common_steps}
use Rattle.io_real.specs.Adapters.{no_counts}
use Rattle.io_real.specs.Links.{AllCame}
use Rattle.io_real.proofs.Counted.{came_more}
use Rattle.io_real.proofs.tcp_links.TcpLinks.take.Goals as goal

pub invariant_of-self-2 : goal.invariant_of-self-2
invariant_of-self-2 g c =
    let now : c.push.new.self ≡ c.self.inside.connections ++ (c.self.inside.came, no_counts) ∷ [] = grind (arith, common_steps) in
    subst (AllCame (c.self.inside.came + 1)) (sym now) (came_more c.self.inside.came c.self.inside.connections c.self.invariant)
