use Rattle.std.proofs.Common.{rules, arith, ◌≡◌, ◌++◌, [], ◌∷◌, length, length-append, flat_map, subst, ap}
use Rattle.batch_shop.specs.Desks.{job_out}
use Rattle.batch_shop.proofs.Adding.{Homes, one_home, one_more}
use Rattle.batch_shop.proofs.thread_shop.ThreadShop.close.Goals as goal

pub loop-desk-preserved : goal.loop-desk-preserved
loop-desk-preserved g c =
    let last : c.loop-desk.desks.items ≡ c.pop.new.self.items ++ c.in-Some.desk ∷ [] = search rules in
    let fits = one_more g.T.Task.gives (job_out c.in-Some.desk) c.loop-desk.dones.items c.settle.new.dones.items c.settle.ensures.adds in (
      omega (arith, c.loop-desk.invariant.0, ap length last, length-append c.pop.new.self.items (c.in-Some.desk ∷ []), fits, c.settle.ensures.capacity),
      one_home _ _ _ c.in-Some.desk _ _ (subst (λ ds. Homes g.T.Task.gives (flat_map job_out c.args.self.desks.items) ds c.loop-desk.dones.items) last c.loop-desk.invariant.1) c.settle.ensures.adds,
    )
