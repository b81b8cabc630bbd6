use Rattle.std.proofs.Common.{rules, arith, ◌≡◌, get_or}
use Rattle.std.proofs.lemmas.List.{length-set}
use Rattle.batch_shop.specs.Desks.{job_out, looks}
use Rattle.batch_shop.proofs.Rows.{filled, fewer}
use Rattle.batch_shop.proofs.Looks.{looks_set, one_each}
use Rattle.batch_shop.proofs.thread_shop.ThreadShopShop.give.Goals as goal

pub returns-in-Some-clause-given : goal.returns-in-Some-clause-given
returns-in-Some-clause-given g c = filled job_out c.args.self.now.desks.items c.in-Some.at c.index_mut.result.now c.give.new.self c.args.job (search rules) (search rules) (search rules)

pub returns-in-Some-clause-full : goal.returns-in-Some-clause-full
returns-in-Some-clause-full g c = (
  (λ e. absurd (search (e, rules))),
  λ h. absurd (omega (arith, h, fewer job_out one_each c.args.self.now.desks.items c.in-Some.at c.index_mut.result.now (search rules) (search rules))),
)

pub returns-in-Some-clause-same : goal.returns-in-Some-clause-same
returns-in-Some-clause-same g c =
    let same : looks c.give.new.self ≡ looks (get_or c.args.self.now.desks.items c.in-Some.at c.index_mut.result.now) = search rules in (
      length-set c.args.self.now.desks.items c.in-Some.at c.give.new.self,
      omega (arith, looks_set c.args.self.now.desks.items c.in-Some.at c.index_mut.result.now c.give.new.self (search rules), same),
    )
