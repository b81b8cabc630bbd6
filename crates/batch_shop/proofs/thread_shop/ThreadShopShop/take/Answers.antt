use Rattle.std.proofs.Common.{rules, arith, ◌≡◌, ◌<◌, inl, inr, ⊎_elim, flat_map, length, set, get_or, sym, ap, subst, ◌∙◌}
use Rattle.std.proofs.lemmas.List.{length-set}
use Rattle.batch_shop.specs.Jobs.{IsAdded}
use Rattle.batch_shop.specs.Desks.{job_out, looks}
use Rattle.batch_shop.proofs.Rows.{emptied, unchanged, front_set}
use Rattle.batch_shop.proofs.Looks.{looks_set}
use Rattle.batch_shop.proofs.thread_shop.ThreadShopShop.take.Goals as goal

pub returns-in-Some-clause-home : goal.returns-in-Some-clause-home
returns-in-Some-clause-home g c =
    let there : c.index_mut.result.now ≡ get_or c.loop-at.self.desks.items c.loop-at.at c.index_mut.result.now = search rules in
    let home = c.in-Some.ensures.0 in
    record {
      job = home.job;
      result = home.result;
      leaves = subst (λ l. IsAdded home.job (flat_map job_out (set c.loop-at.self.desks.items c.loop-at.at c.take.new.self)) l) c.loop-at.invariant.0
          (emptied job_out c.loop-at.self.desks.items c.loop-at.at c.index_mut.result.now c.take.new.self home.job (search rules) (ap job_out (sym there) ∙ home.job_is) home.none_out);
    }

pub loop-at-preserved : goal.loop-at-preserved
loop-at-preserved g c =
    let ds = c.loop-at.self.desks.items in
    let at = c.loop-at.at in
    let d = c.index_mut.result.now in
    let y = c.take.new.self in
    let there : c.index_mut.result.now ≡ get_or c.loop-at.self.desks.items c.loop-at.at c.index_mut.result.now = search rules in
    let below : c.loop-at.at < length c.loop-at.self.desks.items = search rules in
    let sum = looks_set ds at d y below in (
      unchanged job_out ds at d y (c.in-None.ensures.0 ∙ ap job_out there) below ∙ c.loop-at.invariant.0,
      length-set ds at y ∙ c.loop-at.invariant.1,
      ⊎_elim (λ h. omega (arith, sum, c.loop-at.invariant.2, h.1, ap looks there)) (λ h. omega (arith, sum, c.loop-at.invariant.2, h, ap looks there)) c.in-None.ensures.1,
      ⊎_elim
          (λ h. ⊎_elim
          (λ f. inl (front_set job_out ds at y below (c.in-None.ensures.0 ∙ h.0) f))
          (λ f. inr (omega (arith, sum, f, h.1, ap looks there)))
          c.loop-at.invariant.3)
          (λ h. inr (omega (arith, sum, c.loop-at.invariant.2, h, ap looks there)))
          c.in-None.ensures.1,
    )
