use Rattle.std.proofs.Common.{sym, subst}
use Rattle.out_bulk.specs.Deliveries.{Standing}
use Rattle.out_bulk.specs.Steps.{WasAnswered}
use Rattle.out_bulk.proofs.Keeping.{settled_kept}
use Rattle.out_bulk.proofs.bulk.Bulk.settle.Goals as goal

pub invariant_of-self-in-None : goal.invariant_of-self-in-None
invariant_of-self-in-None g c =
    let answered = subst (λ (s : Standing _). WasAnswered g.Q.Peer.asked c.args.events.now s c.args.said.now) (sym c.self.view_is) c.requires in
    settled_kept g.Q.Peer.asked c.args.events.now _ c.args.said.now answered _ _ _ c.in_ok-self-inside-in-None.ensures c.as_slice.ensures c.in_ok-settled.ensures
