use Rattle.std.proofs.Common.{◌≡◌}
use Rattle.logstash_top.specs.Serving.{CountsStand, Serves}
use Rattle.logstash_top.proofs.serve.serve.Given as goal

abbrev pub invariant-loop : goal.invariant-loop
invariant-loop g l = record {
  can : (goal.iterator-loop g).can_next l.iterator';
  ends : (goal.iterator-loop g).is_finite l.iterator';
  serves : Serves g.S.Store g.L.Links g.X.OutputCall.number l.line (g.W.Shop.out l.shop) l.world;
  stderr : l.world.stderr ≡ l.fn.world.stderr;
  counts : CountsStand g.P.Files g.I.Source g.L.Links g.O.Sink g.X.OutputCall.faults l.fn.world l.world;
  same : g.S.Store.faults l.world.store ≡ g.S.Store.faults l.fn.world.store;
}
