use Rattle.line_tests.specs.Served.{IsServed}
use Rattle.line_tests.proofs.serving.serve.Given as goal

abbrev pub invariant-loop : goal.invariant-loop
invariant-loop g l = IsServed g.S.Store g.L.Links g.O.OutputCall.number l.line l.store l.around.links (g.W.Shop.out l.shop)
