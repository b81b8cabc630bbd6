use Rattle.std.proofs.Common.{List, ap, sym, subst}
use Rattle.line_folder.specs.Readiness.{IsFolderReady}
use Rattle.line_folder.specs.declared.folder.LineFolder.{LineFolder}
use Rattle.line_core.specs.Readiness.{HaveCome}
use Rattle.line_core.specs.declared.line.LineInput.{LineInput}
use Rattle.line_tests.proofs.Steps.{ok_always, still_ready}
use Rattle.line_tests.proofs.serving.take.Goals as goal

pub collect-requires-clause-result : goal.collect-requires-clause-result
collect-requires-clause-result g c =
    (c.results_come_home.ensures c.args.line.now (g.W.Shop.out c.args.shop.now) (g.W.Shop.out c.take.new.self) c.in-Some.done c.requires.out c.in-Some.ensures.home).0

pub returns-in-Some : goal.returns-in-Some
returns-in-Some g c =
    let e = c.collect.ensures in
    let others = (c.results_come_home.ensures c.args.line.now (g.W.Shop.out c.args.shop.now) (g.W.Shop.out c.take.new.self) c.in-Some.done c.requires.out c.in-Some.ensures.home).1 in
    ok_always c.collect.result (record {
      ready = still_ready g.S.Store c.args.line.now c.collect.new.self c.args.store.now
          (subst (λ (f : LineFolder). IsFolderReady g.S.Store f c.args.store.now) (sym e.folder) c.requires.ready.folder)
          (ap (λ (f : LineFolder). f.queue.folder) e.folder) e.inputs c.requires.ready;
      can = e.can;
      came = subst (λ (i : List LineInput). HaveCome g.L.Links i c.args.links.now) (sym e.inputs) c.requires.came;
      out = e.out (g.W.Shop.out c.take.new.self) others;
    })
