use Rattle.std.proofs.Common.{List, ap, sym, subst}
use Rattle.line_folder.specs.Readiness.{IsFolderReady}
use Rattle.line_folder.specs.declared.folder.LineFolder.{LineFolder}
use Rattle.line_core.specs.Batches.{batch_place}
use Rattle.line_core.specs.Parts.{batches_of, folder_of}
use Rattle.line_core.specs.Readiness.{HaveCome}
use Rattle.line_core.specs.declared.line.LineInput.{LineInput}
use Rattle.line_tests.proofs.Steps.{element_at, still_ready}
use Rattle.line_tests.proofs.serving.acknowledge.Goals as goal

pub returns : goal.returns
returns g c =
    let old = c.args.line.now in
    let e = c.acknowledge.ensures in
    let served = c.requires.served in
    let of = element_at (batches_of old) (batch_place c.args.batch (batches_of old)) c.requires.there in
    let folder = e.folder of.0 of.1 in
    record {
      ready = still_ready g.S.Store old c.acknowledge.new.self c.args.store.now
          (subst (λ (f : LineFolder). IsFolderReady g.S.Store f c.args.store.now) (sym folder)
          (c.acknowledged_rows_leave_the_folder_ready.ensures (folder_of old) of.0.numbers c.args.store.now served.ready.folder))
          (ap (λ (f : LineFolder). f.queue.folder) folder) e.inputs served.ready;
      can = e.can served.can;
      came = subst (λ (i : List LineInput). HaveCome g.L.Links i c.args.links.now) (sym e.inputs) served.came;
      out = e.same.jobs (g.W.Shop.out c.args.shop.now) served.out;
    }
