use Rattle.std.proofs.Common.{ap}
use Rattle.queue_core.specs.Views.{QueueView}
use Rattle.line_core.proofs.InputsTogether.{behind_queue}
use Rattle.line_core.proofs.line.Line.purge.Goals as goal

pub returns-clause-ready : goal.returns-clause-ready
returns-clause-ready g c =
    let e = c.purge.ensures in
    let ok = c.in_ok-removed.ensures in
    record {
      folder = ok.ready;
      inputs = behind_queue g.S.Store g.met.S.Store.images_tell c.args.self.now.folder c.purge.new.self c.args.self.now.inputs.items c.args.store.now c.purge.new.store
          (ap (λ (q : QueueView). q.folder) ok.purged) e.beside_moments e.beside c.requires.ready.inputs;
    }
