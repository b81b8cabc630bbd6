use Rattle.std.proofs.Common.{ap}
use Rattle.queue_core.specs.Views.{QueueView}
use Rattle.line_core.proofs.InputsTogether.{behind_queue}
use Rattle.line_core.proofs.line.Line.next_rows.Goals as goal

pub returns-in_err-batch-clause-ready : goal.returns-in_err-batch-clause-ready
returns-in_err-batch-clause-ready g c =
    let e = c.take_batch.ensures in
    record {
      folder = e.ready;
      inputs = behind_queue g.S.Store g.met.S.Store.images_tell c.args.self.now.folder c.take_batch.new.self c.args.self.now.inputs.items c.args.store.now c.take_batch.new.store
          (ap (λ (q : QueueView). q.folder) e.rest) e.beside_moments e.beside c.requires.ready.inputs;
    }

pub returns-clause-ready : goal.returns-clause-ready
returns-clause-ready g c =
    let e = c.take_batch.ensures in
    record {
      folder = e.ready;
      inputs = behind_queue g.S.Store g.met.S.Store.images_tell c.args.self.now.folder c.take_batch.new.self c.args.self.now.inputs.items c.args.store.now c.take_batch.new.store
          (ap (λ (q : QueueView). q.folder) e.rest) e.beside_moments e.beside c.requires.ready.inputs;
    }
