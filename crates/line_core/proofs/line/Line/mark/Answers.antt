use Rattle.std.proofs.Common.{ap}
use Rattle.queue_core.specs.Views.{QueueView}
use Rattle.line_core.proofs.InputsTogether.{behind_queue, same_files}
use Rattle.line_core.proofs.line.Line.mark.Goals as goal

pub returns-clause-ready : goal.returns-clause-ready
returns-clause-ready g c =
    let e = c.mark.ensures in
    let ok = c.in_ok-front.ensures in
    record {
      folder = ok.ready;
      inputs = same_files g.S.Store c.mark.new.self.queue.folder c.args.self.now.inputs.items c.settle_all.new.inputs.items c.mark.new.store c.settle_all.ensures.files
          (behind_queue g.S.Store g.met.S.Store.images_tell c.args.self.now.folder c.mark.new.self c.args.self.now.inputs.items c.args.store.now c.mark.new.store
          (ap (λ (q : QueueView). q.folder) ok.marked) e.beside_moments e.beside c.requires.ready.inputs);
    }
