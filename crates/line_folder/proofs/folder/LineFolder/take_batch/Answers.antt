use Rattle.std.proofs.Common.{ap}
use Rattle.queue_core.specs.Views.{QueueView}
use Rattle.line_folder.proofs.Together.{folder_behind}
use Rattle.line_folder.proofs.folder.LineFolder.take_batch.Goals as goal

pub returns-clause-ready : goal.returns-clause-ready
returns-clause-ready g c =
    let e = c.take_batch.ensures in
    folder_behind g.S.Store g.met.S.Store.images_tell c.args.self.now c.args.store.now c.take_batch.new.store e.beside_moments e.beside c.take_batch.new.self c.requires.ready
    (ap (λ (q : QueueView). q.folder) e.rest) (e.ready c.requires.ready.queue)
