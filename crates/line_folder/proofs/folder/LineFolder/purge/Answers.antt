use Rattle.std.proofs.Common.{ap}
use Rattle.queue_core.specs.Views.{QueueView}
use Rattle.line_folder.proofs.Together.{both_give, folder_behind, outputs_behind}
use Rattle.line_folder.proofs.folder.LineFolder.purge.Goals as goal

pub returns-clause-outputs_ready : goal.returns-clause-outputs_ready
returns-clause-outputs_ready g c = let e = c.purge.ensures in outputs_behind g.S.Store g.met.S.Store.images_tell c.args.self.now c.args.store.now c.purge.new.store e.beside_moments e.beside c.requires

pub returns-clause-ready : goal.returns-clause-ready
returns-clause-ready g c =
    let e = c.purge.ensures in
    both_give c.purge.result (λ same ready. folder_behind g.S.Store g.met.S.Store.images_tell c.args.self.now c.args.store.now c.purge.new.store e.beside_moments e.beside c.purge.new.self c.requires (ap (λ (q : QueueView). q.folder) same) ready) e.purged e.ready
