use Rattle.std.proofs.Common.{ap, ◌∙◌}
use Rattle.queue_core.specs.Views.{QueueView}
use Rattle.queue_core.specs.Writing.{frame_size}
use Rattle.line_folder.proofs.Together.{both_give, folder_behind, outputs_behind, written_folder}
use Rattle.line_folder.proofs.folder.LineFolder.write_and_keep.Goals as goal

pub returns-clause-outputs_ready : goal.returns-clause-outputs_ready
returns-clause-outputs_ready g c = let e = c.write_and_keep.ensures in outputs_behind g.S.Store g.met.S.Store.images_tell c.args.self.now c.args.store.now c.write_and_keep.new.store e.beside_moments e.beside c.requires.ready

pub returns-clause-ready : goal.returns-clause-ready
returns-clause-ready g c =
    let e = c.write_and_keep.ensures in
    both_give c.write_and_keep.result (λ same ready. folder_behind g.S.Store g.met.S.Store.images_tell c.args.self.now c.args.store.now c.write_and_keep.new.store e.beside_moments e.beside c.write_and_keep.new.self c.requires.ready (ap (λ (q : QueueView). q.folder) same ∙ written_folder (frame_size c.args.origin.now c.args.event) c.args.self.now.queue) ready) e.written e.ready
