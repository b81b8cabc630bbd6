use Rattle.std.proofs.Common.{ap}
use Rattle.line_outputs.specs.OpenFiles.{OpenFiles}
use Rattle.line_folder.proofs.Opened.{opened_ready}
use Rattle.line_folder.proofs.opening.open_outputs.Goals as goal

pub returns-in-Ok-clause-ready : goal.returns-in-Ok-clause-ready
returns-in-Ok-clause-ready g c =
    let e = c.in-Ok.ensures in
    opened_ready g.S.Store g.met.S.Store.images_tell c.args.folder.now c.args.queue c.in-Ok.outputs c.args.store.now c.open_on.new.store c.requires.same c.requires.ready e.beside
    (ap (λ (o : OpenFiles). o.folder) e.files) e.ready
