use Rattle.line_folder.proofs.Together.{delivered_behind}
use Rattle.line_folder.proofs.folder.LineFolder.append.Goals as goal

pub returns-clause-ready : goal.returns-clause-ready
returns-clause-ready g c =
    let e = c.append.ensures in
    delivered_behind g.S.Store g.met.S.Store.images_tell c.args.self.now c.append.new.self c.args.path.now c.args.store.now c.append.new.store c.requires.ready c.requires.outside e.letters e.ready e.beside
