use Rattle.line_outputs.proofs.Apart.{delivered_ready}
use Rattle.line_outputs.proofs.stored.StoredOutputs.append.Goals as goal

pub returns-clause-ready : goal.returns-clause-ready
returns-clause-ready g c =
    let e = c.append.ensures in
    delivered_ready g.S.Store g.met.S.Store.images_tell c.args.self.now.files c.append.new.self c.args.self.now.letters c.args.path.now c.args.bytes.now c.args.store.now c.append.new.store c.requires.ready c.requires.outside e.folder e.ready e.any_moment e.beside
