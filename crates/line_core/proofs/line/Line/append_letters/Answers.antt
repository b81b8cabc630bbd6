use Rattle.line_core.proofs.Delivered.{ready_behind_letters}
use Rattle.line_core.proofs.line.Line.append_letters.Goals as goal

pub returns-in-Ok-clause-ready : goal.returns-in-Ok-clause-ready
returns-in-Ok-clause-ready g c =
    let e = c.append_letters.ensures in
    ready_behind_letters g.S.Store g.met.S.Store.images_tell c.args.self.now c.args.store.now c.append_letters.new.store c.requires.ready
    c.append_letters.new.self e.queue c.as_slice-2.result.now
    e.any_moment e.beside c.in-Ok.ensures.ready
