use Rattle.std.proofs.Common.{sym, subst}
use Rattle.line_outputs.specs.OpenFiles.{IsOutside}
use Rattle.line_core.specs.Parts.{path_of}
use Rattle.line_core.proofs.Delivered.{ready_behind_file}
use Rattle.line_core.proofs.line.Line.deliver_to_file.Goals as goal

pub returns-clause-ready : goal.returns-clause-ready
returns-clause-ready g c =
    let e = c.append.ensures in
    ready_behind_file g.S.Store g.met.S.Store.images_tell c.args.self.now c.args.store.now c.append.new.store c.requires.ready
    c.append.new.self e.queue c.as_str.result.now c.as_slice.result.now
    (subst (IsOutside (path_of c.args.self.now)) (sym c.as_str.ensures) c.requires.outside) e.any_moment e.beside c.in_ok-append.ensures.ready
