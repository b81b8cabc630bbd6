use Rattle.std.proofs.Common.{Result, Ok, Err, OnOk}
use Rattle.line_folder.proofs.Together.{appended_behind, queue_behind}
use Rattle.line_folder.proofs.folder.LineFolder.append_letters.Goals as goal

on_ok : {T E A B : Type 0} (r : Result T E) → (A → B) → OnOk r A → OnOk r B
on_ok (Ok x) makes a = makes a
on_ok (Err e) makes a = tt

pub returns-clause-queue_ready : goal.returns-clause-queue_ready
returns-clause-queue_ready g c =
    queue_behind g.S.Store g.met.S.Store.images_tell c.args.self.now c.args.store.now c.append_letters.new.store c.requires.ready c.append_letters.ensures.beside

pub returns-clause-ready : goal.returns-clause-ready
returns-clause-ready g c =
    let e = c.append_letters.ensures in
    on_ok c.append_letters.result
    (appended_behind g.S.Store g.met.S.Store.images_tell c.args.self.now c.args.store.now c.append_letters.new.store c.requires.ready e.beside c.append_letters.new.self e.files) e.ready
