use Rattle.std.proofs.Common.{Result, Ok, Err, OnOk, ap}
use Rattle.dead_letters.specs.Views.{DeadQueue}
use Rattle.line_outputs.proofs.Apart.{appended_ready, files_behind}
use Rattle.line_outputs.proofs.stored.StoredOutputs.append_letters.Goals as goal

-- two facts of an answer that is Ok make a third
both : {T E A B C : Type 0} (r : Result T E) → (A → B → C) → OnOk r A → OnOk r B → OnOk r C
both (Ok x) makes a b = makes a b
both (Err e) makes a b = tt

pub returns-clause-files_ready : goal.returns-clause-files_ready
returns-clause-files_ready g c =
    let e = c.append_letters.ensures in
    files_behind g.S.Store g.met.S.Store.images_tell c.args.self.now.files c.args.self.now.letters c.args.letters.now c.args.store.now c.append_letters.new.store c.requires.ready e.any_moment e.beside

pub returns-clause-ready : goal.returns-clause-ready
returns-clause-ready g c =
    let e = c.append_letters.ensures in
    both c.append_letters.result
    (λ grown appended. appended_ready g.S.Store g.met.S.Store.images_tell c.args.self.now.files c.args.self.now.letters c.args.letters.now c.args.store.now c.append_letters.new.store c.requires.ready e.any_moment e.beside c.append_letters.new.queue
    (ap (λ (q : DeadQueue). q.folder) grown) appended)
    e.grown e.appended
