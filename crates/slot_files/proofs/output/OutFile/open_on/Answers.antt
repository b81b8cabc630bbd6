use Rattle.std.proofs.Common.{◌≡◌, ◌≢◌, IsTrue, IfOk, take, subst}
use Rattle.io_traits.specs.Reads.{bytes_of}
use Rattle.slot_files.proofs.OpeningRun.{not_begun}
use Rattle.slot_files.proofs.output.OutFile.open_on.Goals as goal

pub returns-in_err-path-clause-any_moment : goal.returns-in_err-path-clause-any_moment
returns-in_err-path-clause-any_moment g c = λ differ. not_begun g.S.Store g.met.S.Store.images_tell c.args.path.now c.args.slot.now c.args.store.now c.args.store.now

pub returns-in_err-slot-clause-any_moment : goal.returns-in_err-slot-clause-any_moment
returns-in_err-slot-clause-any_moment g c = λ differ. not_begun g.S.Store g.met.S.Store.images_tell c.args.path.now c.args.slot.now c.args.store.now c.args.store.now

pub returns-clause-content : goal.returns-clause-content
returns-clause-content g c =
    subst (λ n. IfOk c.opened.result (λ out. IsTrue g.S.Store.tells → n ≢ c.args.slot.now → bytes_of (g.S.Store.seen c.opened.new.store n) ≡ take out.position (bytes_of (g.S.Store.seen c.args.store.now n)))) c.in_ok-path.ensures
    (subst (λ m. IfOk c.opened.result (λ out. IsTrue g.S.Store.tells → c.in_ok-path.path ≢ m → bytes_of (g.S.Store.seen c.opened.new.store c.in_ok-path.path) ≡ take out.position (bytes_of (g.S.Store.seen c.args.store.now c.in_ok-path.path))))
    c.in_ok-slot.ensures c.opened.ensures.content)
