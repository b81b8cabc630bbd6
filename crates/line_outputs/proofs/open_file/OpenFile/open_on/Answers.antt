use Rattle.std.proofs.Common.{◌≡◌, ◌≢◌, IsTrue, IfOk, take, subst, ◌∙◌}
use Rattle.io_traits.specs.Reads.{bytes_of}
use Rattle.line_outputs.proofs.Opening.{not_begun}
use Rattle.line_outputs.proofs.open_file.OpenFile.open_on.Goals as goal

pub returns-in_err-slot-clause-any_moment : goal.returns-in_err-slot-clause-any_moment
returns-in_err-slot-clause-any_moment g c = λ differ. not_begun g.S.Store g.met.S.Store.images_tell c.args.folder.now c.args.path.now c.args.store.now

pub returns-in_err-own-clause-any_moment : goal.returns-in_err-own-clause-any_moment
returns-in_err-own-clause-any_moment g c = λ differ. not_begun g.S.Store g.met.S.Store.images_tell c.args.folder.now c.args.path.now c.args.store.now

pub returns-clause-content : goal.returns-clause-content
returns-clause-content g c =
    subst (λ n. IfOk c.opened.result (λ out. IsTrue g.S.Store.tells → c.args.path.now ≢ n → bytes_of (g.S.Store.seen c.opened.new.store c.args.path.now) ≡ take out.position (bytes_of (g.S.Store.seen c.args.store.now c.args.path.now)))) (c.as_str.ensures ∙ c.in_ok-slot.ensures)
    (subst (λ m. IfOk c.opened.result (λ out. IsTrue g.S.Store.tells → m ≢ c.as_str.result.now → bytes_of (g.S.Store.seen c.opened.new.store m) ≡ take out.position (bytes_of (g.S.Store.seen c.args.store.now m)))) c.in_ok-own.ensures c.opened.ensures.content)
