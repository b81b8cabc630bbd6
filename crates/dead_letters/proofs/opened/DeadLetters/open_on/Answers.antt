use Rattle.std.proofs.Common.{◌≡◌, IsTrue, Ok, sym, subst}
use Rattle.dead_letters.specs.Found.{found}
use Rattle.dead_letters.specs.Ready.{IsReady, held_now}
use Rattle.dead_letters.specs.Opening.{IsCleared}
use Rattle.dead_letters.specs.Trimming.{opened_queue}
use Rattle.dead_letters.proofs.OpeningRun.{not_begun}
use Rattle.dead_letters.proofs.opened.DeadLetters.open_on.Goals as goal

pub returns-in_err-path-clause-any_moment : goal.returns-in_err-path-clause-any_moment
returns-in_err-path-clause-any_moment g c = not_begun g.S.Store g.met.S.Store.images_tell c.args.folder.now c.args.store.now

pub returns-clause-ready : goal.returns-clause-ready
returns-clause-ready g c =
    let o = c.in_ok-turn.field-0 in
    subst (λ f. IsReady g.S.Store (opened_queue f c.args.limit c.args.policy o.turn o.first o.sizes) c.open_folder.new.store) (sym c.in_ok-path.ensures) (c.in_ok-turn.ensures.opened.ready c.args.limit c.args.policy)

pub returns-clause-held : goal.returns-clause-held
returns-clause-held g c =
    let o = c.in_ok-turn.field-0 in
    subst (λ f. IsTrue g.S.Store.tells → found c.args.folder.now (g.S.Store.seen c.args.store.now) ≡ Ok (held_now (opened_queue f c.args.limit c.args.policy o.turn o.first o.sizes) (g.S.Store.seen c.open_folder.new.store)))
    (sym c.in_ok-path.ensures) (c.in_ok-turn.ensures.opened.held c.args.limit c.args.policy)

pub returns-clause-cleared : goal.returns-clause-cleared
returns-clause-cleared g c =
    let o = c.in_ok-turn.field-0 in
    subst (λ f. IsTrue g.S.Store.tells → IsCleared (opened_queue f c.args.limit c.args.policy o.turn o.first o.sizes) (g.S.Store.seen c.open_folder.new.store)) (sym c.in_ok-path.ensures) (c.in_ok-turn.ensures.opened.cleared c.args.limit c.args.policy)
