use Rattle.dead_letters.specs.Opening.{LeavesHeld}
use Rattle.dead_letters.specs.Ready.{held_now}
use Rattle.dead_letter_reader.proofs.Opened.{all_found, if_all, one_damaged, read_behind}
use Rattle.dead_letter_reader.proofs.opening.open_letters.Goals as goal

pub returns-clause-all : goal.returns-clause-all
returns-clause-all g c =
    let q = c.in_ok-queue.queue in
    let e = c.in_ok-queue.ensures in
    let mid = g.S.Store.seen c.open_on.new.store in
    if_all _ c.rows.result (λ rows is told. all_found c.args.folder.now q.folder (g.S.Store.seen c.args.store.now) (held_now q mid) c.rows.result e.names.0 (e.held told) (c.rows.ensures.rows told) rows is)

pub returns-clause-damaged : goal.returns-clause-damaged
returns-clause-damaged g c = λ damage is told.
    let q = c.in_ok-queue.queue in
    let e = c.in_ok-queue.ensures in
    let mid = g.S.Store.seen c.open_on.new.store in
    one_damaged c.args.folder.now q.folder (g.S.Store.seen c.args.store.now) (held_now q mid) c.rows.result e.names.0 (e.held told) (c.rows.ensures.rows told) damage is

pub returns-clause-any_moment : goal.returns-clause-any_moment
returns-clause-any_moment g c =
    read_behind g.S.Store c.args.store.now c.open_on.new.store c.rows.new.store (LeavesHeld g.S.Store c.args.folder.now c.args.store.now) c.open_on.ensures.any_moment c.rows.ensures.same
