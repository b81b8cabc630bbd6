use Rattle.std.proofs.Common.{take, option_map}
use Rattle.io_traits.proofs.TailRuns.{on_ok_so}
use Rattle.slot_files.proofs.Altering.{altered, altered_settled, settled_now, settled_beside, keeps_same, cut_keeps, cut_leaves}
use Rattle.slot_files.proofs.changes.cut_settled.Goals as goal

pub returns-in_err-cut-clause-any_moment : goal.returns-in_err-cut-clause-any_moment
returns-in_err-cut-clause-any_moment g c =
    let file = g.S.Store.seen c.args.store.now c.args.name.now in
    altered g.S.Store g.met.S.Store.images_tell c.args.name.now _ _ (keeps_same c.args.length file) (cut_keeps c.args.length file) c.args.store.now c.cut.new.self c.cut.ensures.change

pub returns-clause-settled : goal.returns-clause-settled
returns-clause-settled g c =
    let file = g.S.Store.seen c.args.store.now c.args.name.now in
    on_ok_so c.sync.result c.sync.ensures.durable (λ durable.
    settled_now g.S.Store g.met.S.Store.images_tell c.args.name.now _ _ (keeps_same c.args.length file) (cut_keeps c.args.length file) c.args.store.now c.cut.new.self c.cut.ensures.change
    c.sync.new.self c.sync.ensures.settled (option_map (take c.args.length) file) c.in_ok-cut.ensures.cut durable)

pub returns-clause-any_moment : goal.returns-clause-any_moment
returns-clause-any_moment g c =
    let file = g.S.Store.seen c.args.store.now c.args.name.now in
    altered_settled g.S.Store g.met.S.Store.images_tell c.args.name.now _ _ (keeps_same c.args.length file) (cut_keeps c.args.length file) c.args.store.now c.cut.new.self c.cut.ensures.change
    c.sync.new.self c.sync.ensures.settled (λ told. cut_leaves c.args.length file (g.S.Store.seen c.cut.new.self c.args.name.now) (c.in_ok-cut.ensures.cut told))

pub returns-clause-beside : goal.returns-clause-beside
returns-clause-beside g c =
    let file = g.S.Store.seen c.args.store.now c.args.name.now in
    settled_beside g.S.Store g.met.S.Store.images_tell c.args.name.now _ _ (keeps_same c.args.length file) (cut_keeps c.args.length file) c.args.store.now c.cut.new.self c.cut.ensures.change c.sync.new.self c.sync.ensures.settled
