use Rattle.std.proofs.Common.{ap}
use Rattle.io_traits.proofs.Looking.{nothing_then}
use Rattle.queue_page.specs.Views.{PageView}
use Rattle.queue_page.proofs.Leftovers.{scanned, looked}
use Rattle.queue_page.proofs.page.Page.scan.Goals as goal

pub returns-then-not-head-clause-any_moment : goal.returns-then-not-head-clause-any_moment
returns-then-not-head-clause-any_moment g c = λ file rests.
    looked g.S.Store g.met.S.Store.images_tell c.args.name.now c.args.head c.args.state.now file c.args.store.now c.scan_file.new.store
    (nothing_then g.S.Store c.args.store.now c.length.new.self c.scan_file.new.store c.length.ensures.same c.scan_file.ensures.same) rests

pub returns-in_err-cut_rest-clause-any_moment : goal.returns-in_err-cut_rest-clause-any_moment
returns-in_err-cut_rest-clause-any_moment g c = λ file rests.
    scanned g.S.Store g.met.S.Store.images_tell c.args.name.now c.args.head c.args.state.now file c.in_ok-page.page c.args.store.now c.length.new.self c.scan_file.new.store c.cut_rest.new.store _ g.met.S.Store.seen_is_image rests
    (nothing_then g.S.Store c.args.store.now c.length.new.self c.scan_file.new.store c.length.ensures.same c.scan_file.ensures.same) c.length.ensures.same.reads c.in_ok-length.field-0 c.unwrap_or-len.result _ c.in_ok-length.ensures.length c.unwrap_or-len.ensures
    c.in_ok-page.ensures.page (ap (λ (p : PageView). p.state.length) c.page.view_is, c.in_ok-page.ensures.within) c.cut_rest.ensures.beside c.cut_rest.ensures.any_moment

pub returns-clause-any_moment : goal.returns-clause-any_moment
returns-clause-any_moment g c = λ file rests.
    scanned g.S.Store g.met.S.Store.images_tell c.args.name.now c.args.head c.args.state.now file c.in_ok-page.page c.args.store.now c.length.new.self c.scan_file.new.store c.cut_rest.new.store _ g.met.S.Store.seen_is_image rests
    (nothing_then g.S.Store c.args.store.now c.length.new.self c.scan_file.new.store c.length.ensures.same c.scan_file.ensures.same) c.length.ensures.same.reads c.in_ok-length.field-0 c.unwrap_or-len.result _ c.in_ok-length.ensures.length c.unwrap_or-len.ensures
    c.in_ok-page.ensures.page (ap (λ (p : PageView). p.state.length) c.page.view_is, c.in_ok-page.ensures.within) c.cut_rest.ensures.beside c.cut_rest.ensures.any_moment
