use Rattle.std.proofs.Common.{rules, ◌<◌, ◌^◌, nat_lt, ◌∙◌}
use Rattle.std.proofs.lemmas.Fn.{filter_same}
use Rattle.queue_files.specs.Folders.{names_in}
use Rattle.queue_files.specs.Marks.{read_in}
use Rattle.queue_files.proofs.Openings.{hands_on}
use Rattle.queue_files.proofs.Seeings.{sees_all, sees_lost, sees_rows}
use Rattle.queue_files.proofs.inspection.read_listed.Goals as goal

pub returns-in_err-pages-clause-found : goal.returns-in_err-pages-clause-found
returns-in_err-pages-clause-found g c told listed tells =
    let names = names_in c.args.folder.now in
    let f = read_in names (g.S.Store.seen c.args.store.now) in
    let fits : c.args.state.page < 2 ^ 32 = search rules in
    let numbers = c.as_slice.ensures.value ∙ filter_same _ (λ n. nat_lt n c.args.state.page) _ (λ x b f' k. search rules) _ _ c.retain.ensures.filtered in
    let lost = c.in_err-pages.field-0.0 in
    hands_on names f c.from_residual.result lost c.from_residual.ensures.1 (sees_lost f c.args.listing c.args.state listed tells fits c.as_slice.result.now numbers names lost (c.in_err-pages.ensures.found told))

pub returns-clause-found : goal.returns-clause-found
returns-clause-found g c told listed tells =
    let f = read_in (names_in c.args.folder.now) (g.S.Store.seen c.args.store.now) in
    let fits : c.args.state.page < 2 ^ 32 = search rules in
    let numbers = c.as_slice.ensures.value ∙ filter_same _ (λ n. nat_lt n c.args.state.page) _ (λ x b f' k. search rules) _ _ c.retain.ensures.filtered in
    sees_rows f c.args.listing c.args.state listed tells fits c.as_slice.result.now numbers c.args.turn c.in_ok-pages.pages (c.in_ok-pages.ensures.found told)

pub returns-clause-reads : goal.returns-clause-reads
returns-clause-reads g c told listed tells newest =
    let f = read_in (names_in c.args.folder.now) (g.S.Store.seen c.args.store.now) in
    let fits : c.args.state.page < 2 ^ 32 = search rules in
    let numbers = c.as_slice.ensures.value ∙ filter_same _ (λ n. nat_lt n c.args.state.page) _ (λ x b f' k. search rules) _ _ c.retain.ensures.filtered in
    sees_all f c.args.listing c.args.state listed tells fits c.as_slice.result.now numbers c.args.turn c.in_ok-pages.pages (c.in_ok-pages.ensures.found told) newest (c.in_ok-pages.ensures.newest told)
