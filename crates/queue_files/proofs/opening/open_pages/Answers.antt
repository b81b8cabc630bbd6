use Rattle.std.proofs.Common.{refl, rules, ◌<◌, ◌^◌, nat_lt, ◌∙◌}
use Rattle.std.proofs.lemmas.Fn.{filter_same}
use Rattle.queue_files.specs.Folders.{page, names_in}
use Rattle.queue_files.specs.Found.{found}
use Rattle.queue_files.specs.Marks.{read_in}
use Rattle.queue_files.proofs.Openings.{hands_on, no_damage, gone_first, then_read, reads_pages, loses_pages}
use Rattle.queue_files.proofs.QueueReady.{ready_pages}
use Rattle.queue_files.proofs.KnownPages.{opens_pages}
use Rattle.queue_files.proofs.OtherFiles.{file_is_own, then_others}
use Rattle.queue_files.proofs.opening.open_pages.Goals as goal

pub returns-in_err-remove_unread-clause-found : goal.returns-in_err-remove_unread-clause-found
returns-in_err-remove_unread-clause-found g c read told =
    let names = names_in c.args.folder.now in
    let folder = read_in names (g.S.Store.seen c.args.store.now) in
    let lost = c.in_err-remove_unread.field-0.0 in
    hands_on names folder c.from_residual.result lost c.from_residual.ensures.1 (no_damage names lost (found folder) c.in_err-remove_unread.ensures.whole)

pub returns-in_err-remove_unread-clause-keeps : goal.returns-in_err-remove_unread-clause-keeps
returns-in_err-remove_unread-clause-keeps g c read =
    gone_first g.S.Store g.met.S.Store.images_tell (names_in c.args.folder.now) c.args.listing c.args.state c.args.store.now c.remove_unread.new.store read (c.remove_unread.ensures.keeps read)

pub returns-in_err-pages-clause-keeps : goal.returns-in_err-pages-clause-keeps
returns-in_err-pages-clause-keeps g c read =
    then_read g.S.Store g.met.S.Store.images_tell (names_in c.args.folder.now) c.args.listing c.args.state c.args.store.now c.remove_unread.new.store read (c.remove_unread.ensures.keeps read)
    (c.in_ok-remove_unread.ensures.gone read) c.read_pages.new.store c.read_pages.ensures.keeps

pub returns-clause-keeps : goal.returns-clause-keeps
returns-clause-keeps g c read =
    then_read g.S.Store g.met.S.Store.images_tell (names_in c.args.folder.now) c.args.listing c.args.state c.args.store.now c.remove_unread.new.store read (c.remove_unread.ensures.keeps read)
    (c.in_ok-remove_unread.ensures.gone read) c.read_pages.new.store c.read_pages.ensures.keeps

pub returns-in_err-pages-clause-found : goal.returns-in_err-pages-clause-found
returns-in_err-pages-clause-found g c read told =
    let names = names_in c.args.folder.now in
    let fits : c.args.state.page < 2 ^ 32 = search rules in
    let numbers = c.as_slice.ensures.value ∙ filter_same _ (λ n. nat_lt n c.args.state.page) _ (λ x b f' k. search rules) _ _ c.retain.ensures.filtered in
    let lost = c.in_err-pages.field-0.0 in
    hands_on names (read_in names (g.S.Store.seen c.args.store.now)) c.from_residual-in_err-pages.result lost c.from_residual-in_err-pages.ensures.1
    (loses_pages g.S.Store g.met.S.Store.images_tell names c.args.listing c.args.state c.args.store.now c.remove_unread.new.store read (c.remove_unread.ensures.keeps read) (c.in_ok-remove_unread.ensures.gone read)
    fits told c.as_slice.result.now numbers lost (c.in_err-pages.ensures.found told))

pub returns-clause-found : goal.returns-clause-found
returns-clause-found g c read told =
    let names = names_in c.args.folder.now in
    let fits : c.args.state.page < 2 ^ 32 = search rules in
    let numbers = c.as_slice.ensures.value ∙ filter_same _ (λ n. nat_lt n c.args.state.page) _ (λ x b f' k. search rules) _ _ c.retain.ensures.filtered in
    reads_pages g.S.Store g.met.S.Store.images_tell names c.args.listing c.args.state c.args.store.now c.remove_unread.new.store read (c.remove_unread.ensures.keeps read) (c.in_ok-remove_unread.ensures.gone read)
    fits told c.as_slice.result.now numbers (record { turn = c.args.turn; state = c.args.state; pages = c.in_ok-pages.pages }) (c.in_ok-pages.ensures.found told)

pub returns-clause-ready : goal.returns-clause-ready
returns-clause-ready g c read newest =
    let fits : c.args.state.page < 2 ^ 32 = search rules in
    let numbers = c.as_slice.ensures.value ∙ filter_same _ (λ n. nat_lt n c.args.state.page) _ (λ x b f' k. search rules) _ _ c.retain.ensures.filtered in
    let tidy = c.in_ok-remove_unread.ensures.gone read in
    ready_pages g.S.Store g.met.S.Store.images_tell (names_in c.args.folder.now) c.args.listing c.args.turn c.args.state c.args.store.now c.remove_unread.new.store c.read_pages.new.store read (c.remove_unread.ensures.keeps read) tidy
    newest fits c.as_slice.result.now numbers c.in_ok-pages.pages c.in_ok-pages.ensures.found (c.in_ok-pages.ensures.leaves tidy.rests)

pub returns-clause-opened : goal.returns-clause-opened
returns-clause-opened g c read newest =
    let fits : c.args.state.page < 2 ^ 32 = search rules in
    let numbers = c.as_slice.ensures.value ∙ filter_same _ (λ n. nat_lt n c.args.state.page) _ (λ x b f' k. search rules) _ _ c.retain.ensures.filtered in
    let tidy = c.in_ok-remove_unread.ensures.gone read in
    opens_pages g.S.Store g.met.S.Store.images_tell (names_in c.args.folder.now) c.args.listing c.args.turn c.args.state c.args.store.now c.remove_unread.new.store c.read_pages.new.store read tidy
    newest fits c.as_slice.result.now numbers c.in_ok-pages.pages c.in_ok-pages.ensures.found (c.in_ok-pages.ensures.leaves tidy.rests)

pub returns-in_err-remove_unread-clause-beside : goal.returns-in_err-remove_unread-clause-beside
returns-in_err-remove_unread-clause-beside g c = c.remove_unread.ensures.beside

pub returns-in_err-pages-clause-beside : goal.returns-in_err-pages-clause-beside
returns-in_err-pages-clause-beside g c = then_others g.S.Store g.met.S.Store.images_tell c.remove_unread.ensures.beside
    (file_is_own g.S.Store g.met.S.Store.images_tell c.args.folder.now (page c.args.state.page) (names_in c.args.folder.now (page c.args.state.page)) c.remove_unread.new.store c.read_pages.new.store refl c.read_pages.ensures.beside)

pub returns-clause-beside : goal.returns-clause-beside
returns-clause-beside g c = then_others g.S.Store g.met.S.Store.images_tell c.remove_unread.ensures.beside
    (file_is_own g.S.Store g.met.S.Store.images_tell c.args.folder.now (page c.args.state.page) (names_in c.args.folder.now (page c.args.state.page)) c.remove_unread.new.store c.read_pages.new.store refl c.read_pages.ensures.beside)
