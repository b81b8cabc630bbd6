use Rattle.std.proofs.Common.{◌∙◌}
use Rattle.queue_files.specs.Folders.{IsOwn, names_in}
use Rattle.queue_files.proofs.OtherFiles.{others_stay, unread_are_own}
use Rattle.queue_files.proofs.Tidying.{none_goes, unread_go, unread_are_gone}
use Rattle.queue_files.proofs.unread.remove_unread.Goals as goal

pub returns-in_err-names-clause-keeps : goal.returns-in_err-names-clause-keeps
returns-in_err-names-clause-keeps g c read =
    none_goes g.S.Store g.met.S.Store.images_tell c.args.folder.now c.args.listing.now c.args.head.now c.args.store.now c.args.store.now read

pub returns-in_err-remove_files-clause-keeps : goal.returns-in_err-remove_files-clause-keeps
returns-in_err-remove_files-clause-keeps g c read =
    unread_go g.S.Store g.met.S.Store.images_tell c.args.folder.now c.args.listing.now c.args.head.now c.args.store.now c.remove_files.new.store read
    c.as_slice.result.now (c.as_slice.ensures.value ∙ c.in_ok-names.ensures) c.remove_files.ensures.any_moment

pub returns-clause-keeps : goal.returns-clause-keeps
returns-clause-keeps g c read =
    unread_go g.S.Store g.met.S.Store.images_tell c.args.folder.now c.args.listing.now c.args.head.now c.args.store.now c.remove_files.new.store read
    c.as_slice.result.now (c.as_slice.ensures.value ∙ c.in_ok-names.ensures) c.remove_files.ensures.any_moment

pub returns-clause-gone : goal.returns-clause-gone
returns-clause-gone g c read =
    unread_are_gone g.S.Store g.met.S.Store.images_tell c.args.folder.now c.args.listing.now c.args.head.now c.args.store.now c.remove_files.new.store read
    c.as_slice.result.now (c.as_slice.ensures.value ∙ c.in_ok-names.ensures) c.in_ok-remove_files.ensures.gone

pub returns-in_err-names-clause-beside : goal.returns-in_err-names-clause-beside
returns-in_err-names-clause-beside g c = others_stay g.S.Store g.met.S.Store.images_tell (IsOwn (names_in c.args.folder.now)) c.args.store.now

pub returns-in_err-remove_files-clause-beside : goal.returns-in_err-remove_files-clause-beside
returns-in_err-remove_files-clause-beside g c =
    unread_are_own g.S.Store g.met.S.Store.images_tell c.args.folder.now c.args.head.now.page c.args.listing.now c.args.store.now c.remove_files.new.store c.as_slice.result.now (c.as_slice.ensures.value ∙ c.in_ok-names.ensures) c.remove_files.ensures.beside

pub returns-clause-beside : goal.returns-clause-beside
returns-clause-beside g c =
    unread_are_own g.S.Store g.met.S.Store.images_tell c.args.folder.now c.args.head.now.page c.args.listing.now c.args.store.now c.remove_files.new.store c.as_slice.result.now (c.as_slice.ensures.value ∙ c.in_ok-names.ensures) c.remove_files.ensures.beside
