use Rattle.std.proofs.Common.{sym, ◌∙◌, subst, length}
use Rattle.std.proofs.lemmas.Bool.{eqb-true}
use Rattle.std.proofs.lemmas.List.{nil_from_length}
use Rattle.io_traits.specs.Folders.{Lists}
use Rattle.queue_files.specs.Folders.{IsOwn, names_in}
use Rattle.queue_files.proofs.OtherFiles.{others_stay}
use Rattle.pq_tools.proofs.EmptyFolders.{has_file}
use Rattle.pq_tools.proofs.repairing.open_listed.Goals as goal

pub returns-then-are_none-clause-made : goal.returns-then-are_none-clause-made
returns-then-are_none-clause-made g c told lists =
    let none = nil_from_length c.args.names.now (eqb-true (length c.args.names.now) 0 (sym c.are_none.ensures ∙ c.if-are_none.true)) in
    c.open_empty.ensures.made told (subst (Lists (g.S.Store.seen c.args.store.now) c.args.folder.now) none lists)

pub returns-else-are_none-clause-made : goal.returns-else-are_none-clause-made
returns-else-are_none-clause-made g c told lists =
    has_file c.args.folder.now (g.S.Store.seen c.args.store.now) c.args.names.now c.requires lists (sym c.are_none.ensures ∙ c.if-are_none.false)

pub returns-else-are_none-clause-beside : goal.returns-else-are_none-clause-beside
returns-else-are_none-clause-beside g c = others_stay g.S.Store g.met.S.Store.images_tell (IsOwn (names_in c.args.folder.now)) c.args.store.now
