use Rattle.std.proofs.Common.{sym, subst}
use Rattle.io_traits.specs.Folders.{Content, Lists}
use Rattle.queue_files.proofs.OtherFiles.{others_looked, others_then}
use Rattle.queue_core.specs.Views.{QueueView}
use Rattle.queue_files.specs.Folders.{IsOwn, names_in}
use Rattle.pq_tools.specs.Repairs.{HasFile, IsMade, OpensNew}
use Rattle.pq_tools.proofs.repairing.open_new.Goals as goal

pub returns-in-Ok-clause-made : goal.returns-in-Ok-clause-made
returns-in-Ok-clause-made g c told =
    let folder = c.args.folder.now in
    let same = c.list.ensures.same.reads told in
    let lists = subst (λ (content : Content). Lists content folder c.as_slice.result.now) (sym same) (subst (Lists (g.S.Store.seen c.args.store.now) folder) (sym c.as_slice.ensures) (c.in-Ok.ensures.names told)) in
    subst (λ (content : Content). OpensNew (HasFile folder content) (λ (queue : QueueView). IsMade g.S.Store folder queue c.open_listed.new.store) c.open_listed.result) same (c.open_listed.ensures.made told lists)

pub returns-in-Ok-clause-beside : goal.returns-in-Ok-clause-beside
returns-in-Ok-clause-beside g c =
    let Mine = IsOwn (names_in c.args.folder.now) in
    others_then g.S.Store g.met.S.Store.images_tell Mine c.args.store.now c.list.new.self c.open_listed.new.store (others_looked g.S.Store g.met.S.Store.images_tell Mine c.args.store.now c.list.new.self c.list.ensures.same) c.open_listed.ensures.beside

pub returns-in-Err-Failed-clause-beside : goal.returns-in-Err-Failed-clause-beside
returns-in-Err-Failed-clause-beside g c = others_looked g.S.Store g.met.S.Store.images_tell (IsOwn (names_in c.args.folder.now)) c.args.store.now c.list.new.self c.list.ensures.same

pub returns-in-Err-Memory-clause-beside : goal.returns-in-Err-Memory-clause-beside
returns-in-Err-Memory-clause-beside g c = others_looked g.S.Store g.met.S.Store.images_tell (IsOwn (names_in c.args.folder.now)) c.args.store.now c.list.new.self c.list.ensures.same
