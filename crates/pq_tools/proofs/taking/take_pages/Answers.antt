use Rattle.std.proofs.Common.{sym, ap, subst}
use Rattle.io_traits.specs.Folders.{Content}
use Rattle.queue_files.specs.Folders.{IsOwn, names_in}
use Rattle.queue_files.specs.Listing.{IsListed}
use Rattle.queue_files.specs.Marks.{read_in}
use Rattle.queue_files.proofs.OtherFiles.{others_looked, others_then}
use Rattle.pq_tools.specs.Salvage.{salvage}
use Rattle.pq_tools.proofs.Takings.{adds_behind, adds_by, on_ok_so, spends_by}
use Rattle.pq_tools.proofs.taking.take_pages.Goals as goal

pub returns-in-Ok-clause-adds : goal.returns-in-Ok-clause-adds
returns-in-Ok-clause-adds g c =
    let names = names_in c.args.folder.now in
    let old = c.args.store.now in
    let mid = c.list_folder.new.store in
    let new = c.take_all.new.store in
    let same = c.list_folder.ensures.same in
    on_ok_so _ _ c.take_all.result c.take_all.ensures.adds
    (λ adds told.
    let lists = subst (λ (content : Content). IsListed (read_in names content) c.in-Ok.listing) (sym (same.reads told)) (c.in-Ok.ensures.listed told) in
    let rows = salvage (read_in names (g.S.Store.seen mid)) in
    adds_by g.S.Store rows (salvage (read_in names (g.S.Store.seen old))) c.args.queue.now c.take_all.new.queue old new (λ t. ap (λ (content : Content). salvage (read_in names content)) (same.reads t))
    (adds_behind g.S.Store rows c.args.queue.now c.take_all.new.queue old mid new same (adds lists)) told)

pub returns-in-Ok-clause-spent : goal.returns-in-Ok-clause-spent
returns-in-Ok-clause-spent g c err told =
    let names = names_in c.args.folder.now in
    let old = c.args.store.now in
    let same = c.list_folder.ensures.same in
    let lists = subst (λ (content : Content). IsListed (read_in names content) c.in-Ok.listing) (sym (same.reads told)) (c.in-Ok.ensures.listed told) in
    spends_by g.S.Store (salvage (read_in names (g.S.Store.seen c.list_folder.new.store))) (salvage (read_in names (g.S.Store.seen old))) c.args.queue.now
    (λ t. ap (λ (content : Content). salvage (read_in names content)) (same.reads t)) (c.take_all.ensures.spent err lists) told

pub returns-in-Ok-clause-beside : goal.returns-in-Ok-clause-beside
returns-in-Ok-clause-beside g c =
    let Mine = IsOwn (names_in c.args.queue.now.folder) in
    others_then g.S.Store g.met.S.Store.images_tell Mine c.args.store.now c.list_folder.new.store c.take_all.new.store (others_looked g.S.Store g.met.S.Store.images_tell Mine c.args.store.now c.list_folder.new.store c.list_folder.ensures.same) c.take_all.ensures.beside

pub returns-in-Err-Fault-clause-beside : goal.returns-in-Err-Fault-clause-beside
returns-in-Err-Fault-clause-beside g c = others_looked g.S.Store g.met.S.Store.images_tell (IsOwn (names_in c.args.queue.now.folder)) c.args.store.now c.list_folder.new.store c.list_folder.ensures.same
