use Rattle.std.proofs.Common.{[], Option, sym, ◌∙◌, ap, subst}
use Rattle.io_traits.specs.Folders.{Content}
use Rattle.io_traits.specs.Reads.{bytes_of}
use Rattle.queue_files.specs.Folders.{IsOwn, names_in}
use Rattle.queue_files.proofs.QueueReady.{if_ok_so}
use Rattle.queue_files.proofs.OtherFiles.{others_looked, others_then}
use Rattle.pq_tools.specs.PageRuns.{BeginsRun, IsFirstRun}
use Rattle.pq_tools.specs.Salvage.{end_with, rows_in, taken}
use Rattle.pq_tools.specs.declared.salvaging.PageRun.{PageRun}
use Rattle.pq_tools.proofs.Takings.{adds_behind, adds_by, adds_same, none_taken, on_ok_so, spends_by}
use Rattle.pq_tools.proofs.taking.take_page.Goals as goal

pub returns-in-Some-clause-adds : goal.returns-in-Some-clause-adds
returns-in-Some-clause-adds g c =
    let name = c.args.name.now in
    let old = c.args.store.now in
    let mid = c.begin_run.new.store in
    let new = c.take_run.new.store in
    let v = c.args.queue.now in
    let w = c.take_run.new.queue in
    let same = c.begin_run.ensures.same in
    on_ok_so _ _ c.take_run.result c.take_run.ensures.adds
    (λ adds told.
    let first = subst (λ (content : Content). IsFirstRun (bytes_of (content name)) c.in-Some.begun) (sym (same.reads told))
    (subst (λ (o : Option PageRun). BeginsRun (bytes_of (g.S.Store.seen old name)) o) c.in-Some.is (c.in_ok-begun.ensures.rows told)) in
    adds_by g.S.Store (taken c.args.end c.args.from (rows_in (bytes_of (g.S.Store.seen mid name)))) (taken c.args.end c.args.from (rows_in (bytes_of (g.S.Store.seen old name)))) v w old new
    (λ t. ap (λ (content : Content). taken c.args.end c.args.from (rows_in (bytes_of (content name)))) (same.reads t))
    (adds_behind g.S.Store (taken c.args.end c.args.from (rows_in (bytes_of (g.S.Store.seen mid name)))) v w old mid new same (adds first)) told)

pub returns-in-Some-clause-spent : goal.returns-in-Some-clause-spent
returns-in-Some-clause-spent g c err told =
    let name = c.args.name.now in
    let old = c.args.store.now in
    let same = c.begin_run.ensures.same in
    let first = subst (λ (content : Content). IsFirstRun (bytes_of (content name)) c.in-Some.begun) (sym (same.reads told))
    (subst (λ (o : Option PageRun). BeginsRun (bytes_of (g.S.Store.seen old name)) o) c.in-Some.is (c.in_ok-begun.ensures.rows told)) in
    spends_by g.S.Store (taken c.args.end c.args.from (rows_in (bytes_of (g.S.Store.seen c.begin_run.new.store name)))) (taken c.args.end c.args.from (rows_in (bytes_of (g.S.Store.seen old name)))) c.args.queue.now
    (λ t. ap (λ (content : Content). taken c.args.end c.args.from (rows_in (bytes_of (content name)))) (same.reads t)) (c.take_run.ensures.spent err first) told

pub returns-in-Some-clause-end : goal.returns-in-Some-clause-end
returns-in-Some-clause-end g c =
    let name = c.args.name.now in
    let old = c.args.store.now in
    let same = c.begin_run.ensures.same in
    if_ok_so _ _ c.take_run.result c.take_run.ensures.end
    (λ behind is told.
    let first = subst (λ (content : Content). IsFirstRun (bytes_of (content name)) c.in-Some.begun) (sym (same.reads told))
    (subst (λ (o : Option PageRun). BeginsRun (bytes_of (g.S.Store.seen old name)) o) c.in-Some.is (c.in_ok-begun.ensures.rows told)) in
    is told first ∙ ap (λ (content : Content). end_with c.args.end (rows_in (bytes_of (content name)))) (same.reads told))

pub returns-in-None-clause-adds : goal.returns-in-None-clause-adds
returns-in-None-clause-adds g c =
    let file = bytes_of (g.S.Store.seen c.args.store.now c.args.name.now) in
    adds_by g.S.Store [] (taken c.args.end c.args.from (rows_in file)) c.args.queue.now c.args.queue.now c.args.store.now c.begin_run.new.store
    (λ told. sym (none_taken file c.args.end c.args.from (subst (λ (o : Option PageRun). BeginsRun file o) c.in-None.is (c.in_ok-begun.ensures.rows told))).0)
    (adds_same g.S.Store c.args.queue.now c.args.store.now c.begin_run.new.store c.begin_run.ensures.same)

pub returns-in-None-clause-end : goal.returns-in-None-clause-end
returns-in-None-clause-end g c told =
    let file = bytes_of (g.S.Store.seen c.args.store.now c.args.name.now) in
    sym (none_taken file c.args.end c.args.from (subst (λ (o : Option PageRun). BeginsRun file o) c.in-None.is (c.in_ok-begun.ensures.rows told))).1

pub returns-in-Some-clause-beside : goal.returns-in-Some-clause-beside
returns-in-Some-clause-beside g c =
    let Mine = IsOwn (names_in c.args.queue.now.folder) in
    others_then g.S.Store g.met.S.Store.images_tell Mine c.args.store.now c.begin_run.new.store c.take_run.new.store (others_looked g.S.Store g.met.S.Store.images_tell Mine c.args.store.now c.begin_run.new.store c.begin_run.ensures.same) c.take_run.ensures.beside

pub returns-in-None-clause-beside : goal.returns-in-None-clause-beside
returns-in-None-clause-beside g c = others_looked g.S.Store g.met.S.Store.images_tell (IsOwn (names_in c.args.queue.now.folder)) c.args.store.now c.begin_run.new.store c.begin_run.ensures.same
