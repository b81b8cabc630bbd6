use Rattle.std.proofs.Common.{[], List, ℕ, subst}
use Rattle.queue_files.specs.Folders.{IsOwn, names_in}
use Rattle.queue_files.specs.Marks.{read_in}
use Rattle.queue_files.specs.Others.{KeepsOthers}
use Rattle.queue_files.proofs.QueueReady.{if_ok_so}
use Rattle.queue_files.proofs.OtherFiles.{others_then}
use Rattle.pq_tools.specs.Repairs.{HasRows}
use Rattle.pq_tools.specs.Salvage.{salvage}
use Rattle.pq_tools.proofs.Takings.{no_store_fault, not_a_file, on_ok_all}
use Rattle.pq_tools.proofs.repairing.fill.Goals as goal

pub returns-in-Ok-clause-rows : goal.returns-in-Ok-clause-rows
returns-in-Ok-clause-rows g c =
    let folder = c.args.folder.now in
    let f = read_in (names_in folder) (g.S.Store.seen c.args.store.now) in
    if_ok_so _ _ c.settle.result c.settle.ensures.rows
    (λ count rows told h.
    subst (λ (name : List ℕ). HasRows (read_in (names_in name) (g.S.Store.seen c.settle.new.store)) (salvage f) count) c.take_pages.ensures.folder (rows told (salvage f) ((c.in-Ok.ensures.adds told).holds [] h)))

pub returns-in-Ok-clause-beside : goal.returns-in-Ok-clause-beside
returns-in-Ok-clause-beside g c =
    let Mine = IsOwn (names_in c.args.queue.folder) in
    others_then g.S.Store g.met.S.Store.images_tell Mine c.args.store.now c.take_pages.new.store c.settle.new.store c.take_pages.ensures.beside
    (subst (λ (name : List ℕ). KeepsOthers g.S.Store (IsOwn (names_in name)) c.take_pages.new.store c.settle.new.store) c.take_pages.ensures.folder c.settle.ensures.beside)

pub returns-in-Ok-clause-fits : goal.returns-in-Ok-clause-fits
returns-in-Ok-clause-fits g c = on_ok_all _ c.settle.result (λ told. (c.in-Ok.ensures.adds told).fits)

pub returns-in-Ok-clause-spent : goal.returns-in-Ok-clause-spent
returns-in-Ok-clause-spent g c err = absurd (no_store_fault c.settle.result c.settle.ensures.fault err)

pub returns-in-Ok-clause-fault : goal.returns-in-Ok-clause-fault
returns-in-Ok-clause-fault g c = not_a_file c.settle.result c.settle.ensures.fault
