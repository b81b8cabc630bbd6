use Rattle.std.proofs.Common.{◌≡◌, List, ℕ, sym, ◌∙◌, subst}
use Rattle.std.proofs.Math.Path.{ap₂}
use Rattle.queue_files.specs.Folders.{Folder, IsOwn, names_in}
use Rattle.queue_files.specs.Marks.{read_in}
use Rattle.queue_files.specs.Others.{KeepsOthers}
use Rattle.queue_files.proofs.QueueReady.{if_ok_so}
use Rattle.queue_files.proofs.OtherFiles.{others_then}
use Rattle.queue_core.specs.Views.{QueueView}
use Rattle.pq_tools.specs.Repairs.{AreDifferent, HasFile, HasRows, IsMade, IsRepaired}
use Rattle.pq_tools.specs.Numbers.{runs_out, spends_numbers}
use Rattle.pq_tools.specs.Salvage.{salvage}
use Rattle.pq_tools.proofs.Takings.{not_opened, on_ok_so, salvages_by, same_folder}
use Rattle.pq_tools.proofs.repairing.salvage.Goals as goal

pub fill-requires-clause-apart : goal.fill-requires-clause-apart
fill-requires-clause-apart g c = subst (AreDifferent c.args.folder.now) (sym c.in-Ok.ensures.folder) c.requires.apart

pub returns-in-Ok-clause-rows : goal.returns-in-Ok-clause-rows
returns-in-Ok-clause-rows g c told =
    let folder = c.args.folder.now in
    let target = c.args.repaired.now in
    let old = read_in (names_in folder) (g.S.Store.seen c.args.store.now) in
    let mid = read_in (names_in folder) (g.S.Store.seen c.open_new.new.store) in
    let opened = c.in-Ok.ensures.made told in
    let same = same_folder g.S.Store folder target c.args.store.now c.open_new.new.store c.requires.apart c.open_new.ensures.beside told in
    let Done = IsRepaired old (read_in (names_in target) (g.S.Store.seen c.fill.new.store)) in
    let spends : runs_out c.in-Ok.queue (salvage mid) ≡ spends_numbers target old = ap₂ (λ (v : QueueView) (f : Folder). runs_out v (salvage f)) opened.1.is same in
    salvages_by (HasFile target (g.S.Store.seen c.args.store.now)) (spends_numbers target old) Done c.fill.result opened.0
    (if_ok_so _ Done c.fill.result c.fill.ensures.rows
    (λ count rows.
    subst (λ (f : Folder). HasRows (read_in (names_in target) (g.S.Store.seen c.fill.new.store)) (salvage f) count) same
    (subst (λ (name : List ℕ). HasRows (read_in (names_in name) (g.S.Store.seen c.fill.new.store)) (salvage mid) count) c.in-Ok.ensures.folder (rows told opened.1.holds))))
    (on_ok_so _ _ c.fill.result c.fill.ensures.fits (λ fits. sym spends ∙ fits told)) (λ err. sym spends ∙ c.fill.ensures.spent err told) c.fill.ensures.fault

pub returns-in-Err-clause-rows : goal.returns-in-Err-clause-rows
returns-in-Err-clause-rows g c told =
    let folder = read_in (names_in c.args.folder.now) (g.S.Store.seen c.args.store.now) in
    let target = c.args.repaired.now in
    not_opened (HasFile target (g.S.Store.seen c.args.store.now)) (spends_numbers target folder) (λ (queue : QueueView). IsMade g.S.Store target queue c.open_new.new.store)
    (IsRepaired folder (read_in (names_in target) (g.S.Store.seen c.open_new.new.store))) c.in-Err.fault (c.in-Err.ensures.made told)

pub returns-in-Ok-clause-beside : goal.returns-in-Ok-clause-beside
returns-in-Ok-clause-beside g c =
    others_then g.S.Store g.met.S.Store.images_tell (IsOwn (names_in c.args.repaired.now)) c.args.store.now c.open_new.new.store c.fill.new.store c.open_new.ensures.beside
    (subst (λ (name : List ℕ). KeepsOthers g.S.Store (IsOwn (names_in name)) c.open_new.new.store c.fill.new.store) c.in-Ok.ensures.folder c.fill.ensures.beside)
