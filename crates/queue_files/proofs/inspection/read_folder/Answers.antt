use Rattle.std.proofs.Common.{sym, subst}
use Rattle.io_traits.specs.Folders.{Content}
use Rattle.queue_files.specs.Folders.{names_in}
use Rattle.queue_files.specs.Found.{found}
use Rattle.queue_files.specs.Known.{IsOfFolder}
use Rattle.queue_files.specs.Marks.{read_in}
use Rattle.queue_files.specs.Opened.{FindsOpened, IsLook}
use Rattle.queue_files.proofs.Openings.{hands_on, no_damage}
use Rattle.queue_files.proofs.QueueReady.{if_ok_so}
use Rattle.queue_files.proofs.inspection.read_folder.Goals as goal

pub returns-in_err-look-clause-found : goal.returns-in_err-look-clause-found
returns-in_err-look-clause-found g c told =
    let names = names_in c.args.folder.now in
    let folder = read_in names (g.S.Store.seen c.args.store.now) in
    let lost = c.in_err-look.field-0.0 in
    hands_on names folder c.from_residual.result lost c.from_residual.ensures.1 (no_damage names lost (found folder) c.in_err-look.ensures.whole)

pub returns-clause-found : goal.returns-clause-found
returns-clause-found g c told =
    let names = names_in c.args.folder.now in
    let same = c.look_at.ensures.same.reads told in
    subst (λ (content : Content). FindsOpened names (read_in names content) c.read_seen.result) same
    (c.read_seen.ensures.found told (subst (λ (content : Content). IsLook names content c.in_ok-look.look) (sym same) (c.in_ok-look.ensures.looked told)))

pub returns-clause-reads : goal.returns-clause-reads
returns-clause-reads g c =
    let names = names_in c.args.folder.now in
    if_ok_so _ _ c.read_seen.result c.read_seen.ensures.reads
    (λ o reads told.
    let same = c.look_at.ensures.same.reads told in
    subst (λ (content : Content). IsOfFolder (read_in names content) o) same
    (reads told (subst (λ (content : Content). IsLook names content c.in_ok-look.look) (sym same) (c.in_ok-look.ensures.looked told))))
