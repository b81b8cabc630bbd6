use Rattle.std.proofs.Common.{sym, ◌∙◌, ap, subst}
use Rattle.queue_files.specs.Folders.{names_in}
use Rattle.queue_files.specs.Marks.{read_in}
use Rattle.queue_core.specs.Calls.{end_of}
use Rattle.queue_core.specs.Opening.{OpensFolder}
use Rattle.queue_core.specs.Opens.{IsReady}
use Rattle.queue_core.specs.Views.{QueueView}
use Rattle.queue_core.proofs.OpenedQueues.{hands_on, is_ready, opens_folder, unread_found}
use Rattle.queue_core.proofs.queue.Queue.open_on.Goals as goal

pub returns-in_err-opened-clause-found : goal.returns-in_err-opened-clause-found
returns-in_err-opened-clause-found g c told =
    let folder = c.args.folder.now in
    hands_on folder c.args.limits (read_in (names_in folder) (g.S.Store.seen c.args.store.now)) c.from_residual.result c.in_err-opened.field-0.0 c.from_residual.ensures.1 (c.in_err-opened.ensures.found told)

pub returns-in-Ok-clause-found : goal.returns-in-Ok-clause-found
returns-in-Ok-clause-found g c told =
    let o = c.in_ok-opened.opened in
    let is = c.in-Ok.ensures in
    let rows = c.in_ok-opened.ensures.found told in
    let was = c.in_ok-opened.ensures.opened in
    record {
      opened = o;
      reads = was.reads told;
      is = is;
      rows = rows.rows;
      is_found = rows.is_found;
      unread = ap (λ (q : QueueView). q.unread) is ∙ unread_found g.S.Store c.args.folder.now c.args.limits o c.args.store.now c.open_folder.new.store c.in_ok-opened.ensures.stated was told rows.rows rows.is_found;
      next = rows.next ∙ sym (ap (λ (q : QueueView). end_of q.top) is);
    }

pub returns-in-Ok-clause-ready : goal.returns-in-Ok-clause-ready
returns-in-Ok-clause-ready g c =
    subst (λ (q : QueueView). IsReady g.S.Store q c.open_folder.new.store) (sym c.in-Ok.ensures)
    (is_ready g.S.Store c.args.folder.now c.args.limits c.in_ok-opened.opened c.args.store.now c.open_folder.new.store c.in_ok-opened.ensures.stated c.in_ok-opened.ensures.opened)

pub returns-in-Ok-clause-opens : goal.returns-in-Ok-clause-opens
returns-in-Ok-clause-opens g c =
    subst (λ (q : QueueView). OpensFolder g.S.Store c.args.folder.now c.args.limits c.args.store.now c.open_folder.new.store q) (sym c.in-Ok.ensures)
    (opens_folder g.S.Store c.args.folder.now c.args.limits c.in_ok-opened.opened c.args.store.now c.open_folder.new.store c.in_ok-opened.ensures.stated c.in_ok-opened.ensures.opened c.in_ok-opened.ensures.ready)

pub returns-in_err-opened-clause-beside : goal.returns-in_err-opened-clause-beside
returns-in_err-opened-clause-beside g c = c.open_folder.ensures.beside.reads

pub returns-in_err-opened-clause-beside_moments : goal.returns-in_err-opened-clause-beside_moments
returns-in_err-opened-clause-beside_moments g c = c.open_folder.ensures.beside.moments

pub returns-in-Ok-clause-beside : goal.returns-in-Ok-clause-beside
returns-in-Ok-clause-beside g c = c.open_folder.ensures.beside.reads

pub returns-in-Ok-clause-beside_moments : goal.returns-in-Ok-clause-beside_moments
returns-in-Ok-clause-beside_moments g c = c.open_folder.ensures.beside.moments

pub returns-clause-beside : goal.returns-clause-beside
returns-clause-beside g c = c.open_folder.ensures.beside.reads

pub returns-clause-beside_moments : goal.returns-clause-beside_moments
returns-clause-beside_moments g c = c.open_folder.ensures.beside.moments
