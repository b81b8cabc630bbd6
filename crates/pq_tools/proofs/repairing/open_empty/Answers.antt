use Rattle.std.proofs.Common.{Err, List, ℕ, sym, ◌∙◌, ap, subst}
use Rattle.queue_files.specs.Folders.{names_in}
use Rattle.queue_files.specs.Found.{found}
use Rattle.queue_files.specs.Collected.{IsLost}
use Rattle.queue_files.specs.Marks.{read_in}
use Rattle.queue_files.specs.Queues.{IsQueueOf}
use Rattle.queue_core.specs.Views.{QueueView}
use Rattle.io_traits.specs.declared.queue_faults.QueueFault.{QueueFault}
use Rattle.pq_tools.specs.Repairs.{HasFile, IsMade, OpensNew}
use Rattle.pq_tools.specs.declared.fault.RepairFault.{RepairFault}
use Rattle.pq_tools.proofs.EmptyFolders.{has_none, made_new, no_file, not_damaged}
use Rattle.pq_tools.proofs.Takings.{opens_failed}
use Rattle.pq_tools.proofs.repairing.open_empty.Goals as goal

pub returns-in-Ok-clause-made : goal.returns-in-Ok-clause-made
returns-in-Ok-clause-made g c told lists =
    let folder = c.args.folder.now in
    let content = g.S.Store.seen c.args.store.now in
    let opens = c.in-Ok.ensures.opens in
    let made = opens.ready told in
    let named = ap (λ (v : QueueView). v.folder) opens.is in
    let of = subst (λ (name : List ℕ). IsQueueOf (read_in (names_in name) content) opens.opened made.queue) named made.is in (
      no_file folder content c.requires lists,
      record {
        is = opens.is ∙ made_new folder content c.requires lists opens.opened (opens.reads told);
        holds = record { queue = made.queue; opens = made.opens; is = has_none folder content c.requires lists opens.opened made.queue (opens.reads told) of };
      },
    )

pub returns-in-Err-clause-made : goal.returns-in-Err-clause-made
returns-in-Err-clause-made g c told lists =
    let folder = c.args.folder.now in
    let content = g.S.Store.seen c.args.store.now in
    subst (λ (fault : RepairFault). OpensNew (HasFile folder content) (λ (queue : QueueView). IsMade g.S.Store folder queue c.open_on.new.store) (Err fault)) (sym c.fault_of.ensures)
    (opens_failed (HasFile folder content) (λ (queue : QueueView). IsMade g.S.Store folder queue c.open_on.new.store) c.in-Err.fault
    (λ d is. absurd (not_damaged folder content c.requires lists d (subst (λ (fault : QueueFault). IsLost (names_in folder) fault (found (read_in (names_in folder) content))) is (c.in-Err.ensures.found told)))))

pub returns-in-Ok-clause-folder : goal.returns-in-Ok-clause-folder
returns-in-Ok-clause-folder g c = ap (λ (v : QueueView). v.folder) c.in-Ok.ensures.opens.is
