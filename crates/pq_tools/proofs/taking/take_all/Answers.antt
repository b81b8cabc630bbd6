use Rattle.std.proofs.Common.{List, ℕ, sym, ◌∙◌, ap}
use Rattle.io_traits.specs.Folders.{Content}
use Rattle.io_traits.specs.Reads.{bytes_of}
use Rattle.io_traits.proofs.Looking.{nothing_yet}
use Rattle.slot_files.specs.Checkpoints.{newest_in}
use Rattle.slot_files.specs.declared.checkpoint.Slots.{Slots}
use Rattle.queue_files.specs.Folders.{IsOwn, head, names_in}
use Rattle.queue_files.specs.Listing.{IsListed}
use Rattle.queue_files.specs.Marks.{read_in}
use Rattle.queue_files.proofs.OtherFiles.{others_looked, others_then}
use Rattle.pq_tools.specs.Repairs.{salvaged_of}
use Rattle.pq_tools.specs.Salvage.{salvage}
use Rattle.pq_tools.proofs.Takings.{adds_when, salvage_is, spends_by}
use Rattle.pq_tools.proofs.taking.take_all.Goals as goal

pub returns-clause-adds : goal.returns-clause-adds
returns-clause-adds g c =
    let names = names_in c.args.folder.now in
    let old = c.args.store.now in
    let mid = c.newest.new.store in
    let f = read_in names (g.S.Store.seen old) in
    let same = c.newest.ensures.same in
    let numbers = c.as_slice-numbers.result.now in
    adds_when g.S.Store (salvaged_of (read_in names (g.S.Store.seen mid)) 0 numbers) (salvage f) c.args.queue.now c.take_listed.new.queue old mid c.take_listed.new.store (IsListed f c.args.listing.now) c.take_listed.result same
    (λ told. c.take_listed.ensures.adds told
    (ap (λ (content : Content). newest_in (bytes_of (content (names head)))) (same.reads told)
    ∙ ap (λ (n : List ℕ). newest_in (bytes_of (g.S.Store.seen old n))) (sym (c.as_str.ensures ∙ c.in_ok-head.ensures))
    ∙ sym (ap (λ (s : Slots). s.newest) (c.in_ok-slots.ensures.slots told))))
    (λ listed told.
    ap (λ (content : Content). salvaged_of (read_in names content) 0 numbers) (same.reads told) ∙ ap (salvaged_of f 0) c.as_slice-numbers.ensures.value ∙ sym (salvage_is f c.args.listing.now listed))

pub returns-clause-beside : goal.returns-clause-beside
returns-clause-beside g c =
    let Mine = IsOwn (names_in c.args.queue.now.folder) in
    others_then g.S.Store g.met.S.Store.images_tell Mine c.args.store.now c.newest.new.store c.take_listed.new.store (others_looked g.S.Store g.met.S.Store.images_tell Mine c.args.store.now c.newest.new.store c.newest.ensures.same) c.take_listed.ensures.beside

pub returns-in_err-slots-clause-beside : goal.returns-in_err-slots-clause-beside
returns-in_err-slots-clause-beside g c = others_looked g.S.Store g.met.S.Store.images_tell (IsOwn (names_in c.args.queue.now.folder)) c.args.store.now c.newest.new.store c.newest.ensures.same

pub returns-in_err-head-clause-beside : goal.returns-in_err-head-clause-beside
returns-in_err-head-clause-beside g c = others_looked g.S.Store g.met.S.Store.images_tell (IsOwn (names_in c.args.queue.now.folder)) c.args.store.now c.args.store.now (nothing_yet g.S.Store c.args.store.now)

pub returns-clause-spent : goal.returns-clause-spent
returns-clause-spent g c err listed told =
    let names = names_in c.args.folder.now in
    let old = c.args.store.now in
    let f = read_in names (g.S.Store.seen old) in
    let mid = read_in names (g.S.Store.seen c.newest.new.store) in
    let same = c.newest.ensures.same in
    let numbers = c.as_slice-numbers.result.now in
    spends_by g.S.Store (salvaged_of mid 0 numbers) (salvage f) c.args.queue.now
    (λ t. ap (λ (content : Content). salvaged_of (read_in names content) 0 numbers) (same.reads t) ∙ ap (salvaged_of f 0) c.as_slice-numbers.ensures.value ∙ sym (salvage_is f c.args.listing.now listed))
    (c.take_listed.ensures.spent err
    (ap (λ (content : Content). newest_in (bytes_of (content (names head)))) (same.reads told)
    ∙ ap (λ (n : List ℕ). newest_in (bytes_of (g.S.Store.seen old n))) (sym (c.as_str.ensures ∙ c.in_ok-head.ensures))
    ∙ sym (ap (λ (s : Slots). s.newest) (c.in_ok-slots.ensures.slots told))))
    told
