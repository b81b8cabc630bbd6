use Rattle.std.proofs.Common.{◌≡◌, ◌+◌, ◌-◌, ◌<◌, ◌^◌, ℕ, min, length, refl, sym, subst, arith}
use Rattle.queue_files.specs.Folders.{page, IsOwn, names_in}
use Rattle.queue_files.specs.Others.{KeepsOthers}
use Rattle.queue_files.proofs.OtherFiles.{file_is_own}
use Rattle.queue_page.specs.Grammar.{row_framed, IsElement, IsNext}
use Rattle.queue_core.specs.Calls.{end_of}
use Rattle.queue_core.specs.Opens.{IsReady}
use Rattle.queue_core.specs.Views.{QueueView}
use Rattle.queue_core.specs.Writing.{behind_append, row_here, AddsRow, KeepsRow, TakesRow}
use Rattle.queue_core.proofs.AppendRuns.{ready_with}
use Rattle.queue_core.proofs.WriteRuns.{adds_here, keeps_fault, keeps_here}
use Rattle.queue_core.proofs.queue.Queue.append.Goals as goal

pub add_row-requires-clause-element : goal.add_row-requires-clause-element
add_row-requires-clause-element g c =
    let top = c.args.self.now.top in
    let h = c.requires.frame in
    let row = row_framed (end_of top) h.origin h.event top.page.state.length in (
      row,
      subst (λ (x : QueueView). IsNext x.top.page row c.args.frame.now) (sym c.self.view_is)
          (record { number = refl; element = subst (λ (n : ℕ). IsElement n top.page.state.length row c.args.frame.now) (sym c.requires.takes.version) (h.is.element top.page.state.length) }),
    )

pub returns-in_err-add_row-clause-keeps : goal.returns-in_err-add_row-clause-keeps
returns-in_err-add_row-clause-keeps g c =
    let q = c.self.inside in
    let v : QueueView = record { folder = q.folder; limits = q.limits; tails = q.tails.items; top = q.top; unread = q.unread; cursor = q.cursor } in
    let takes = subst (λ (x : QueueView). TakesRow (length c.args.frame.now) x.top) (sym c.self.view_is) c.requires.takes in
    let fits = subst (λ (x : QueueView). end_of x.top < 2 ^ 63 - 1) (sym c.self.view_is) c.requires.fits in
    subst (λ (x : QueueView). KeepsRow g.S.Store row_here x c.args.frame.now c.args.store.now c.add_row.new.store) c.self.view_is
    (keeps_fault g.S.Store g.met.S.Store.images_tell row_here v c.args.frame.now c.args.store.now c.add_row.new.store c.in_err-add_row.field-0.0 c.in_err-add_row.ensures.fault c.in_err-add_row.ensures.memory
    (λ differs. keeps_here g.S.Store g.met.S.Store.images_tell v c.args.frame.now c.args.store.now c.add_row.new.store takes fits q.top.file c.self.invariant.top (c.in_err-add_row.ensures.keeps differs)))

pub returns-clause-ready : goal.returns-clause-ready
returns-clause-ready g c =
    let q = c.self.inside in
    let v : QueueView = record { folder = q.folder; limits = q.limits; tails = q.tails.items; top = q.top; unread = q.unread; cursor = q.cursor } in
    let unread : min (q.unread + 1) (2 ^ 64 - 1) ≡ c.saturating_add-self-inside.result = omega (arith, c.saturating_add-self-inside.ensures) in
    let grown : behind_append (length c.args.frame.now) v ≡ record v { top = c.add_row.new.self; unread = c.saturating_add-self-inside.result } = λ i. record v { top = sym c.in_ok-add_row.ensures.added i; unread = unread i } in
    subst (λ (x : QueueView). IsReady g.S.Store x c.add_row.new.store) grown
    (ready_with g.S.Store v c.args.frame.now c.args.store.now c.add_row.new.store c.in_ok-add_row.ensures.ready.longer (subst (λ (x : QueueView). IsReady g.S.Store x c.args.store.now) (sym c.self.view_is) c.requires.ready))

pub returns-clause-keeps : goal.returns-clause-keeps
returns-clause-keeps g c =
    let q = c.self.inside in
    let v : QueueView = record { folder = q.folder; limits = q.limits; tails = q.tails.items; top = q.top; unread = q.unread; cursor = q.cursor } in
    let takes = subst (λ (x : QueueView). TakesRow (length c.args.frame.now) x.top) (sym c.self.view_is) c.requires.takes in
    let fits = subst (λ (x : QueueView). end_of x.top < 2 ^ 63 - 1) (sym c.self.view_is) c.requires.fits in
    subst (λ (x : QueueView). KeepsRow g.S.Store row_here x c.args.frame.now c.args.store.now c.add_row.new.store) c.self.view_is
    (keeps_here g.S.Store g.met.S.Store.images_tell v c.args.frame.now c.args.store.now c.add_row.new.store takes fits q.top.file c.self.invariant.top (c.in_ok-add_row.ensures.keeps (λ is. absurd cc)))

pub returns-clause-adds : goal.returns-clause-adds
returns-clause-adds g c =
    let q = c.self.inside in
    let v : QueueView = record { folder = q.folder; limits = q.limits; tails = q.tails.items; top = q.top; unread = q.unread; cursor = q.cursor } in
    let takes = subst (λ (x : QueueView). TakesRow (length c.args.frame.now) x.top) (sym c.self.view_is) c.requires.takes in
    let fits = subst (λ (x : QueueView). end_of x.top < 2 ^ 63 - 1) (sym c.self.view_is) c.requires.fits in
    let unread : min (q.unread + 1) (2 ^ 64 - 1) ≡ c.saturating_add-self-inside.result = omega (arith, c.saturating_add-self-inside.ensures) in
    let grown : behind_append (length c.args.frame.now) v ≡ record v { top = c.add_row.new.self; unread = c.saturating_add-self-inside.result } = λ i. record v { top = sym c.in_ok-add_row.ensures.added i; unread = unread i } in
    let added = c.in_ok-add_row.ensures.ready in
    subst (λ (x : QueueView). AddsRow g.S.Store row_here x (record v { top = c.add_row.new.self; unread = c.saturating_add-self-inside.result }) c.args.frame.now c.args.store.now c.add_row.new.store) c.self.view_is
    (subst (λ (x : QueueView). AddsRow g.S.Store row_here v x c.args.frame.now c.args.store.now c.add_row.new.store) grown
    (adds_here g.S.Store g.met.S.Store.images_tell v c.args.frame.now c.args.store.now c.add_row.new.store takes fits q.top.file c.self.invariant.top
    (subst (λ (x : QueueView). IsReady g.S.Store x c.args.store.now) (sym c.self.view_is) c.requires.ready) added.beside added.written added.ready))

pub returns-in_err-add_row-clause-beside : goal.returns-in_err-add_row-clause-beside
returns-in_err-add_row-clause-beside g c =
    let q = c.self.inside in
    subst (λ (x : QueueView). KeepsOthers g.S.Store (IsOwn (names_in x.folder)) c.args.store.now c.add_row.new.store) c.self.view_is
    (file_is_own g.S.Store g.met.S.Store.images_tell q.folder (page q.top.number) q.top.file c.args.store.now c.add_row.new.store c.self.invariant.top c.add_row.ensures.beside)

pub returns-clause-beside : goal.returns-clause-beside
returns-clause-beside g c =
    let q = c.self.inside in
    subst (λ (x : QueueView). KeepsOthers g.S.Store (IsOwn (names_in x.folder)) c.args.store.now c.add_row.new.store) c.self.view_is
    (file_is_own g.S.Store g.met.S.Store.images_tell q.folder (page q.top.number) q.top.file c.args.store.now c.add_row.new.store c.self.invariant.top c.add_row.ensures.beside)
