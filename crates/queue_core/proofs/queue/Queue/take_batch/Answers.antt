use Rattle.std.proofs.Common.{◌≡◌, ◌-◌, ◌==◌, ◌++◌, ◌∷◌, [], ℕ, List, Ok, Err, false, rules, refl, sym, ap, ◌∙◌, subst}
use Rattle.io_traits.specs.Reads.{bytes_of}
use Rattle.queue_page.specs.Elements.{and_then}
use Rattle.queue_files.specs.Folders.{page, IsOwn, names_in}
use Rattle.queue_files.proofs.OtherFiles.{others_looked, others_stay}
use Rattle.queue_core.specs.Batching.{Finds}
use Rattle.queue_core.specs.Opens.{Becomes, IsOfFiles}
use Rattle.queue_core.specs.Taking.{Stand, stand, begun, pages_read, rows_in, rows_taken, behind_take, taken_of, AreThere, KeptIn, WasRead}
use Rattle.queue_core.specs.Views.{CursorView, OpenPageView, QueueView}
use Rattle.queue_core.specs.declared.taking.RowsRead.{RowsRead}
use Rattle.queue_core.proofs.BatchTaken.{all_there, kept_left, kept_there, batch_lost, batch_taken, files_lost, files_taken, keeps_taken, opens_taken, rows_in_batch}
use Rattle.queue_core.proofs.PageNumbers.{all_within, read_within}
use Rattle.queue_core.proofs.PurgeRuns.{untouched}
use Rattle.queue_core.proofs.RowReads.{handed_on}
use Rattle.queue_core.proofs.queue.Queue.take_batch.Goals as goal

-- where no row is unread
pub returns-then-self-eq0-clause-keeps : goal.returns-then-self-eq0-clause-keeps
returns-then-self-eq0-clause-keeps g c = untouched g.S.Store c.args.self.now g.met.S.Store.images_tell c.args.store.now

-- where it fails
pub returns-in_err-read-clause-batch : goal.returns-in_err-read-clause-batch
returns-in_err-read-clause-batch g c = λ told files.
    let q = c.self.inside in
    let v : QueueView = record { folder = q.folder; limits = q.limits; tails = q.tails.items; top = q.top; unread = q.unread; cursor = q.cursor } in
    let old = g.S.Store.seen c.args.store.now in
    let next = c.read_from.new.cursor in
    let names : ℕ → List ℕ = λ n. names_in q.folder (page n) in
    let some : (q.unread == 0) ≡ false = search rules in
    let fault = c.in_err-read.field-0.0 in
    let view : RowsRead → Stand = λ read. stand next.page read.reading in
    let lost = subst (λ (l : List OpenPageView). AreThere names old q.cursor.page q.cursor.block (l ++ q.top ∷ []) → KeptIn q.top (bytes_of (old q.top.file)) q.cursor.kept → Finds view (Err fault) (pages_read old (l ++ q.top ∷ []) (begun c.args.most q.cursor))) c.as_slice-tails.ensures.value (c.in_err-read.ensures.rows names told) in
    let whole = and_then (rows_taken c.args.most old c.args.self.now) (taken_of next c.args.self.now) in
    handed_on _ c.from_residual.result fault whole whole c.from_residual.ensures.1 refl
    (λ other. subst (λ (x : QueueView). IsOfFiles x old → Finds other (Err fault) (and_then (rows_taken c.args.most old x) (taken_of next x))) c.self.view_is
    (λ files. batch_lost c.args.most old v some view other fault next (lost (all_there v q.marks.items q.bytes old c.self.invariant files) (kept_there v q.marks.items q.bytes old c.self.invariant files))) files)

pub returns-in_err-read-clause-keeps : goal.returns-in_err-read-clause-keeps
returns-in_err-read-clause-keeps g c = keeps_taken g.S.Store c.args.store.now c.read_from.new.store c.read_from.ensures.same g.met.S.Store.images_tell c.args.self.now

pub returns-in_err-read-clause-stays : goal.returns-in_err-read-clause-stays
returns-in_err-read-clause-stays g c =
    let q = c.self.inside in
    let v : QueueView = record { folder = q.folder; limits = q.limits; tails = q.tails.items; top = q.top; unread = q.unread; cursor = q.cursor } in
    let old = g.S.Store.seen c.args.store.now in
    let next = c.read_from.new.cursor in
    subst (λ (x : QueueView). Becomes g.S.Store (λ queue. queue) x (record v { cursor = next }) c.args.store.now c.read_from.new.store) c.self.view_is
    (opens_taken g.S.Store c.args.store.now c.read_from.new.store c.read_from.ensures.same v q.unread next
    (λ told queue opens. subst (λ (cursor : CursorView). IsOfFiles (record v { cursor = cursor }) old) (sym c.in_err-read.ensures.err) (files_lost v old next c.in_err-read.ensures.lost (kept_left v q.marks.items q.bytes old next.kept c.self.invariant (c.read_from.ensures.kept (bytes_of (old q.top.file)) (kept_there v q.marks.items q.bytes old c.self.invariant (opens.files told)))) (opens.files told))))

-- where it gives a batch
pub returns-clause-batch : goal.returns-clause-batch
returns-clause-batch g c = λ told files.
    let q = c.self.inside in
    let v : QueueView = record { folder = q.folder; limits = q.limits; tails = q.tails.items; top = q.top; unread = q.unread; cursor = q.cursor } in
    let old = g.S.Store.seen c.args.store.now in
    let next = c.read_from.new.cursor in
    let names : ℕ → List ℕ = λ n. names_in q.folder (page n) in
    let some : (q.unread == 0) ≡ false = search rules in
    let r = c.in_ok-read.read.reading in
    let read = subst (λ (l : List OpenPageView). AreThere names old q.cursor.page q.cursor.block (l ++ q.top ∷ []) → KeptIn q.top (bytes_of (old q.top.file)) q.cursor.kept → pages_read old (l ++ q.top ∷ []) (begun c.args.most q.cursor) ≡ Ok (stand next.page r)) c.as_slice-tails.ensures.value (c.in_ok-read.ensures.rows names told) in
    let unread = ap (λ n. q.unread - n) (sym c.len.ensures) ∙ sym c.saturating_sub-self-inside.ensures in
    let left : behind_take next (stand next.page r) v ≡ record v { unread = c.saturating_sub-self-inside.result; cursor = next } =
    λ i. record v { unread = unread i; cursor = record { page = next.page; number = sym c.in_ok-read.ensures.cursor.0 i; place = sym c.in_ok-read.ensures.cursor.1 i; block = next.block; kept = next.kept } } in
    subst (λ (x : QueueView). IsOfFiles x old → and_then (rows_taken c.args.most old x) (taken_of next x) ≡ Ok (c.batch_of.result, record v { unread = c.saturating_sub-self-inside.result; cursor = next })) c.self.view_is
    (λ files. batch_taken c.args.most old v some (stand next.page r) next c.batch_of.result (record v { unread = c.saturating_sub-self-inside.result; cursor = next })
    (read (all_there v q.marks.items q.bytes old c.self.invariant files) (kept_there v q.marks.items q.bytes old c.self.invariant files)) c.batch_of.ensures left) files

pub returns-clause-unread : goal.returns-clause-unread
returns-clause-unread g c =
    let q = c.self.inside in
    c.saturating_sub-self-inside.ensures ∙ ap (λ n. q.unread - n) (c.len.ensures ∙ sym (rows_in_batch c.in_ok-read.read.reading) ∙ ap rows_in (sym c.batch_of.ensures))
    ∙ ap (λ n. n - rows_in c.batch_of.result) (ap (λ (x : QueueView). x.unread) c.self.view_is)

pub returns-clause-keeps : goal.returns-clause-keeps
returns-clause-keeps g c = keeps_taken g.S.Store c.args.store.now c.read_from.new.store c.read_from.ensures.same g.met.S.Store.images_tell c.args.self.now

pub returns-clause-stays : goal.returns-clause-stays
returns-clause-stays g c =
    let q = c.self.inside in
    let v : QueueView = record { folder = q.folder; limits = q.limits; tails = q.tails.items; top = q.top; unread = q.unread; cursor = q.cursor } in
    let old = g.S.Store.seen c.args.store.now in
    let next = c.read_from.new.cursor in
    let names : ℕ → List ℕ = λ n. names_in q.folder (page n) in
    let unread = c.saturating_sub-self-inside.result in
    subst (λ (x : QueueView). Becomes g.S.Store (λ queue. queue) x (record v { unread = unread; cursor = next }) c.args.store.now c.read_from.new.store) c.self.view_is
    (opens_taken g.S.Store c.args.store.now c.read_from.new.store c.read_from.ensures.same v unread next
    (λ told queue opens.
    let files = opens.files told in
    let there = all_there v q.marks.items q.bytes old c.self.invariant files in
    let kept = kept_there v q.marks.items q.bytes old c.self.invariant files in
    let read = subst (λ (l : List OpenPageView). AreThere names old q.cursor.page q.cursor.block (l ++ q.top ∷ []) → KeptIn q.top (bytes_of (old q.top.file)) q.cursor.kept → pages_read old (l ++ q.top ∷ []) (begun c.args.most q.cursor) ≡ Ok (stand next.page c.in_ok-read.read.reading)) c.as_slice-tails.ensures.value (c.in_ok-read.ensures.rows names told) there kept in
    files_taken v old unread next (subst (λ (l : List OpenPageView). AreThere names old q.cursor.page q.cursor.block (l ++ q.top ∷ []) → WasRead names old q.cursor.page q.cursor.block next.page next.block) c.as_slice-tails.ensures.value (c.in_ok-read.ensures.part names told) there)
    (read_within old v.top.number (v.tails ++ v.top ∷ []) (begun c.args.most q.cursor) (stand next.page c.in_ok-read.read.reading) (all_within v.tails v.top queue.tails queue.top opens.tails opens.top opens.ready.is) files.within read)
    (kept_left v q.marks.items q.bytes old next.kept c.self.invariant (c.read_from.ensures.kept (bytes_of (old q.top.file)) kept)) files))

pub returns-then-self-eq0-clause-beside : goal.returns-then-self-eq0-clause-beside
returns-then-self-eq0-clause-beside g c = (others_stay g.S.Store g.met.S.Store.images_tell (IsOwn (names_in c.args.self.now.folder)) c.args.store.now).reads

pub returns-then-self-eq0-clause-beside_moments : goal.returns-then-self-eq0-clause-beside_moments
returns-then-self-eq0-clause-beside_moments g c = (others_stay g.S.Store g.met.S.Store.images_tell (IsOwn (names_in c.args.self.now.folder)) c.args.store.now).moments

pub returns-in_err-read-clause-beside : goal.returns-in_err-read-clause-beside
returns-in_err-read-clause-beside g c = (others_looked g.S.Store g.met.S.Store.images_tell (IsOwn (names_in c.args.self.now.folder)) c.args.store.now c.read_from.new.store c.read_from.ensures.same).reads

pub returns-in_err-read-clause-beside_moments : goal.returns-in_err-read-clause-beside_moments
returns-in_err-read-clause-beside_moments g c = (others_looked g.S.Store g.met.S.Store.images_tell (IsOwn (names_in c.args.self.now.folder)) c.args.store.now c.read_from.new.store c.read_from.ensures.same).moments

pub returns-clause-beside : goal.returns-clause-beside
returns-clause-beside g c = (others_looked g.S.Store g.met.S.Store.images_tell (IsOwn (names_in c.args.self.now.folder)) c.args.store.now c.read_from.new.store c.read_from.ensures.same).reads

pub returns-clause-beside_moments : goal.returns-clause-beside_moments
returns-clause-beside_moments g c = (others_looked g.S.Store g.met.S.Store.images_tell (IsOwn (names_in c.args.self.now.folder)) c.args.store.now c.read_from.new.store c.read_from.ensures.same).moments
