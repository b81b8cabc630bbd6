use Rattle.std.proofs.Common.{◌≡◌, List, sym, ap, ◌∙◌, subst}
use Rattle.queue_files.specs.declared.marking.Mark.{Mark}
use Rattle.queue_files.specs.Folders.{IsOwn, names_in}
use Rattle.queue_files.specs.Others.{KeepsOthers}
use Rattle.queue_files.specs.Steps.{marked}
use Rattle.queue_core.specs.Calls.{IsHeldQueue, behind_mark, marks_of}
use Rattle.queue_core.specs.Opens.{Becomes, IsReady, KeepsQueue}
use Rattle.queue_core.specs.Views.{OpenPageView, QueueView}
use Rattle.queue_core.proofs.HeldQueues.{marked_held, marks_held, view}
use Rattle.queue_core.proofs.MarkRuns.{becomes_marked, can_given, keeps_marked, ready_marked}
use Rattle.queue_core.proofs.OwnFiles.{marks_are_own}
use Rattle.queue_core.proofs.queue.Queue.mark.Goals as goal
use Rattle.queue_core.proofs.queue.Queue.mark.Goals.{After-mark_pages}

pub invariant_of-self : goal.invariant_of-self
invariant_of-self g c =
    let q = c.self.inside in
    let v = view q in
    let are = c.set_marks.ensures ∙ ap (λ (l : List OpenPageView). marks_of l q.top q.marks.items) c.as_slice.ensures.value in
    subst (λ (ms : List Mark). IsHeldQueue v ms q.bytes) (sym are) (marks_held v q.marks.items q.bytes c.self.invariant)

pub invariant_of-self-2 : goal.invariant_of-self-2
invariant_of-self-2 g c =
    let q = c.self.inside in
    let v = view q in
    let are = c.set_marks.ensures ∙ ap (λ (l : List OpenPageView). marks_of l q.top q.marks.items) c.as_slice.ensures.value in
    subst (λ (x : QueueView). IsHeldQueue x c.set_marks.new.marks.items q.bytes) (λ i. record v { tails = sym c.mark_all.ensures i; top = sym c.record.ensures i })
    (subst (λ (ms : List Mark). IsHeldQueue (behind_mark v) ms q.bytes) (sym are) (marked_held v q.marks.items q.bytes c.self.invariant))

pub mark_pages-requires : goal.mark_pages-requires
mark_pages-requires g c =
    let q = c.self.inside in
    let v = view q in
    let are = c.as_slice-2.ensures.value ∙ c.set_marks.ensures ∙ ap (λ (l : List OpenPageView). marks_of l q.top q.marks.items) c.as_slice.ensures.value in
    can_given g.S.Store v q.marks.items c.args.store.now c.args.store.now c.self.invariant.marks_are c.as_slice-2.result.now are (subst (λ (x : QueueView). IsReady g.S.Store x c.args.store.now) (sym c.self.view_is) c.requires)

-- the marks that the call of `mark_pages` is given, and what it leaves of the queue and of other files
are : (g : _) (c : goal.After-mark_pages g) → c.as_slice-2.result.now ≡ marks_of c.self.inside.tails.items c.self.inside.top c.self.inside.marks.items
are g c = c.as_slice-2.ensures.value ∙ c.set_marks.ensures ∙ ap (λ (l : List OpenPageView). marks_of l c.self.inside.top c.self.inside.marks.items) c.as_slice.ensures.value

keeps : (g : _) (c : goal.After-mark_pages g) → KeepsQueue g.S.Store c.args.self.now c.args.store.now c.mark_pages.new.store
keeps g c =
    subst (λ (x : QueueView). KeepsQueue g.S.Store x c.args.store.now c.mark_pages.new.store) c.self.view_is
    (keeps_marked g.S.Store (view c.self.inside) c.self.inside.marks.items c.args.store.now c.mark_pages.new.store c.self.invariant.marks_are c.as_slice-2.result.now (are g c) c.mark_pages.ensures.keeps)

others : (g : _) (c : goal.After-mark_pages g) → KeepsOthers g.S.Store (IsOwn (names_in c.args.self.now.folder)) c.args.store.now c.mark_pages.new.store
others g c =
    subst (λ (x : QueueView). KeepsOthers g.S.Store (IsOwn (names_in x.folder)) c.args.store.now c.mark_pages.new.store) c.self.view_is
    (marks_are_own g.S.Store g.met.S.Store.images_tell (view c.self.inside) c.as_slice-2.result.now c.args.store.now c.mark_pages.new.store c.self.inside.marks.items c.self.invariant.marks_are (are g c) c.mark_pages.ensures.beside)

pub returns-in_err-mark_pages-clause-keeps : goal.returns-in_err-mark_pages-clause-keeps
returns-in_err-mark_pages-clause-keeps g c = keeps g (goal.at.returns-in_err-mark_pages-clause-keeps g c).After-mark_pages

pub returns-clause-keeps : goal.returns-clause-keeps
returns-clause-keeps g c = keeps g (goal.at.returns-clause-keeps g c).After-mark_pages

pub returns-clause-ready : goal.returns-clause-ready
returns-clause-ready g c =
    let q = c.self.inside in
    let v = view q in
    let given = are g (goal.at.returns-clause-ready g c).After-mark_pages in
    subst (λ (x : QueueView). IsReady g.S.Store x c.mark_pages.new.store) (λ i. record v { tails = sym c.mark_all.ensures i; top = sym c.record.ensures i })
    (ready_marked g.S.Store v q.marks.items c.args.store.now c.mark_pages.new.store c.self.invariant.marks_are c.as_slice-2.result.now given
    (subst (λ (x : QueueView). IsReady g.S.Store x c.args.store.now) (sym c.self.view_is) c.requires) c.in_ok-mark_pages.ensures.settled)

pub returns-clause-records : goal.returns-clause-records
returns-clause-records g c =
    let q = c.self.inside in
    let v = view q in
    let given = are g (goal.at.returns-clause-records g c).After-mark_pages in
    let new : behind_mark v ≡ record v { tails = c.mark_all.new.tails.items; top = c.record.new.self } = λ i. record v { tails = sym c.mark_all.ensures i; top = sym c.record.ensures i } in
    subst (λ (x : QueueView). Becomes g.S.Store marked x (record v { tails = c.mark_all.new.tails.items; top = c.record.new.self }) c.args.store.now c.mark_pages.new.store) c.self.view_is
    (subst (λ (x : QueueView). Becomes g.S.Store marked v x c.args.store.now c.mark_pages.new.store) new
    (becomes_marked g.S.Store v q.marks.items c.args.store.now c.mark_pages.new.store c.self.invariant.marks_are c.as_slice-2.result.now given
    (subst (λ (x : QueueView). IsReady g.S.Store x c.args.store.now) (sym c.self.view_is) c.requires) c.in_ok-mark_pages.ensures.settled c.in_ok-mark_pages.ensures.records))

pub returns-in_err-mark_pages-clause-beside : goal.returns-in_err-mark_pages-clause-beside
returns-in_err-mark_pages-clause-beside g c = (others g (goal.at.returns-in_err-mark_pages-clause-beside g c).After-mark_pages).reads

pub returns-in_err-mark_pages-clause-beside_moments : goal.returns-in_err-mark_pages-clause-beside_moments
returns-in_err-mark_pages-clause-beside_moments g c = (others g (goal.at.returns-in_err-mark_pages-clause-beside_moments g c).After-mark_pages).moments

pub returns-clause-beside : goal.returns-clause-beside
returns-clause-beside g c = (others g (goal.at.returns-clause-beside g c).After-mark_pages).reads

pub returns-clause-beside_moments : goal.returns-clause-beside_moments
returns-clause-beside_moments g c = (others g (goal.at.returns-clause-beside_moments g c).After-mark_pages).moments
