use Rattle.std.proofs.Common.{◌≡◌, ◌+◌, ◌-◌, ◌<◌, ◌^◌, ◌++◌, ◌∷◌, [], ℕ, suc, false, List, length, map, refl, sym, ◌∙◌, ap, subst, arith}
use Rattle.std.specs.List.{insert}
use Rattle.std.proofs.Math.Path.{ap₂}
use Rattle.queue_files.specs.Folders.{IsOwn, names_in}
use Rattle.queue_files.specs.Others.{KeepsOthers}
use Rattle.queue_files.proofs.OtherFiles.{others_stay}
use Rattle.queue_files.specs.declared.marking.Mark.{Mark}
use Rattle.queue_files.specs.declared.rolling.NextPage.{NextPage}
use Rattle.queue_core.specs.Calls.{behind_mark, bytes_in, checkpoints, end_of, marks_of, with_marked, with_recorded, IsHeldQueue}
use Rattle.queue_core.specs.Opens.{IsReady}
use Rattle.queue_core.specs.Views.{OpenPageView, QueueView}
use Rattle.queue_core.specs.Writing.{behind_append, behind_roll, next_page, row_behind, sealed, Begun, HasFrame, IsPlan, KeepsRow}
use Rattle.queue_core.proofs.GrownQueues.{begun_top, reserved_held, rolled_held, some_marks, still_held}
use Rattle.queue_core.proofs.HeldQueues.{view}
use Rattle.queue_core.proofs.OwnFiles.{plan_is_own}
use Rattle.queue_core.proofs.WriteRuns.{untouched_either}
use Rattle.queue_core.proofs.queue.Queue.roll.Goals as goal
use Rattle.queue_core.proofs.queue.Queue.roll.Goals.{After-reserve-2, After-begin-begun}

-- what a new page is begun with, as the view says that the caller sees
planned : (v seen : QueueView) (given marks : List Mark) (next : NextPage) → v ≡ seen → map (λ (m : Mark). m.file) given ≡ checkpoints v → marks ≡ marks_of v.tails v.top given → next ≡ next_page v.folder (with_recorded v.top)
    → suc seen.top.number < 2 ^ 32 - 1 → end_of seen.top < 2 ^ 63 - 1 → IsPlan v marks next
planned v seen given marks next is named marks_are next_is number fits = record {
  given = given;
  named = named;
  marks_are = marks_are;
  next_is = next_is;
  number = subst (λ (x : QueueView). suc x.top.number < 2 ^ 32 - 1) (sym is) number;
  fits = subst (λ (x : QueueView). end_of x.top < 2 ^ 63 - 1) (sym is) fits;
}

pub returns-in_err-acknowledged-clause-keeps : goal.returns-in_err-acknowledged-clause-keeps
returns-in_err-acknowledged-clause-keeps g c origin event framed = untouched_either g.S.Store g.met.S.Store.images_tell (row_behind c.args.self.now origin event) c.args.self.now c.args.store.now

pub returns-in_err-reserve-clause-keeps : goal.returns-in_err-reserve-clause-keeps
returns-in_err-reserve-clause-keeps g c origin event framed = untouched_either g.S.Store g.met.S.Store.images_tell (row_behind c.args.self.now origin event) c.args.self.now c.args.store.now

pub returns-in_err-reserve-2-clause-keeps : goal.returns-in_err-reserve-2-clause-keeps
returns-in_err-reserve-2-clause-keeps g c origin event framed = untouched_either g.S.Store g.met.S.Store.images_tell (row_behind c.args.self.now origin event) c.args.self.now c.args.store.now

pub returns-in_err-next-clause-keeps : goal.returns-in_err-next-clause-keeps
returns-in_err-next-clause-keeps g c origin event framed = untouched_either g.S.Store g.met.S.Store.images_tell (row_behind c.args.self.now origin event) c.args.self.now c.args.store.now

-- the marks that are kept once there is room
are : (g : _) (c : goal.After-reserve-2 g) → c.reserve-2.new.self.items ≡ marks_of c.self.inside.tails.items c.self.inside.top c.self.inside.marks.items
are g c = c.reserve-2.ensures.items ∙ c.set_marks.ensures ∙ ap (λ (l : List OpenPageView). marks_of l c.self.inside.top c.self.inside.marks.items) (c.as_slice.ensures.value ∙ c.reserve.ensures.items)

held : (g : _) (c : goal.After-reserve-2 g) → IsHeldQueue (record (view c.self.inside) { tails = c.reserve.new.self.items }) c.reserve-2.new.self.items c.self.inside.bytes
held g c = let q = c.self.inside in reserved_held (view q) q.marks.items c.reserve-2.new.self.items q.bytes c.reserve.new.self.items c.reserve.ensures.items (are g c) c.self.invariant

pub invariant_of-self-in_err-reserve-2 : goal.invariant_of-self-in_err-reserve-2
invariant_of-self-in_err-reserve-2 g c = held g (goal.at.invariant_of-self-in_err-reserve-2 g c).After-reserve-2

pub invariant_of-self-in_err-next : goal.invariant_of-self-in_err-next
invariant_of-self-in_err-next g c = held g (goal.at.invariant_of-self-in_err-next g c).After-reserve-2

pub invariant_of-self-in_err-page : goal.invariant_of-self-in_err-page
invariant_of-self-in_err-page g c = held g (goal.at.invariant_of-self-in_err-page g c).After-reserve-2

pub add_mark-requires-clause-some : goal.add_mark-requires-clause-some
add_mark-requires-clause-some g c =
    let q = c.self.inside in
    let v = view q in
    let are_marks = are g (goal.at.add_mark-requires-clause-some g c).After-reserve-2 in
    some_marks v q.marks.items c.reserve-2.new.self.items q.bytes are_marks c.self.invariant

pub begin-begun-requires-clause-plan : goal.begin-begun-requires-clause-plan
begin-begun-requires-clause-plan g c =
    let q = c.self.inside in
    let v = view q in
    let are_marks = are g (goal.at.begin-begun-requires-clause-plan g c).After-reserve-2 in
    let next_is : c.in_ok-next.next ≡ next_page q.folder (with_recorded q.top) = c.in_ok-next.ensures ∙ ap (λ (f : List ℕ). next_page f (with_recorded q.top)) c.as_str.ensures in
    let plan = planned v c.args.self.now q.marks.items c.as_slice-2.result.now c.in_ok-next.next c.self.view_is c.self.invariant.marks_are (c.as_slice-2.ensures.value ∙ are_marks) next_is c.requires.page c.requires.fits in
    let ready = subst (λ (x : QueueView). IsReady g.S.Store x c.args.store.now) (sym c.self.view_is) c.requires.ready in
    (v, record { plan = plan; ready = ready; framed = subst (λ (x : QueueView). HasFrame (end_of x.top) c.args.frame.now) (sym c.self.view_is) c.requires.frame })

-- the page that is begun, and what the call leaves of the queue and of other files
plan : (g : _) (c : goal.After-begin-begun g) → IsPlan (view c.self.inside) c.as_slice-2.result.now c.in_ok-next.next
plan g c =
    let q = c.self.inside in
    let v = view q in
    let are_marks = c.as_slice-2.ensures.value ∙ c.reserve-2.ensures.items ∙ c.set_marks.ensures ∙ ap (λ (l : List OpenPageView). marks_of l q.top q.marks.items) (c.as_slice.ensures.value ∙ c.reserve.ensures.items) in
    let next_is : c.in_ok-next.next ≡ next_page q.folder (with_recorded q.top) = c.in_ok-next.ensures ∙ ap (λ (f : List ℕ). next_page f (with_recorded q.top)) c.as_str.ensures in
    planned v c.args.self.now q.marks.items c.as_slice-2.result.now c.in_ok-next.next c.self.view_is c.self.invariant.marks_are are_marks next_is c.requires.page c.requires.fits

ready : (g : _) (c : goal.After-begin-begun g) → IsReady g.S.Store (view c.self.inside) c.args.store.now
ready g c = subst (λ (x : QueueView). IsReady g.S.Store x c.args.store.now) (sym c.self.view_is) c.requires.ready

keeps : (g : _) (c : goal.After-begin-begun g) → KeepsRow g.S.Store row_behind c.args.self.now c.args.frame.now c.args.store.now c.begin-begun.new.store
keeps g c = subst (λ (x : QueueView). KeepsRow g.S.Store row_behind x c.args.frame.now c.args.store.now c.begin-begun.new.store) c.self.view_is (c.begin-begun.ensures.keeps (view c.self.inside) (plan g c) (ready g c))

others : (g : _) (c : goal.After-begin-begun g) → KeepsOthers g.S.Store (IsOwn (names_in c.args.self.now.folder)) c.args.store.now c.begin-begun.new.store
others g c =
    subst (λ (x : QueueView). KeepsOthers g.S.Store (IsOwn (names_in x.folder)) c.args.store.now c.begin-begun.new.store) c.self.view_is
    (plan_is_own g.S.Store g.met.S.Store.images_tell (view c.self.inside) c.as_slice-2.result.now c.args.store.now c.begin-begun.new.store c.in_ok-next.next (plan g c) c.begin-begun.ensures.beside)

pub returns-in_err-page-clause-keeps : goal.returns-in_err-page-clause-keeps
returns-in_err-page-clause-keeps g c = keeps g (goal.at.returns-in_err-page-clause-keeps g c).After-begin-begun

pub returns-clause-keeps : goal.returns-clause-keeps
returns-clause-keeps g c = keeps g (goal.at.returns-clause-keeps g c).After-begin-begun

pub returns-clause-adds : goal.returns-clause-adds
returns-clause-adds g c =
    let begun = (goal.at.returns-clause-adds g c).After-begin-begun in
    subst (λ (x : QueueView). Begun g.S.Store x c.args.frame.now c.args.store.now c.begin-begun.new.store) c.self.view_is (c.in_ok-page.ensures.adds (view c.self.inside) (plan g begun) (ready g begun))

pub invariant_of-self-2 : goal.invariant_of-self-2
invariant_of-self-2 g c =
    let q = c.self.inside in
    let v = view q in
    let are_marks = are g (goal.at.invariant_of-self-2 g c).After-reserve-2 in
    let n = length c.args.frame.now in
    let next = c.in_ok-next.next in
    let next_is : next ≡ next_page q.folder (with_recorded q.top) = c.in_ok-next.ensures ∙ ap (λ (f : List ℕ). next_page f (with_recorded q.top)) c.as_str.ensures in
    let m : Mark = record { file = next.checkpoint; turn = 0; state = next.sealed; due = false } in
    let tails : c.add_tail.new.tails.items ≡ map with_marked q.tails.items ++ sealed (with_recorded q.top) ∷ [] =
    c.add_tail.ensures ∙ ap₂ (λ (l : List OpenPageView) (o : OpenPageView). map with_marked l ++ o ∷ []) c.reserve.ensures.items c.replace_top-old.ensures.old in
    let top : c.replace_top-old.new.top ≡ begun_top n (next_page q.folder (with_recorded q.top)) =
    c.replace_top-old.ensures.next ∙ (λ i. record { number = next.state.page; file = next.file; page = c.in_ok-page.ensures.page i; acknowledged = c.in_ok-acknowledged.ensures i; from = next.state.least; turn = next.turn })
    ∙ ap (begun_top n) next_is in
    let marks : c.add_mark.new.marks.items ≡ insert (marks_of q.tails.items q.top q.marks.items) (length (marks_of q.tails.items q.top q.marks.items) - 1) m = c.add_mark.ensures ∙ ap (λ (l : List Mark). insert l (length l - 1) m) are_marks in
    let bytes : q.bytes + (n + 1) ≡ c.bytes_with-bytes.result = omega (arith, c.bytes_with-bytes.ensures, c.self.invariant.bytes_are, ap bytes_in c.self.view_is) in
    let held = rolled_held v q.marks.items q.bytes n m (ap (λ (x : NextPage). x.checkpoint) next_is) c.self.invariant in
    subst (IsHeldQueue (record v { tails = c.add_tail.new.tails.items; top = c.replace_top-old.new.top; unread = c.saturating_add-unread.result }) c.add_mark.new.marks.items) bytes
    (subst (λ (ms : List Mark). IsHeldQueue (record v { tails = c.add_tail.new.tails.items; top = c.replace_top-old.new.top; unread = c.saturating_add-unread.result }) ms (q.bytes + (n + 1))) (sym marks)
    (still_held (behind_append n (behind_roll (behind_mark v))) (record v { tails = c.add_tail.new.tails.items; top = c.replace_top-old.new.top; unread = c.saturating_add-unread.result })
    (insert (marks_of q.tails.items q.top q.marks.items) (length (marks_of q.tails.items q.top q.marks.items) - 1) m) (q.bytes + (n + 1)) refl tails top held))

pub returns-in_err-acknowledged-clause-beside : goal.returns-in_err-acknowledged-clause-beside
returns-in_err-acknowledged-clause-beside g c = others_stay g.S.Store g.met.S.Store.images_tell (IsOwn (names_in c.args.self.now.folder)) c.args.store.now

pub returns-in_err-reserve-clause-beside : goal.returns-in_err-reserve-clause-beside
returns-in_err-reserve-clause-beside g c = others_stay g.S.Store g.met.S.Store.images_tell (IsOwn (names_in c.args.self.now.folder)) c.args.store.now

pub returns-in_err-reserve-2-clause-beside : goal.returns-in_err-reserve-2-clause-beside
returns-in_err-reserve-2-clause-beside g c = others_stay g.S.Store g.met.S.Store.images_tell (IsOwn (names_in c.args.self.now.folder)) c.args.store.now

pub returns-in_err-next-clause-beside : goal.returns-in_err-next-clause-beside
returns-in_err-next-clause-beside g c = others_stay g.S.Store g.met.S.Store.images_tell (IsOwn (names_in c.args.self.now.folder)) c.args.store.now

pub returns-in_err-page-clause-beside : goal.returns-in_err-page-clause-beside
returns-in_err-page-clause-beside g c = others g (goal.at.returns-in_err-page-clause-beside g c).After-begin-begun

pub returns-clause-beside : goal.returns-clause-beside
returns-clause-beside g c = others g (goal.at.returns-clause-beside g c).After-begin-begun
