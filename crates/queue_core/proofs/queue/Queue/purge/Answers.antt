use Rattle.std.proofs.Common.{◌≡◌, ◌-◌, ℕ, List, None, Some, remove, sym, ap, ◌∙◌, subst, arith}
use Rattle.io_traits.specs.declared.pages.PageState.{PageState}
use Rattle.queue_files.specs.Folders.{page, checkpoint, IsOwn, names_in}
use Rattle.queue_files.specs.Others.{KeepsOthers}
use Rattle.queue_files.proofs.OtherFiles.{files_are_own, others_stay}
use Rattle.queue_files.specs.declared.marking.Mark.{Mark}
use Rattle.queue_core.specs.Calls.{IsHeldQueue, behind_purge, first_spent, spent_from, without_spent}
use Rattle.queue_core.specs.Opens.{Becomes, IsReady, KeepsQueue, purged}
use Rattle.queue_core.specs.Views.{OpenPageView, QueueView}
use Rattle.queue_core.proofs.HeldQueues.{long_named, purged_held, view}
use Rattle.queue_core.proofs.PurgeRuns.{Goes, file_at, goes_at, keeps_open, none_goes, opens_left, ready_left, slots_at, stays_open, untouched}
use Rattle.queue_core.proofs.queue.Queue.purge.Goals as goal
use Rattle.queue_core.proofs.queue.Queue.purge.Goals.{In_default, In-Some, After-remove_page}

-- where none goes
none : (g : _) (c : goal.In_default g) → (first_spent c.self.inside.tails.items ≡ None) × (without_spent c.self.inside.tails.items ≡ c.self.inside.tails.items)
none g c = none_goes 0 c.self.inside.tails.items (sym (ap (spent_from 0) c.as_slice.ensures.value) ∙ sym c.first_spent.ensures ∙ c.in_default.is)

pub returns-in_default-clause-number : goal.returns-in_default-clause-number
returns-in_default-clause-number g c = sym (none g (goal.at.returns-in_default-clause-number g c).In_default).0 ∙ ap (λ (x : QueueView). first_spent x.tails) c.self.view_is

pub returns-in_default-clause-purged : goal.returns-in_default-clause-purged
returns-in_default-clause-purged g c =
    sym c.self.view_is ∙ (λ i. record (view c.self.inside) { tails = sym (none g (goal.at.returns-in_default-clause-purged g c).In_default).1 i }) ∙ ap behind_purge c.self.view_is

pub returns-in_default-clause-keeps : goal.returns-in_default-clause-keeps
returns-in_default-clause-keeps g c =
    subst (λ (x : QueueView). KeepsQueue g.S.Store x c.args.store.now c.args.store.now) c.self.view_is (untouched g.S.Store (view c.self.inside) g.met.S.Store.images_tell c.args.store.now)

pub returns-in_default-clause-removes : goal.returns-in_default-clause-removes
returns-in_default-clause-removes g c =
    let v = view c.self.inside in
    let n = none g (goal.at.returns-in_default-clause-removes g c).In_default in
    subst (λ (x : QueueView). Becomes g.S.Store purged x x c.args.store.now c.args.store.now) c.self.view_is
    (subst (λ (l : List OpenPageView). Becomes g.S.Store purged v (record v { tails = l }) c.args.store.now c.args.store.now) n.1 (stays_open g.S.Store v c.args.store.now n.0 n.1))

-- where one goes
goes : (g : _) (c : goal.In-Some g) → (o : OpenPageView) × Goes c.self.inside.tails.items c.in-Some.place o
goes g c = goes_at c.self.inside.tails.items c.in-Some.place (sym (ap (spent_from 0) c.as_slice.ensures.value) ∙ sym c.first_spent.ensures ∙ c.in-Some.is)

pub index-requires : goal.index-requires
index-requires g c = omega (arith, (goes g (goal.at.index-requires g c).In-Some).1.within)

pub index-requires-2 : goal.index-requires-2
index-requires-2 g c =
    let q = c.self.inside in
    omega (arith, (goes g (goal.at.index-requires-2 g c).In-Some).1.within, long_named q.folder q.tails.items q.marks.items c.self.invariant.marks_are)

pub remove-page-requires : goal.remove-page-requires
remove-page-requires g c = omega (arith, (goes g (goal.at.remove-page-requires g c).In-Some).1.within)

-- the page that goes, and its two files
record Leaves (v : QueueView) (place : ℕ) (file slots : List ℕ) : Type 0 where
  o : OpenPageView
  goes : Goes v.tails place o
  file_is : file ≡ names_in v.folder (page o.number)
  slots_are : slots ≡ names_in v.folder (checkpoint o.number)

leaves : (g : _) (c : goal.After-remove_page g) → Leaves (view c.self.inside) c.in-Some.place c.as_str-page.result.now c.as_str.result.now
leaves g c =
    let q = c.self.inside in
    let goes = goes_at q.tails.items c.in-Some.place (sym (ap (spent_from 0) c.as_slice.ensures.value) ∙ sym c.first_spent.ensures ∙ c.in-Some.is) in
    let there = goes.1.there c.index.result.now c.index.ensures in
    record {
      o = goes.0;
      goes = goes.1;
      file_is = c.as_str-page.ensures ∙ ap (λ (x : OpenPageView). x.file) c.behind-self.view_is ∙ file_at q.folder q.tails.items c.in-Some.place c.index.result.now goes.1.within c.index.ensures c.self.invariant.tails
          ∙ ap (λ (x : OpenPageView). names_in q.folder (page x.number)) there;
      slots_are = c.as_str.ensures ∙ slots_at q.folder q.tails.items q.marks.items c.in-Some.place c.index.result.now c.index-2.result.now goes.1.within c.index.ensures c.index-2.ensures c.self.invariant.marks_are
          ∙ ap (λ (x : OpenPageView). names_in q.folder (checkpoint x.number)) there;
    }

keeps : (g : _) (c : goal.After-remove_page g) → KeepsQueue g.S.Store c.args.self.now c.args.store.now c.remove_page.new.store
keeps g c =
    let l = leaves g c in
    subst (λ (x : QueueView). KeepsQueue g.S.Store x c.args.store.now c.remove_page.new.store) c.self.view_is
    (keeps_open g.S.Store (view c.self.inside) c.args.store.now c.remove_page.new.store c.as_str-page.result.now c.as_str.result.now l.o.number l.goes.number l.file_is l.slots_are c.remove_page.ensures.keeps)

others : (g : _) (c : goal.After-remove_page g) → KeepsOthers g.S.Store (IsOwn (names_in c.args.self.now.folder)) c.args.store.now c.remove_page.new.store
others g c =
    let l = leaves g c in
    subst (λ (x : QueueView). KeepsOthers g.S.Store (IsOwn (names_in x.folder)) c.args.store.now c.remove_page.new.store) c.self.view_is
    (files_are_own g.S.Store g.met.S.Store.images_tell c.self.inside.folder (page l.o.number) (checkpoint l.o.number) c.as_str-page.result.now c.as_str.result.now c.args.store.now c.remove_page.new.store l.file_is l.slots_are c.remove_page.ensures.beside)

pub returns-in_err-remove_page-clause-keeps : goal.returns-in_err-remove_page-clause-keeps
returns-in_err-remove_page-clause-keeps g c = keeps g (goal.at.returns-in_err-remove_page-clause-keeps g c).After-remove_page

pub returns-clause-keeps : goal.returns-clause-keeps
returns-clause-keeps g c = keeps g (goal.at.returns-clause-keeps g c).After-remove_page

pub overflow_sub-self : goal.overflow_sub-self
overflow_sub-self g c =
    let l = leaves g (goal.at.overflow_sub-self g c).After-remove_page in
    let gone = l.goes.there c.remove-page.result c.remove-page.ensures.value in
    omega (arith, c.self.invariant.bytes_are, l.goes.bytes, ap (λ (x : OpenPageView). x.page.state.length) gone, ap (λ (x : PageState). x.length) c.state.ensures, c.from.ensures)

pub invariant_of-self : goal.invariant_of-self
invariant_of-self g c =
    let q = c.self.inside in
    let v = view q in
    let l = leaves g (goal.at.invariant_of-self g c).After-remove_page in
    let gone = l.goes.there c.remove-page.result c.remove-page.ensures.value in
    let held = purged_held v q.marks.items q.bytes c.in-Some.place l.o l.goes c.self.invariant in
    let bytes : q.bytes - l.o.page.state.length ≡ q.bytes - c.from.result = omega (arith, ap (λ (x : OpenPageView). x.page.state.length) gone, ap (λ (x : PageState). x.length) c.state.ensures, c.from.ensures) in
    subst (λ (l : List OpenPageView). IsHeldQueue (record v { tails = l }) c.remove.new.self.items (q.bytes - c.from.result)) (sym (c.remove-page.ensures.items ∙ l.goes.left))
    (subst (λ (ms : List Mark). IsHeldQueue (behind_purge v) ms (q.bytes - c.from.result)) (sym c.remove.ensures.items) (subst (IsHeldQueue (behind_purge v) (remove q.marks.items c.in-Some.place)) bytes held))

pub returns-clause-number : goal.returns-clause-number
returns-clause-number g c =
    let l = leaves g (goal.at.returns-clause-number g c).After-remove_page in
    let gone = l.goes.there c.remove-page.result c.remove-page.ensures.value in
    ap (λ (x : OpenPageView). Some x.number) c.page.view_is ∙ ap (λ (x : OpenPageView). Some x.number) gone ∙ sym l.goes.number ∙ ap (λ (x : QueueView). first_spent x.tails) c.self.view_is

pub returns-clause-purged : goal.returns-clause-purged
returns-clause-purged g c =
    let left = c.remove-page.ensures.items ∙ (leaves g (goal.at.returns-clause-purged g c).After-remove_page).goes.left in
    (λ i. record (view c.self.inside) { tails = left i }) ∙ ap behind_purge c.self.view_is

pub returns-clause-ready : goal.returns-clause-ready
returns-clause-ready g c =
    let v = view c.self.inside in
    let l = leaves g (goal.at.returns-clause-ready g c).After-remove_page in
    subst (λ (l : List OpenPageView). IsReady g.S.Store (record v { tails = l }) c.remove_page.new.store) (sym (c.remove-page.ensures.items ∙ l.goes.left))
    (ready_left g.S.Store v c.args.store.now c.remove_page.new.store c.as_str-page.result.now c.as_str.result.now l.o.number l.goes.number l.file_is l.slots_are c.remove_page.ensures.beside.reads (subst (λ (x : QueueView). IsReady g.S.Store x c.args.store.now) (sym c.self.view_is) c.requires))

pub returns-clause-removes : goal.returns-clause-removes
returns-clause-removes g c =
    let v = view c.self.inside in
    let l = leaves g (goal.at.returns-clause-removes g c).After-remove_page in
    subst (λ (x : QueueView). Becomes g.S.Store purged x (record v { tails = c.remove-page.new.self.items }) c.args.store.now c.remove_page.new.store) c.self.view_is
    (subst (λ (l : List OpenPageView). Becomes g.S.Store purged v (record v { tails = l }) c.args.store.now c.remove_page.new.store) (sym (c.remove-page.ensures.items ∙ l.goes.left))
    (opens_left g.S.Store v c.args.store.now c.remove_page.new.store c.as_str-page.result.now c.as_str.result.now l.o.number l.goes.number l.file_is l.slots_are c.remove_page.ensures.beside.reads (subst (λ (x : QueueView). IsReady g.S.Store x c.args.store.now) (sym c.self.view_is) c.requires) c.in_ok-remove_page.ensures.ready))

pub returns-in_default-clause-beside : goal.returns-in_default-clause-beside
returns-in_default-clause-beside g c = (others_stay g.S.Store g.met.S.Store.images_tell (IsOwn (names_in c.args.self.now.folder)) c.args.store.now).reads

pub returns-in_default-clause-beside_moments : goal.returns-in_default-clause-beside_moments
returns-in_default-clause-beside_moments g c = (others_stay g.S.Store g.met.S.Store.images_tell (IsOwn (names_in c.args.self.now.folder)) c.args.store.now).moments

pub returns-in_err-remove_page-clause-beside : goal.returns-in_err-remove_page-clause-beside
returns-in_err-remove_page-clause-beside g c = (others g (goal.at.returns-in_err-remove_page-clause-beside g c).After-remove_page).reads

pub returns-in_err-remove_page-clause-beside_moments : goal.returns-in_err-remove_page-clause-beside_moments
returns-in_err-remove_page-clause-beside_moments g c = (others g (goal.at.returns-in_err-remove_page-clause-beside_moments g c).After-remove_page).moments

pub returns-clause-beside : goal.returns-clause-beside
returns-clause-beside g c = (others g (goal.at.returns-clause-beside g c).After-remove_page).reads

pub returns-clause-beside_moments : goal.returns-clause-beside_moments
returns-clause-beside_moments g c = (others g (goal.at.returns-clause-beside_moments g c).After-remove_page).moments
