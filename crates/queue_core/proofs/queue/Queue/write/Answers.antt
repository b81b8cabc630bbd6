use Rattle.std.proofs.Common.{◌≡◌, ◌++◌, [], ℕ, Bool, List, sym, ◌∙◌, ap, subst}
use Rattle.crc_frame.specs.Frames.{frame_of}
use Rattle.element_code.specs.RowBodies.{row_spelling}
use Rattle.event_tree.specs.Events.{Ev}
use Rattle.queue_files.specs.Folders.{IsOwn, names_in}
use Rattle.queue_files.proofs.OtherFiles.{others_stay}
use Rattle.queue_core.specs.Calls.{end_of}
use Rattle.queue_core.specs.Opens.{Becomes}
use Rattle.queue_core.specs.Views.{QueueView}
use Rattle.queue_core.specs.Writing.{frame_size, needs_page, with_written, written, IsFrame, KeepsEither}
use Rattle.queue_core.proofs.WriteRuns.{untouched_either}
use Rattle.queue_core.proofs.queue.Queue.write.Goals as goal
use Rattle.queue_core.proofs.queue.Queue.write.Goals.{After-put}

-- the bytes that a row was framed to, behind none, are its element where the head page ends
framed : (origin : List ℕ) (event : Ev) (number end : ℕ) (none bytes : List ℕ) → none ≡ [] → bytes ≡ none ++ frame_of number (row_spelling origin event) → IsFrame number origin event (frame_of number (row_spelling origin event))
    → number ≡ end → IsFrame end origin event bytes
framed origin event number end none bytes empty is made ends =
    let frame = frame_of number (row_spelling origin event) in
    subst (λ (n : ℕ). IsFrame n origin event bytes) ends (subst (IsFrame number origin event) (sym (is ∙ ap (λ (l : List ℕ). l ++ frame) empty)) made)

pub returns-then-is_spent_with-clause-keeps : goal.returns-then-is_spent_with-clause-keeps
returns-then-is_spent_with-clause-keeps g c = untouched_either g.S.Store g.met.S.Store.images_tell (with_written c.args.self.now c.args.origin.now c.args.event.now) c.args.self.now c.args.store.now

pub returns-then-is_full-clause-keeps : goal.returns-then-is_full-clause-keeps
returns-then-is_full-clause-keeps g c = untouched_either g.S.Store g.met.S.Store.images_tell (with_written c.args.self.now c.args.origin.now c.args.event.now) c.args.self.now c.args.store.now

pub returns-in_err-frame_row-clause-keeps : goal.returns-in_err-frame_row-clause-keeps
returns-in_err-frame_row-clause-keeps g c = untouched_either g.S.Store g.met.S.Store.images_tell (with_written c.args.self.now c.args.origin.now c.args.event.now) c.args.self.now c.args.store.now

pub put-requires-clause-frame : goal.put-requires-clause-frame
put-requires-clause-frame g c =
    let o = c.args.origin.now in
    let e = c.args.event.now in
    let is = framed o e c.end-number.result (end_of c.args.self.now.top) c.new-frame.result.items c.as_slice.result.now c.new-frame.ensures.items (c.as_slice.ensures.value ∙ c.in_ok-frame_row.ensures.ok)
    (record { size = c.in_ok-frame_row.ensures.size; element = c.in_ok-frame_row.ensures.element }) (c.end-number.ensures ∙ ap (λ (x : QueueView). end_of x.top) c.self.view_is) in
    record { origin = o; event = e; is = is }

-- what was framed, and whether a page is needed for it
framed_here : (g : _) (c : goal.After-put g) → IsFrame (end_of c.args.self.now.top) c.args.origin.now c.args.event.now c.as_slice.result.now
framed_here g c =
    framed c.args.origin.now c.args.event.now c.end-number.result (end_of c.args.self.now.top) c.new-frame.result.items c.as_slice.result.now c.new-frame.ensures.items (c.as_slice.ensures.value ∙ c.in_ok-frame_row.ensures.ok)
    (record { size = c.in_ok-frame_row.ensures.size; element = c.in_ok-frame_row.ensures.element }) (c.end-number.ensures ∙ ap (λ (x : QueueView). end_of x.top) c.self.view_is)

needed : (g : _) (c : goal.After-put g) → c.needs_page-needed.result ≡ needs_page (frame_size c.args.origin.now c.args.event.now) c.args.self.now
needed g c = c.needs_page-needed.ensures.needed ∙ ap (λ (n : ℕ). needs_page n c.args.self.now) c.frame_size-size.ensures.size

keeps : (g : _) (c : goal.After-put g) → KeepsEither g.S.Store (with_written c.args.self.now c.args.origin.now c.args.event.now) c.args.self.now c.args.store.now c.put.new.store
keeps g c =
    let o = c.args.origin.now in
    let e = c.args.event.now in
    subst (λ (b : Bool). KeepsEither g.S.Store (written b c.args.self.now o e) c.args.self.now c.args.store.now c.put.new.store) (needed g c) (c.put.ensures.keeps o e (framed_here g c))

pub returns-in_err-put-clause-keeps : goal.returns-in_err-put-clause-keeps
returns-in_err-put-clause-keeps g c = keeps g (goal.at.returns-in_err-put-clause-keeps g c).After-put

pub returns-clause-keeps : goal.returns-clause-keeps
returns-clause-keeps g c = keeps g (goal.at.returns-clause-keeps g c).After-put

pub returns-clause-adds : goal.returns-clause-adds
returns-clause-adds g c =
    let o = c.args.origin.now in
    let e = c.args.event.now in
    let put = (goal.at.returns-clause-adds g c).After-put in
    subst (λ (b : Bool). Becomes g.S.Store (written b c.args.self.now o e) c.args.self.now c.put.new.self c.args.store.now c.put.new.store) (needed g put) (c.in_ok-put.ensures.adds o e (framed_here g put))

pub returns-then-is_spent_with-clause-beside : goal.returns-then-is_spent_with-clause-beside
returns-then-is_spent_with-clause-beside g c = (others_stay g.S.Store g.met.S.Store.images_tell (IsOwn (names_in c.args.self.now.folder)) c.args.store.now).reads

pub returns-then-is_spent_with-clause-beside_moments : goal.returns-then-is_spent_with-clause-beside_moments
returns-then-is_spent_with-clause-beside_moments g c = (others_stay g.S.Store g.met.S.Store.images_tell (IsOwn (names_in c.args.self.now.folder)) c.args.store.now).moments

pub returns-then-is_full-clause-beside : goal.returns-then-is_full-clause-beside
returns-then-is_full-clause-beside g c = (others_stay g.S.Store g.met.S.Store.images_tell (IsOwn (names_in c.args.self.now.folder)) c.args.store.now).reads

pub returns-then-is_full-clause-beside_moments : goal.returns-then-is_full-clause-beside_moments
returns-then-is_full-clause-beside_moments g c = (others_stay g.S.Store g.met.S.Store.images_tell (IsOwn (names_in c.args.self.now.folder)) c.args.store.now).moments

pub returns-in_err-frame_row-clause-beside : goal.returns-in_err-frame_row-clause-beside
returns-in_err-frame_row-clause-beside g c = (others_stay g.S.Store g.met.S.Store.images_tell (IsOwn (names_in c.args.self.now.folder)) c.args.store.now).reads

pub returns-in_err-frame_row-clause-beside_moments : goal.returns-in_err-frame_row-clause-beside_moments
returns-in_err-frame_row-clause-beside_moments g c = (others_stay g.S.Store g.met.S.Store.images_tell (IsOwn (names_in c.args.self.now.folder)) c.args.store.now).moments

pub returns-in_err-put-clause-beside : goal.returns-in_err-put-clause-beside
returns-in_err-put-clause-beside g c = c.put.ensures.beside.reads

pub returns-in_err-put-clause-beside_moments : goal.returns-in_err-put-clause-beside_moments
returns-in_err-put-clause-beside_moments g c = c.put.ensures.beside.moments

pub returns-clause-beside : goal.returns-clause-beside
returns-clause-beside g c = c.put.ensures.beside.reads

pub returns-clause-beside_moments : goal.returns-clause-beside_moments
returns-clause-beside_moments g c = c.put.ensures.beside.moments
