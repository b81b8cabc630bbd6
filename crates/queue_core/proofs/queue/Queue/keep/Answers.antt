use Rattle.std.proofs.Common.{◌≡◌, ◌⊎◌, ⊎_elim, inl, inr, ◌++◌, ◌∷◌, [], refl, ap, ◌∙◌, subst}
use Rattle.io_traits.specs.Reads.{bytes_of}
use Rattle.element_code.specs.declared.row.Origin.TheVariants.{Id}
use Rattle.queue_files.specs.Folders.{page, names_in}
use Rattle.queue_core.specs.Kept.{StandsIn}
use Rattle.queue_core.specs.Keeping.{kept_row, KeepsOne}
use Rattle.queue_core.specs.Opens.{IsOfFiles}
use Rattle.queue_core.specs.Views.{CursorView, QueueView}
use Rattle.queue_core.specs.declared.kept.KeptRow.{KeptRow}
use Rattle.queue_core.proofs.KeptLemmas.{held_files}
use Rattle.queue_core.proofs.queue.Queue.keep.Goals as goal

-- what a cursor keeps then
keeps_one : (v : QueueView) (cursor next : CursorView) (k : KeptRow) → cursor ≡ v.cursor → (next ≡ record cursor { kept = cursor.kept ++ k ∷ [] }) ⊎ (next ≡ cursor) → KeepsOne v.cursor.kept next.kept
keeps_one v cursor next k same either = ⊎_elim
    (λ (more : next ≡ record cursor { kept = cursor.kept ++ k ∷ [] }). inr (k, ap (λ (c : CursorView). c.kept) more ∙ ap (λ (c : CursorView). c.kept ++ k ∷ []) same))
    (λ (stays : next ≡ cursor). inl (ap (λ (c : CursorView). c.kept) (stays ∙ same)))
    either

pub returns-clause-kept : goal.returns-clause-kept
returns-clause-kept c = keeps_one c.args.self.now c.self.inside.cursor c.hold.new.self _ (ap (λ (v : QueueView). v.cursor) c.self.view_is) c.hold.ensures

pub returns-clause-stands : goal.returns-clause-stands
returns-clause-stands c = λ content files stands.
    let q = c.self.inside in
    let v : QueueView = record { folder = q.folder; limits = q.limits; tails = q.tails.items; top = q.top; unread = q.unread; cursor = q.cursor } in
    let k : KeptRow = record { page = c.number-page.result; place = c.args.place; row = record { number = c.args.number; origin = Id c.in-Ok.origin; event = c.args.event; next = c.length.result } } in
    let same : k ≡ kept_row v c.args.number c.args.place c.args.origin.now c.args.event =
    λ i. record { page = c.number-page.ensures i; place = c.args.place; row = record { number = c.args.number; origin = Id (c.in-Ok.ensures i); event = c.args.event; next = c.length.ensures i } } in
    subst (λ (x : QueueView). IsOfFiles x content → StandsIn x.top.page.version (bytes_of (content (names_in x.folder (page x.top.number)))) (kept_row x c.args.number c.args.place c.args.origin.now c.args.event) → IsOfFiles (record v { cursor = c.hold.new.self }) content) c.self.view_is
    (λ files stands. held_files v content c.hold.new.self k (kept_row v c.args.number c.args.place c.args.origin.now c.args.event) same c.hold.ensures refl stands files) files stands
