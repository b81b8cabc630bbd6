-- A mark keeps its queue.
use Rattle.std.proofs.Common.{◌≡◌, ℕ, IsTrue, List, [], ◌∷◌, Result, Ok, Err, OnOk, refl, sym, ◌∙◌, ap, subst}
use Rattle.io_traits.specs.Folders.{Content}
use Rattle.io_traits.specs.Images.{Image, IsAtRest, at_rest}
use Rattle.io_traits.specs.Tails.{TailImage}
use Rattle.io_traits.specs.Moments.{EachMoment, ImagesTell}
use Rattle.io_traits.specs.declared.stores.Store.{Ghosts as StoreWords}
use Rattle.io_traits.proofs.Moments.{weaker}
use Rattle.io_traits.proofs.TailImages.{at_rest_tail}
use Rattle.queue_files.specs.Folders.{head, page, checkpoint, Folder, Names, folder_in}
use Rattle.queue_files.specs.Kept.{Page, Queue, NoTail, IsQueue, Kept}
use Rattle.queue_files.specs.Resting.{Held, TailsRest, Rests}
use Rattle.queue_files.specs.Steps.{marked}
use Rattle.queue_files.proofs.Whole.{resting_is_kept}
use Rattle.queue_files.proofs.FolderKeeping.{marked_keeps}
use Rattle.queue_files.specs.Writes.{writes_of, MayStop, before, writing, written, Settled}
use Rattle.queue_files.specs.Marks.{read_in, NoChances}
use Rattle.queue_files.specs.Ready.{MarkKeeps, MarkRecords}
use Rattle.queue_files.specs.declared.marking.Mark.{Mark}
use Rattle.queue_files.proofs.TornMarks.{marks_keep}
use Rattle.queue_files.proofs.WholeMarks.{marked_rising, marks_record}

-- what the queue speaks of is at rest
tails_rest : (names : Names) (folder : Folder) (i : Image) (tails : List Page) → ((n : ℕ) → (NoTail n tails → ⊥) → i (names (checkpoint n)) ≡ at_rest (folder (checkpoint n))) → TailsRest tails names folder i
tails_rest names folder i [] rest = tt
tails_rest names folder i (p ∷ tails) rest = (rest p.number (λ none. none.0 refl), tails_rest names folder i tails (λ n tail. rest n (λ none. tail none.1)))

pub files_rest : (names : Names) (q : Queue) (folder : Folder) (held : Held q folder) (i : Image) → i (names head) ≡ at_rest (folder head) → ((n : ℕ) → i (names (page n)) ≡ at_rest (folder (page n)))
    → ((n : ℕ) → (NoTail n q.tails → ⊥) → i (names (checkpoint n)) ≡ at_rest (folder (checkpoint n))) → Rests q names folder held i
files_rest names q folder held i at_head pages tails = record {
  top_slot = at_head;
  tails = tails_rest names folder i q.tails tails;
  pages = λ n other. pages n;
  top_page = subst (TailImage held.top.front held.top.tail) (sym (pages q.top.number ∙ ap at_rest held.top.stands)) (at_rest_tail held.top.front held.top.tail);
}

-- all files are, as reads give them
pub at_rest_rests : (names : Names) (q : Queue) (content : Content) (held : Held q (read_in names content)) (i : Image) → IsAtRest content i → Rests q names (read_in names content) held i
at_rest_rests names q content held i rests =
    files_rest names q (read_in names content) held i (rests (names head)) (λ n. rests (names (page n))) (λ n tail. rests (names (checkpoint n)))

module _ {S : Type 0} (store : StoreWords S) (tell : ImagesTell store) (marks : List Mark) (old new : S) where
  pub mark_keeps : EachMoment store old new (MayStop store old (writes_of marks)) → MarkKeeps store marks old new
  mark_keeps stops names q apart ready are = weaker store tell old new (MayStop store old (writes_of marks)) (λ i. NoChances names i → Kept q (folder_in names i)) stops
      (λ i told stop chances. kept i told chances stop)
    where
      kept : (i : Image) → IsTrue store.tells → NoChances names i → MayStop store old (writes_of marks) i → Kept q (folder_in names i)
      kept i told chances (before left) = resting_is_kept q names (read_in names (store.seen old)) i ready.is (ready.held told) (ready.images told i left) (chances.elements (page q.top.number))
      kept i told chances (writing d rests change) =
          marks_keep names q (read_in names (store.seen old)) marks d i apart ready.is (ready.held told) (are told) (λ role. rests (names role)) change chances
      kept i told chances (written content wrote rests) =
          let m = marks_record names q (store.seen old) content marks apart ready.is (ready.held told) (are told) wrote in
          marked_keeps q (folder_in names i) (ready.held told).top.marked
          (resting_is_kept (marked q) names (read_in names content) i m.0 m.1 (at_rest_rests names (marked q) content m.1 i rests) (chances.elements (page q.top.number)))

  pub mark_records : {A E : Type 0} (result : Result A E) → OnOk result (Settled store old (writes_of marks) new) → OnOk result (MarkRecords store marks old new)
  mark_records (Ok x) settled = λ names q apart ready are.
      let m : (told : IsTrue store.tells) → IsQueue (marked q) × Held (marked q) (read_in names (store.seen new)) = λ told. marks_record names q (store.seen old) (store.seen new) marks apart ready.is (ready.held told) (are told) (settled.wrote told) in
      record {
        is = marked_rising 0 0 q.tails q.top ready.is;
        held = λ told. (m told).1;
        images = λ told i left. at_rest_rests names (marked q) (store.seen new) (m told).1 i (settled.rests i left);
      }
  mark_records (Err e) settled = tt
