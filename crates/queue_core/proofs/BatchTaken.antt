-- What a call that takes a batch gives, and what it leaves of a queue.
use Rattle.std.proofs.Common.{◌≡◌, ⊎_elim, inl, inr, ℕ, ◌≤◌, ◌==◌, IsTrue, false, List, [], ◌∷◌, ◌++◌, length, map, Option, Ok, Err, refl, sym, ap, ◌∙◌, subst, arith, slice_get}
use Rattle.std.proofs.lemmas.Bool.{cond-false}
use Rattle.std.proofs.lemmas.List.{length-map}
use Rattle.io_traits.specs.Folders.{Content}
use Rattle.io_traits.specs.Reads.{bytes_of, file_length}
use Rattle.io_traits.specs.Calls.{ChangesNothing}
use Rattle.io_traits.specs.Images.{Image}
use Rattle.io_traits.specs.Moments.{ImagesTell, MayLeaveNow}
use Rattle.io_traits.specs.declared.stores.Store.{Ghosts as StoreWords}
use Rattle.io_traits.proofs.Moments.{weaker}
use Rattle.io_traits.specs.declared.queue_faults.QueueFault.{QueueFault}
use Rattle.io_traits.specs.declared.queue_faults.QueueFault.TheVariants as f
use Rattle.io_traits.proofs.Looking.{nothing_left}
use Rattle.queue_page.specs.Blocks.{IsPart}
use Rattle.queue_page.specs.Elements.{and_then}
use Rattle.queue_files.specs.Folders.{Names, page, folder_in, names_in}
use Rattle.queue_files.specs.Kept.{Queue, Kept}
use Rattle.queue_files.specs.Resting.{Held, Rests}
use Rattle.queue_files.proofs.Whole.{resting_is_kept}
use Rattle.queue_files.specs.Marks.{NoChances, read_in}
use Rattle.queue_files.specs.Ready.{Ready}
use Rattle.queue_files.specs.declared.marking.Mark.{Mark}
use Rattle.queue_core.specs.Batching.{Finds}
use Rattle.queue_core.specs.Calls.{IsHeldQueue}
use Rattle.queue_core.specs.Opens.{AreLong, HasPage, IsAmong, IsOfFiles, KeepsQueue, Opens}
use Rattle.queue_core.specs.Taking.{Stand, begun, pages_read, rows_taken, batch_from, batch_of, number_of, rows_in, all_pages, with_held, behind_take, taken_of, IsThere, AreThere, KeptIn, WasRead}
use Rattle.queue_core.specs.Kept.{AreKept}
use Rattle.queue_core.specs.Views.{OpenPageView, CursorView, QueueView}
use Rattle.queue_core.specs.declared.batch.Batch.{Batch}
use Rattle.queue_core.specs.declared.kept.KeptRow.{KeptRow}
use Rattle.queue_core.specs.declared.page_rows.QueueRow.{QueueRow}
use Rattle.queue_core.specs.declared.page_rows.BatchReader.{BatchReader}

-- ---- the batch

rows_from : (r : BatchReader) (rows : List QueueRow) → r.rows ≡ rows → rows_in (batch_from r (slice_get rows 0)) ≡ length rows
rows_from r [] is = refl
rows_from r (x ∷ rows) is = length-map r.rows number_of ∙ ap (λ (l : List QueueRow). length l) is

pub rows_in_batch : (r : BatchReader) → rows_in (batch_of r) ≡ length r.rows
rows_in_batch r = rows_from r r.rows refl

module _ (most : ℕ) (content : Content) (v : QueueView) (some : (v.unread == 0) ≡ false) where
  read_of : rows_taken most content v ≡ pages_read content (all_pages v) (begun most v.cursor)
  read_of = cond-false _ _ _ some

  pub batch_taken : (s : Stand) (held : CursorView) (batch : Option Batch) (now : QueueView) → pages_read content (all_pages v) (begun most v.cursor) ≡ Ok s → batch ≡ batch_of s.reading → behind_take held s v ≡ now
      → and_then (rows_taken most content v) (taken_of held v) ≡ Ok (batch, now)
  batch_taken s held batch now read is left = ap (λ q. and_then q (taken_of held v)) (read_of ∙ read) ∙ (λ i. Ok (sym is i, left i))

  pub batch_lost : {X Y : Type 0} (view : X → Stand) (whole : Y → Option Batch × QueueView) (fault : QueueFault) (held : CursorView) → Finds view (Err fault) (pages_read content (all_pages v) (begun most v.cursor))
      → Finds whole (Err fault) (and_then (rows_taken most content v) (taken_of held v))
  batch_lost view whole (f.Damaged d) held lost = ap (λ q. and_then q (taken_of held v)) (read_of ∙ lost)
  batch_lost view whole f.Fault held lost = tt
  batch_lost view whole f.Memory held lost = tt

-- ---- the files

abbrev first_of : List (List ℕ) → List ℕ
first_of [] = []
first_of (name ∷ names) = name

abbrev others_of : List (List ℕ) → List (List ℕ)
others_of [] = []
others_of (name ∷ names) = names

module _ (folder : List ℕ) (content : Content) (cursor : CursorView) where
  one_there : (o : OpenPageView) → o.file ≡ names_in folder (page o.number) → o.page.state.length ≤ file_length (content (names_in folder (page o.number)))
      → (cursor.page ≡ o.number → IsPart (bytes_of (content (names_in folder (page cursor.page)))) cursor.block) → IsThere (λ n. names_in folder (page n)) content cursor.page cursor.block o
  one_there o file long part = record {
    file = file;
    long = subst (λ (name : List ℕ). o.page.state.length ≤ file_length (content name)) (sym file) long;
    part = λ is. subst (λ (name : List ℕ). IsPart (bytes_of (content name)) cursor.block) (ap (λ n. names_in folder (page n)) is ∙ sym file) (part is);
  }

  tails_there : (tails : List OpenPageView) (top : OpenPageView) → map (λ (o : OpenPageView). o.file) tails ≡ map (λ (o : OpenPageView). names_in folder (page o.number)) tails → AreLong folder tails content
      → (IsAmong cursor.page tails → IsPart (bytes_of (content (names_in folder (page cursor.page)))) cursor.block) → IsThere (λ n. names_in folder (page n)) content cursor.page cursor.block top
      → AreThere (λ n. names_in folder (page n)) content cursor.page cursor.block (tails ++ top ∷ [])
  tails_there [] top files long part last = (last, tt)
  tails_there (o ∷ tails) top files long part last =
      (one_there o (ap first_of files) long.0 (λ is. part (inl is)), tails_there tails top (ap others_of files) long.1 (λ among. part (inr among)) last)

pub all_there : (v : QueueView) (marks : List Mark) (bytes : ℕ) (content : Content) → IsHeldQueue v marks bytes → IsOfFiles v content
    → AreThere (λ n. names_in v.folder (page n)) content v.cursor.page v.cursor.block (all_pages v)
all_there v marks bytes content held files =
    tails_there v.folder content v.cursor v.tails v.top held.tails files.tails (λ among. files.part (inr among)) (one_there v.folder content v.cursor v.top held.top (omega (arith, files.top)) (λ is. files.part (inl is)))

-- the rows that are kept stand in the file of the head page, and those that are left of them
pub kept_there : (v : QueueView) (marks : List Mark) (bytes : ℕ) (content : Content) → IsHeldQueue v marks bytes → IsOfFiles v content → KeptIn v.top (bytes_of (content v.top.file)) v.cursor.kept
kept_there v marks bytes content held files =
    subst (λ (name : List ℕ). KeptIn v.top (bytes_of (content name)) v.cursor.kept) (sym held.top) (record { long = files.top; are = files.kept })

pub kept_left : (v : QueueView) (marks : List Mark) (bytes : ℕ) (content : Content) (left : List KeptRow) → IsHeldQueue v marks bytes → KeptIn v.top (bytes_of (content v.top.file)) left
    → AreKept v.top.number v.top.page.version (bytes_of (content (names_in v.folder (page v.top.number)))) left
kept_left v marks bytes content left held kept = subst (λ (name : List ℕ). AreKept v.top.number v.top.page.version (bytes_of (content name)) left) held.top kept.are

module _ (v : QueueView) (content : Content) where
  pub files_taken : (unread : ℕ) (cursor : CursorView) → WasRead (λ n. names_in v.folder (page n)) content v.cursor.page v.cursor.block cursor.page cursor.block → cursor.page ≤ v.top.number
      → AreKept v.top.number v.top.page.version (bytes_of (content (names_in v.folder (page v.top.number)))) cursor.kept → IsOfFiles v content → IsOfFiles (record v { unread = unread; cursor = cursor }) content
  files_taken unread cursor was within kept files = record {
    tails = files.tails;
    top = files.top;
    part = λ has. ⊎_elim
        (λ same. subst (IsPart (bytes_of (content (names_in v.folder (page cursor.page))))) (sym same.1)
        (subst (λ n. IsPart (bytes_of (content (names_in v.folder (page n)))) v.cursor.block) (sym same.0) (files.part (subst (λ n. HasPage n v) same.0 has))))
        (λ part. part)
        was.either;
    within = within;
    kept = kept;
  }

  pub files_lost : (held : CursorView) → ((file : List ℕ) → IsPart file v.cursor.block → IsPart file held.block)
      → AreKept v.top.number v.top.page.version (bytes_of (content (names_in v.folder (page v.top.number)))) held.kept → IsOfFiles v content → IsOfFiles (with_held held v) content
  files_lost held lost kept files = record {
    tails = files.tails;
    top = files.top;
    part = λ has. lost (bytes_of (content (names_in v.folder (page v.cursor.page)))) (files.part has);
    within = files.within;
    kept = kept;
  }

-- ---- the queue of the folder

module _ {S : Type 0} (store : StoreWords S) (old new : S) (same : ChangesNothing store.tells store.seen store.moment store.may_leave old new) where
  abbrev HeldRests : Names → Queue → Content → Type 0
  HeldRests names q content = (held : Held q (read_in names content)) × ((i : Image) → MayLeaveNow store new i → Rests q names (read_in names content) held i)

  ready_same : (names : Names) (q : Queue) → Ready store names q old → Ready store names q new
  ready_same names q ready =
      let carried : IsTrue store.tells → HeldRests names q (store.seen new) =
      λ told. subst (HeldRests names q) (sym (same.reads told)) (ready.held told, λ i left. ready.images told i (same.images i left)) in
      record {
        is = ready.is;
        held = λ told. (carried told).0;
        images = λ told i left. (carried told).1 i left;
      }

  pub keeps_taken : ImagesTell store → (v : QueueView) → KeepsQueue store v old new
  keeps_taken tell v q opens =
      let names = names_in v.folder in
      weaker store tell old new (MayLeaveNow store old) (λ i. NoChances names i → Kept q (folder_in names i)) (nothing_left store old new same)
      (λ i told left chances. resting_is_kept q names (read_in names (store.seen old)) i opens.ready.is (opens.ready.held told) (opens.ready.images told i left) (chances.elements (page q.top.number)))

  pub opens_taken : (v : QueueView) (unread : ℕ) (cursor : CursorView) → (IsTrue store.tells → (q : Queue) → Opens store v q old → IsOfFiles (record v { unread = unread; cursor = cursor }) (store.seen old))
      → (q : Queue) → Opens store v q old → Opens store (record v { unread = unread; cursor = cursor }) q new
  opens_taken v unread cursor files q opens = record {
    ready = ready_same (names_in v.folder) q opens.ready;
    tails = opens.tails;
    top = opens.top;
    files = λ told. subst (IsOfFiles (record v { unread = unread; cursor = cursor })) (sym (same.reads told)) (files told q opens);
  }
