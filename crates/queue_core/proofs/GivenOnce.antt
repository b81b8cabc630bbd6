-- Each row of a queue is given once, in the order of the numbers: call by call, and over whole runs.
use Rattle.std.proofs.Common.{◌≡◌, ◌↔◌, ◌⊎◌, inl, inr, ⊎_elim, ℕ, suc, ◌≤◌, ◌==◌, Bool, true, false, if◌then◌else◌, IsTrue, List, [], ◌∷◌, ◌++◌, length, map, slice_get, Option, None, Result, Ok, refl, sym, ap, ◌∙◌, subst, arith, append_assoc, append-nil}
use Rattle.io_traits.specs.Calls.{ChangesNothing}
use Rattle.io_traits.specs.declared.stores.Store.{Ghosts as StoreWords}
use Rattle.io_traits.specs.declared.queue_faults.Damage.{Damage}
use Rattle.event_tree.specs.Events.{Ev}
use Rattle.io_traits.specs.Folders.{Content}
use Rattle.queue_page.specs.Elements.{and_then}
use Rattle.queue_page.specs.declared.row.PageRow.{PageRow}
use Rattle.queue_files.specs.Found.{Row}
use Rattle.queue_files.specs.Kept.{Queue, all_rows}
use Rattle.queue_files.specs.Steps.{marked}
use Rattle.queue_files.specs.declared.opening.OpenedQueue.{OpenedQueue}
use Rattle.queue_core.specs.Acknowledging.{acknowledged}
use Rattle.queue_core.specs.Calls.{behind_acknowledge, behind_mark, behind_purge, end_of, with_marked, with_recorded, without_spent}
use Rattle.queue_core.specs.GivenOnce.{AreBehind, AreOf, AreOpen, AreRising, Calls, GivesNext, IsBatch, IsGiven, IsOf, RowsAreGivenOnce, StillGives, is_acknowledged, with_batch, acknowledge, mark, no_batch, no_call, purge, take_batch, write, write_and_keep}
use Rattle.queue_core.specs.Keeping.{KeepsOne, with_kept}
use Rattle.queue_core.specs.Opening.{cursor_at, first_of, queue_opened, OpensAs}
use Rattle.queue_core.specs.Opens.{Becomes, IsAmong, purged}
use Rattle.queue_core.specs.QueueBatches.{AreNamed, AreUnread, CursorStands, page_rows}
use Rattle.queue_core.specs.Taking.{Stand, all_pages, batch_from, batch_of, begun, behind_take, event_of, number_of, pages_read, rows_taken, taken_of, HasSameNext, with_held}
use Rattle.queue_core.specs.Unread.{told}
use Rattle.queue_core.specs.UnreadRows.{AreGiven, next_row}
use Rattle.queue_core.specs.Views.{CursorView, OpenPageView, QueueView}
use Rattle.queue_core.specs.Writing.{behind_append, behind_write, frame_size, made_ready, needs_page, next_top, sealed, with_open_row, with_written}
use Rattle.queue_core.specs.declared.batch.Batch.{Batch}
use Rattle.queue_core.specs.declared.kept.KeptRow.{KeptRow}
use Rattle.queue_core.specs.declared.limits.Limits.{Limits}
use Rattle.queue_core.specs.declared.limits.Numbers.{Numbers}
use Rattle.queue_core.specs.declared.page_rows.QueueRow.{QueueRow}
use Rattle.queue_core.specs.declared.page_rows.BatchReader.{BatchReader}
use Rattle.queue_core.proofs.KeptLemmas.{opens_fewer}
use Rattle.queue_core.proofs.KeptWrites.{write_keeps}
use Rattle.queue_core.proofs.OpenRows.{fresh_open, one_more_open, open_acknowledged, open_by, open_given, open_rest, tails_fresh, unset_behind, unset_marked, unset_page, unset_row, unset_spent, unset_with}
use Rattle.queue_core.proofs.PageNumbers.{ok_same}
use Rattle.queue_core.proofs.QueueBatch.{Takes, none_left, takes}
use Rattle.queue_core.proofs.RisingRows.{less_from, reads_among, rise_next, rise_rest, rise_then}
use Rattle.queue_core.proofs.UnreadCalls.{mark_leaves_unread, purge_leaves_unread, written_comes_last}
use Rattle.queue_core.proofs.UnreadRows.{acknowledged_leaves_unread, is_read, opened_rows_are_unread}

-- ---- a batch as rows

-- of one more batch, or none
one_more : (given : List Batch) (front rows : List Row) (batch : Batch) → AreOf given front → IsOf batch rows → AreOf (given ++ batch ∷ []) (front ++ rows)
one_more [] front rows batch are is = (rows, [], ap (λ (l : List Row). l ++ rows) are ∙ sym (append-nil rows), is, refl)
one_more (b ∷ given) front rows batch are is =
    (are.0, are.1 ++ rows, ap (λ (l : List Row). l ++ rows) are.2 ∙ append_assoc are.0 are.1 rows, are.3, one_more given are.1 rows batch are.4 is)

of_first : (given : List Batch) (front : List Row) (r : BatchReader) (rows : List QueueRow) → r.rows ≡ rows → AreOf given front → AreOf (with_batch given (batch_from r (slice_get rows 0))) (front ++ map told rows)
of_first given front r [] is are = subst (AreOf given) (sym (append-nil front)) are
of_first given front r (x ∷ rows) is are = one_more given front (map told (x ∷ rows)) (record { numbers = record { first = x.number; behind = r.number }; rows = map number_of r.rows; events = map event_of r.rows }) are (record {
  numbers = ap (map number_of) is ∙ numbers_told (x ∷ rows);
  events = ap (map event_of) is ∙ events_told (x ∷ rows);
})
  where
    numbers_told : (rows : List QueueRow) → map number_of rows ≡ map (λ (row : Row). row.number) (map told rows)
    numbers_told [] = refl
    numbers_told (x ∷ rows) = ap (λ l. x.number ∷ l) (numbers_told rows)

    events_told : (rows : List QueueRow) → map event_of rows ≡ map (λ (row : Row). row.event) (map told rows)
    events_told [] = refl
    events_told (x ∷ rows) = ap (λ l. x.event ∷ l) (events_told rows)

batch_is_of : (given : List Batch) (front : List Row) (r : BatchReader) → AreOf given front → AreOf (with_batch given (batch_of r)) (front ++ map told r.rows)
batch_is_of given front r are = of_first given front r r.rows refl are

-- ---- rows that are behind batches

behind_more : (given : List Batch) (batch : Batch) (rows : List Row) (end : ℕ) → AreBehind given rows end → AreRising batch.numbers.behind rows end → AreBehind (given ++ batch ∷ []) rows end
behind_more [] batch rows end behind rise = (rise, tt)
behind_more (b ∷ given) batch rows end behind rise = (behind.0, behind_more given batch rows end behind.1 rise)

-- the row behind a batch has the number of the next one
behind_first : (given : List Batch) (r : BatchReader) (read : List QueueRow) (rows : List Row) (end : ℕ) → AreBehind given rows end → AreRising r.number rows end → AreBehind (with_batch given (batch_from r (slice_get read 0))) rows end
behind_first given r [] rows end behind rise = behind
behind_first given r (x ∷ read) rows end behind rise =
    behind_more given (record { numbers = record { first = x.number; behind = r.number }; rows = map number_of r.rows; events = map event_of r.rows }) rows end behind rise

behind_rest : (given : List Batch) (front rest : List Row) (end : ℕ) → AreBehind given (front ++ rest) end → AreBehind given rest end
behind_rest [] front rest end behind = tt
behind_rest (b ∷ given) front rest end behind = (rise_rest b.numbers.behind front rest end behind.0, behind_rest given front rest end behind.1)

behind_row : (given : List Batch) (rows : List Row) (row : Row) (last end : ℕ) → AreBehind given rows last → row.number ≡ last → suc last ≤ end → AreBehind given (rows ++ row ∷ []) end
behind_row [] rows row last end behind here more = tt
behind_row (b ∷ given) rows row last end behind here more = (
  rise_then b.numbers.behind rows last (row ∷ []) end behind.0 (omega (arith, here), omega (arith, here, more)),
  behind_row given rows row last end behind.1 here more,
)

behind_one : (given : List Batch) (batch : Batch) (rows : List Row) (end : ℕ) → AreBehind given rows end → IsGiven batch given → AreRising batch.numbers.behind rows end
behind_one [] batch rows end behind is = elim is [ ]
behind_one (b ∷ given) batch rows end behind (inl same) = subst (λ (x : Batch). AreRising x.numbers.behind rows end) (sym same) behind.0
behind_one (b ∷ given) batch rows end behind (inr is) = behind_one given batch rows end behind.1 is

no_row : (r : BatchReader) (rows : List QueueRow) (rest : List Row) → map told rows ++ rest ≡ [] → batch_from r (slice_get rows 0) ≡ None
no_row r [] rest none = refl
no_row r (x ∷ rows) rest none = absurd (omega (arith, ap length none))

first_among : (tails : List OpenPageView) (top : OpenPageView) → IsAmong (cursor_at (first_of tails top)).page (tails ++ top ∷ [])
first_among [] top = inl refl
first_among (o ∷ tails) top = inl refl

ok_pair : {x y : Option Batch × QueueView} → ◌≡◌ {A = Result (Option Batch × QueueView) Damage} (Ok x) (Ok y) → x ≡ y
ok_pair is = cc

-- the next row stands where it stood, whatever was read last and is kept
held_stands : (content : Content) (c held : CursorView) (pages : List OpenPageView) (rows : List (List PageRow)) → CursorStands content c pages rows → CursorStands content (record c { block = held.block; kept = held.kept }) pages rows
held_stands content c held [] rows stands = tt
held_stands content c held (o ∷ pages) [] stands = tt
held_stands content c held (o ∷ pages) (rows ∷ others) stands = (stands.0, held_stands content c held pages others stands.1)

module _ (most : ℕ) (content : Content) (v : QueueView) where
  -- a reading ends where the next row was, or in a page of the queue
  taken_by : (s : Stand) (b : Bool) → ◌≡◌ {A = Result Stand Damage} (if b then Ok (begun most v.cursor) else pages_read content (all_pages v) (begun most v.cursor)) (Ok s) → (s ≡ begun most v.cursor) ⊎ IsAmong s.page (all_pages v)
  taken_by s true is = inl (sym (ok_same is))
  taken_by s false is = reads_among content (all_pages v) (begun most v.cursor) s is

  taken_among : (s : Stand) → rows_taken most content v ≡ Ok s → (s ≡ begun most v.cursor) ⊎ IsAmong s.page (all_pages v)
  taken_among s is = taken_by s (v.unread == 0) is

module _ {S : Type 0} (store : StoreWords S) where
  -- ---- an opening

  opened_gives : (folder : List ℕ) (limits : Limits) (o : OpenedQueue) (old new : S) → IsTrue store.tells → (made : OpensAs store (queue_opened folder limits o) o old new)
      → GivesNext store (queue_opened folder limits o) made.queue (all_rows made.queue.tails made.queue.top) new
  opened_gives folder limits o old new tells made =
      let v = queue_opened folder limits o in
      let q = made.queue in
      let is = made.opens.ready.is in
      let law = opened_rows_are_unread store in
      let has = law.opened folder limits o old new tells made in
      record {
        unread = has;
        still = fresh_open 0 0 v.tails v.top q.tails q.top made.opens.tails made.opens.top is (tails_fresh folder o.pages.tails.items o.pages.pages.items) refl;
        rise = subst (λ (l : List Row). AreRising v.cursor.number l (end_of v.top)) has.unread.rows_are
            (rise_next (store.seen new) v.cursor 0 0 v.tails v.top q.tails q.top made.opens.tails made.opens.top is has.unread.stands (first_among v.tails v.top));
      }

  module _ (v : QueueView) (q : Queue) (rows : List Row) (old : S) (tells : IsTrue store.tells) (g : GivesNext store v q rows old) where
    all_given : AreGiven v.cursor (all_pages v)
    all_given = open_given (store.seen old) v.cursor 0 0 v.tails v.top q.tails q.top g.unread.opens.tails g.unread.opens.top g.unread.opens.ready.is g.unread.unread.stands (subst (AreOpen (all_pages v)) (sym g.unread.unread.rows_are) g.still)

    -- ---- calls that give no row

    acknowledged_gives : (numbers : Numbers) → AreRising numbers.behind rows (end_of v.top) → GivesNext store (behind_acknowledge numbers v) (acknowledged numbers q) rows old
    acknowledged_gives numbers behind = record {
      unread = acknowledged_leaves_unread store v q rows numbers old g.unread;
      still = open_acknowledged numbers v.tails v.top numbers.behind rows (end_of v.top) (omega arith) behind g.still;
      rise = g.rise;
    }

    marked_gives : (new : S) → Becomes store marked v (behind_mark v) old new → GivesNext store (behind_mark v) (marked q) rows new
    marked_gives new becomes = record {
      unread = mark_leaves_unread store v q rows old new tells becomes all_given g.unread;
      still = open_by (all_pages v) (all_pages (behind_mark v)) rows (λ n. unset_with n v.tails (map with_marked v.tails) v.top (with_recorded v.top) (λ front. unset_marked n v.tails ∙ front) (λ here. here)) g.still;
      rise = g.rise;
    }

    purged_gives : (new : S) → Becomes store purged v (behind_purge v) old new → GivesNext store (behind_purge v) (purged q) rows new
    purged_gives new becomes = record {
      unread = purge_leaves_unread store v q rows old new tells becomes g.unread;
      still = open_by (all_pages v) (all_pages (behind_purge v)) rows (λ n. unset_with n v.tails (without_spent v.tails) v.top v.top (unset_spent n v.tails) (λ here. here)) g.still;
      rise = g.rise;
    }

    -- ---- a row that is written

    unset_written : (n size : ℕ) (needed : Bool) → is_acknowledged (all_pages v) n ≡ false → is_acknowledged (all_pages (behind_append size (made_ready needed v))) n ≡ false
    unset_written n size true none =
        unset_page n (map with_marked v.tails ++ sealed (with_recorded v.top) ∷ []) (with_open_row size (next_top v.folder (with_recorded v.top))) refl
        (unset_with n v.tails (map with_marked v.tails) v.top (sealed (with_recorded v.top)) (λ front. unset_marked n v.tails ∙ front) (λ here. here) none)
    unset_written n size false none = unset_with n v.tails v.tails v.top (with_open_row size v.top) (λ front. front) (unset_row n size v.top) none

    rise_written : (row : Row) (size : ℕ) (needed : Bool) → row.number ≡ end_of v.top
        → AreRising (behind_append size (made_ready needed v)).cursor.number (rows ++ row ∷ []) (end_of (behind_append size (made_ready needed v)).top)
    rise_written row size true last = rise_then v.cursor.number rows (end_of v.top) (row ∷ []) (end_of (behind_append size (made_ready true v)).top) g.rise (omega (arith, last), omega (arith, last))
    rise_written row size false last = rise_then v.cursor.number rows (end_of v.top) (row ∷ []) (end_of (behind_append size (made_ready false v)).top) g.rise (omega (arith, last), omega (arith, last))

    written_gives : (origin : List ℕ) (event : Ev) (new : S) → Becomes store (with_written v origin event) v (behind_write (frame_size origin event) v) old new
        → GivesNext store (behind_write (frame_size origin event) v) (with_written v origin event q) (rows ++ next_row v origin event ∷ []) new
    written_gives origin event new becomes =
        let size = frame_size origin event in
        let opens = g.unread.opens in
        let last = unset_behind (end_of v.top) 0 0 v.tails v.top q.tails q.top opens.tails opens.top opens.ready.is (omega arith) in
        record {
          unread = written_comes_last store v q rows origin event old new tells becomes (λ needed. all_given) g.unread;
          still = open_by (all_pages v) (all_pages (behind_write size v)) (rows ++ next_row v origin event ∷ []) (λ n. unset_written n size (needs_page size v)) (one_more_open (all_pages v) rows (next_row v origin event) g.still last);
          rise = rise_written (next_row v origin event) size (needs_page size v) refl;
        }

    kept_gives : (origin : List ℕ) (event : Ev) (kept : List KeptRow) (new : S) → Becomes store (with_written v origin event) v (with_kept kept (behind_write (frame_size origin event) v)) old new → KeepsOne v.cursor.kept kept
        → GivesNext store (with_kept kept (behind_write (frame_size origin event) v)) (with_written v origin event q) (rows ++ next_row v origin event ∷ []) new
    kept_gives origin event kept new becomes one =
        let size = frame_size origin event in
        let w = behind_write size v in
        let same : KeepsOne w.cursor.kept kept = subst (λ (l : List KeptRow). KeepsOne l kept) (sym (write_keeps size v)) one in
        let plain : Becomes store (with_written v origin event) v w old new = λ r opens. opens_fewer store w (with_written v origin event r) new kept same (becomes r opens) in
        let next = written_gives origin event new plain in
        record {
          unread = record {
            opens = becomes q g.unread.opens;
            named = next.unread.named;
            unread = record { stands = held_stands (store.seen new) w.cursor (record w.cursor { kept = kept }) (all_pages w) (page_rows (with_written v origin event q)) next.unread.unread.stands; rows_are = next.unread.unread.rows_are; count = next.unread.unread.count };
          };
          still = next.still;
          rise = next.rise;
        }

    -- ---- a batch

    module _ (most : ℕ) (batch : Option Batch) (next : QueueView) (is : IsBatch most (store.seen old) v batch next) where
      got : Takes most (store.seen old) v q rows (is_read store v q old tells g.unread.opens g.unread.named) g.unread.unread
      got = takes most (store.seen old) v q rows (is_read store v q old tells g.unread.opens g.unread.named) g.unread.unread

      abbrev after : QueueView
      after = behind_take next.cursor got.s v

      pair_is : ◌≡◌ {A = Option Batch × QueueView} (batch_of got.s.reading, behind_take next.cursor got.s v) (batch, next)
      pair_is = ok_pair (sym (ap (λ (r : Result Stand Damage). and_then r (taken_of next.cursor v)) got.is) ∙ is)

      batch_is : batch_of got.s.reading ≡ batch
      batch_is = ap (λ (x : Option Batch × QueueView). x.0) pair_is

      next_is : after ≡ next
      next_is = ap (λ (x : Option Batch × QueueView). x.1) pair_is

      rise_after : AreRising after.cursor.number got.rest (end_of after.top)
      rise_after = ⊎_elim
          (λ (same : got.s ≡ begun most v.cursor).
          let all : got.rest ≡ rows = ap (λ (x : Stand). map told x.reading.rows ++ got.rest) (sym same) ∙ got.all in
          subst (λ (x : Stand). AreRising x.reading.number got.rest (end_of v.top)) (sym same) (subst (λ (l : List Row). AreRising v.cursor.number l (end_of v.top)) (sym all) g.rise))
          (λ (among : IsAmong got.s.page (all_pages v)).
          let opens = g.unread.opens in
          let left = got.left next.cursor in
          subst (λ (l : List Row). AreRising after.cursor.number l (end_of v.top)) left.rows_are
          (rise_next (store.seen old) after.cursor 0 0 v.tails v.top q.tails q.top opens.tails opens.top opens.ready.is left.stands among))
          (taken_among most (store.seen old) v got.s got.is)

      taken_of_rows : (given : List Batch) (front : List Row) → AreOf given front → AreOf (with_batch given batch) (front ++ map told got.s.reading.rows)
      taken_of_rows given front are = subst (λ (b : Option Batch). AreOf (with_batch given b) (front ++ map told got.s.reading.rows)) batch_is (batch_is_of given front got.s.reading are)

      taken_gives : (new : S) → ChangesNothing store.tells store.seen store.moment store.may_leave old new → Becomes store (λ q. q) v next old new → GivesNext store next q got.rest new
      taken_gives new same becomes = record {
        unread = record {
          opens = becomes q g.unread.opens;
          named = subst (λ (x : QueueView). AreNamed x.folder (all_pages x)) next_is g.unread.named;
          unread = subst (λ (x : QueueView). AreUnread (store.seen new) x q got.rest) next_is (subst (λ (c : Content). AreUnread c after q got.rest) (sym (same.reads tells)) (got.left next.cursor));
        };
        still = subst (λ (x : QueueView). AreOpen (all_pages x) got.rest) next_is (open_rest (all_pages v) (map told got.s.reading.rows) got.rest (subst (AreOpen (all_pages v)) (sym got.all) g.still));
        rise = subst (λ (x : QueueView). AreRising x.cursor.number got.rest (end_of x.top)) next_is rise_after;
      }

      same_end : end_of next.top ≡ end_of v.top
      same_end = ap (λ (x : QueueView). end_of x.top) (sym next_is)

      behind_taken : (given : List Batch) → AreBehind given rows (end_of v.top) → AreBehind (with_batch given batch) got.rest (end_of next.top)
      behind_taken given behind =
          let rest = behind_rest given (map told got.s.reading.rows) got.rest (end_of v.top) (subst (λ (l : List Row). AreBehind given l (end_of v.top)) (sym got.all) behind) in
          subst (λ n. AreBehind (with_batch given batch) got.rest n) (sym same_end)
          (subst (λ (b : Option Batch). AreBehind (with_batch given b) got.rest (end_of v.top)) batch_is (behind_first given got.s.reading got.s.reading.rows got.rest (end_of v.top) rest rise_after))

      none_where_all_given : 1 ≤ most → (batch ≡ None) ↔ (rows ≡ [])
      none_where_all_given some = (
        λ none. none_left most (store.seen old) v q rows (is_read store v q old tells g.unread.opens g.unread.named) g.unread.unread got.s got.first some (batch_is ∙ none),
        λ none. sym batch_is ∙ no_row got.s.reading got.s.reading.rows got.rest (got.all ∙ none),
      )

    lost_gives : (next : QueueView) (new : S) → HasSameNext v next → ChangesNothing store.tells store.seen store.moment store.may_leave old new → Becomes store (λ q. q) v next old new → GivesNext store next q rows new
    lost_gives next new is same becomes =
        let held = next.cursor in
        let unread = g.unread.unread in
        let left : AreUnread (store.seen old) (with_held held v) q rows = record { stands = held_stands (store.seen old) v.cursor held (all_pages v) (page_rows q) unread.stands; rows_are = unread.rows_are; count = unread.count } in
        record {
          unread = record {
            opens = becomes q g.unread.opens;
            named = subst (λ (x : QueueView). AreNamed x.folder (all_pages x)) (sym is) g.unread.named;
            unread = subst (λ (x : QueueView). AreUnread (store.seen new) x q rows) (sym is) (subst (λ (c : Content). AreUnread c (with_held held v) q rows) (sym (same.reads tells)) left);
          };
          still = subst (λ (x : QueueView). AreOpen (all_pages x) rows) (sym is) g.still;
          rise = subst (λ (x : QueueView). AreRising x.cursor.number rows (end_of x.top)) (sym is) g.rise;
        }

  -- ---- whole runs

  module _ (v : QueueView) (q : Queue) (rows : List Row) (s : S) (tells : IsTrue store.tells) (g : GivesNext store v q rows s) where
    -- the last number grows by one
    grown_end : (w : QueueView) (size : ℕ) (needed : Bool) → suc (end_of w.top) ≤ end_of (behind_append size (made_ready needed w)).top
    grown_end w size true = omega arith
    grown_end w size false = omega arith

    calls_give : (given : List Batch) (written : List Row) (w : QueueView) (new : S) → Calls store v s given written w new → StillGives store given (rows ++ written) w new
    calls_give given written w new no_call = record {
      queue = q;
      rows = rows;
      next = g;
      front = [];
      are = refl;
      are_all = sym (append-nil rows);
      in_order = subst (λ (l : List Row). AreRising 0 l (end_of v.top)) (sym (append-nil rows)) (less_from v.cursor.number 0 rows (end_of v.top) (omega arith) g.rise);
      behind = tt;
    }
    calls_give given all w new (write {written = written} {w = before} {old = old} origin event calls becomes) =
        let i = calls_give given written before old calls in
        let row = next_row before origin event in
        let size = frame_size origin event in
        let grown = grown_end before size (needs_page size before) in
        record {
          queue = with_written before origin event i.queue;
          rows = i.rows ++ row ∷ [];
          next = written_gives before i.queue i.rows old tells i.next origin event new becomes;
          front = i.front;
          are = i.are;
          are_all = sym (append_assoc i.front i.rows (row ∷ [])) ∙ ap (λ (l : List Row). l ++ row ∷ []) i.are_all ∙ append_assoc rows written (row ∷ []);
          in_order = subst (λ (l : List Row). AreRising 0 l (end_of (behind_write size before).top)) (append_assoc rows written (row ∷ []))
              (rise_then 0 (rows ++ written) (end_of before.top) (row ∷ []) (end_of (behind_write size before).top) i.in_order (omega arith, grown));
          behind = behind_row given i.rows row (end_of before.top) (end_of (behind_write size before).top) i.behind refl grown;
        }
    calls_give given all w new (write_and_keep {written = written} {w = before} {old = old} origin event kept calls becomes one) =
        let i = calls_give given written before old calls in
        let row = next_row before origin event in
        let size = frame_size origin event in
        let grown = grown_end before size (needs_page size before) in
        record {
          queue = with_written before origin event i.queue;
          rows = i.rows ++ row ∷ [];
          next = kept_gives before i.queue i.rows old tells i.next origin event kept new becomes one;
          front = i.front;
          are = i.are;
          are_all = sym (append_assoc i.front i.rows (row ∷ [])) ∙ ap (λ (l : List Row). l ++ row ∷ []) i.are_all ∙ append_assoc rows written (row ∷ []);
          in_order = subst (λ (l : List Row). AreRising 0 l (end_of (behind_write size before).top)) (append_assoc rows written (row ∷ []))
              (rise_then 0 (rows ++ written) (end_of before.top) (row ∷ []) (end_of (behind_write size before).top) i.in_order (omega arith, grown));
          behind = behind_row given i.rows row (end_of before.top) (end_of (behind_write size before).top) i.behind refl grown;
        }
    calls_give all written w new (take_batch {given = given} {w = before} {old = old} most batch calls is same becomes) =
        let i = calls_give given written before old calls in
        let taken = got before i.queue i.rows old tells i.next most batch w is in
        let rest = taken.rest in
        record {
          queue = i.queue;
          rows = rest;
          next = taken_gives before i.queue i.rows old tells i.next most batch w is new same becomes;
          front = i.front ++ map told taken.s.reading.rows;
          are = taken_of_rows before i.queue i.rows old tells i.next most batch w is given i.front i.are;
          are_all = append_assoc i.front (map told taken.s.reading.rows) rest ∙ ap (λ (l : List Row). i.front ++ l) taken.all ∙ i.are_all;
          in_order = subst (λ n. AreRising 0 (rows ++ written) n) (sym (same_end before i.queue i.rows old tells i.next most batch w is)) i.in_order;
          behind = behind_taken before i.queue i.rows old tells i.next most batch w is given i.behind;
        }
    calls_give given written w new (no_batch {w = before} {old = old} calls is same becomes) =
        let i = calls_give given written before old calls in
        record {
          queue = i.queue;
          rows = i.rows;
          next = lost_gives before i.queue i.rows old tells i.next w new is same becomes;
          front = i.front;
          are = i.are;
          are_all = i.are_all;
          in_order = subst (λ (x : QueueView). AreRising 0 (rows ++ written) (end_of x.top)) (sym is) i.in_order;
          behind = subst (λ (x : QueueView). AreBehind given i.rows (end_of x.top)) (sym is) i.behind;
        }
    calls_give given written w new (acknowledge {w = before} batch calls is) =
        let i = calls_give given written before new calls in
        let rise = behind_one given batch i.rows (end_of before.top) i.behind is in
        record {
          queue = acknowledged batch.numbers i.queue;
          rows = i.rows;
          next = acknowledged_gives before i.queue i.rows new tells i.next batch.numbers rise;
          front = i.front;
          are = i.are;
          are_all = i.are_all;
          in_order = i.in_order;
          behind = i.behind;
        }
    calls_give given written w new (mark {w = before} {old = old} calls becomes) =
        let i = calls_give given written before old calls in
        record { queue = marked i.queue; rows = i.rows; next = marked_gives before i.queue i.rows old tells i.next new becomes; front = i.front; are = i.are; are_all = i.are_all; in_order = i.in_order; behind = i.behind }
    calls_give given written w new (purge {w = before} {old = old} calls becomes) =
        let i = calls_give given written before old calls in
        record { queue = purged i.queue; rows = i.rows; next = purged_gives before i.queue i.rows old tells i.next new becomes; front = i.front; are = i.are; are_all = i.are_all; in_order = i.in_order; behind = i.behind }

  pub rows_are_given_once : RowsAreGivenOnce store
  rows_are_given_once = record {
    opened = opened_gives;
    calls = calls_give;
    none = λ v q rows s tells g most batch next some is. none_where_all_given v q rows s tells g most batch next is some;
  }
