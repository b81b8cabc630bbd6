-- The queue of a folder that was opened is ready.
use Rattle.std.proofs.Common.{◌≡◌, ℕ, ◌<◌, ◌^◌, nat_lt, IsTrue, List, [], filter, Option, Some, Result, Ok, Err, IfOk, refl, sym, ◌∙◌, ap, subst, arith}
use Rattle.io_traits.specs.Folders.{Content}
use Rattle.io_traits.specs.Reads.{bytes_of}
use Rattle.io_traits.specs.Moments.{ImagesTell}
use Rattle.io_traits.specs.declared.stores.Store.{Ghosts as StoreWords}
use Rattle.io_traits.specs.declared.pages.PageState.{PageState}
use Rattle.slot_files.specs.Checkpoints.{FitsSlot, slots_of}
use Rattle.slot_files.specs.declared.checkpoint.Slots.{Slots}
use Rattle.queue_files.specs.Folders.{head, page, Folder, Names, AreApart}
use Rattle.queue_files.specs.Checkpoints.{told}
use Rattle.queue_files.specs.Steps.{first_queue}
use Rattle.queue_files.proofs.NewFolders.{new_is_empty}
use Rattle.queue_files.specs.Marks.{read_in}
use Rattle.queue_files.specs.Opened.{IsBegun}
use Rattle.queue_files.specs.Reading.{AreStanding, found_of, IsScanned}
use Rattle.queue_files.specs.Ready.{FirstReady}
use Rattle.queue_files.specs.Unread.{IsRead, StaysFound, LeavesTidy}
use Rattle.queue_files.specs.Queues.{IsNewest, ArePages, IsQueueOf, LeavesRead, OpensReady}
use Rattle.queue_files.specs.declared.listing.Listing.{Listing}
use Rattle.queue_files.specs.declared.opening.OpenedQueue.{OpenedQueue}
use Rattle.queue_files.specs.declared.scanned.Scanned.{Scanned}
use Rattle.queue_files.proofs.Keeping.{at_rest_rests}
use Rattle.queue_files.proofs.Openings.{found_here}
use Rattle.queue_files.proofs.QueueOpens.{opens_queue}
use Rattle.queue_files.proofs.Standings.{below_stand}

pub if_ok_so : {T E : Type 0} (P Q : T → Type 0) (result : Result T E) → IfOk result P → ((x : T) → P x → Q x) → IfOk result Q
if_ok_so P Q (Ok x) p so = so x p
if_ok_so P Q (Err e) p so = tt

pub if_ok_both : {T E : Type 0} (P Q R : T → Type 0) (result : Result T E) → IfOk result P → IfOk result Q → ((x : T) → P x → Q x → R x) → IfOk result R
if_ok_both P Q R (Ok x) p q so = so x p q
if_ok_both P Q R (Err e) p q so = tt

-- the newest slot that was read of a file
pub newest_of : (file : List ℕ) (slots : Slots) (turn : ℕ) (s : PageState) → slots ≡ slots_of file → slots.newest ≡ Some (turn, s) → FitsSlot turn s → IsNewest file turn s
newest_of file slots turn s are newest fits = record { fits = fits; is = ap (λ (x : Slots). x.newest) (sym are) ∙ newest }

module _ {S : Type 0} (store : StoreWords S) (tell : ImagesTell store) (names : Names) where
  abbrev pub now : S → Folder
  now s = read_in names (store.seen s)

  pub ready_pages : (l : Listing) (turn : ℕ) (s : PageState) (old mid new : S) (read : IsRead store names l s old) (go : StaysFound store names old mid) (tidy : LeavesTidy store names s old mid)
      → (IsTrue store.tells → IsNewest (bytes_of (store.seen old (names head))) turn s) → s.page < 2 ^ 32 → (numbers : List ℕ) → numbers ≡ filter (λ n. nat_lt n s.page) l.pages.items
      → (r : Scanned) → (IsTrue store.tells → IsScanned (now mid) s numbers r) → LeavesRead store names s r mid new → OpensReady store names (record { turn = turn; state = s; pages = r }) old new
  ready_pages l turn s old mid new read go tidy newest fits numbers are r scanned leaves told_is =
      let t = tidy.tidied told_is in
      let stand : AreStanding 0 s.page (now mid) numbers = subst (AreStanding 0 s.page (now mid)) (sym are)
      (below_stand s.page (now old) (now mid) l.pages.items (read.listed told_is).pages (λ n less. t.pages n (omega (arith, less))) (omega (arith, fits))) in
      let opens = opens_queue (now mid) (now new) turn s numbers r (scanned told_is) (ap told t.head_is ∙ read.tells told_is)
      (subst (λ (x : Option (List ℕ)). IsNewest (bytes_of x) turn s) (sym t.head_is) (newest told_is)) (leaves.newest told_is) stand (leaves.tail_bytes told_is) (leaves.top_bytes told_is)
      leaves.short (leaves.cut told_is) t.no_pages t.no_checkpoints in
      record {
        queue = opens.queue;
        is = record { tails = opens.tails; read = opens.read; top = opens.top; top_is = opens.top_is; marked = opens.marked; is_found = found_here store tell names l s old mid read go tidy fits told_is ∙ ap (found_of (now mid) s) (sym are) ∙ (scanned told_is).is_found ∙ ap Ok opens.rows_are };
        ready = record { is = opens.is; held = λ t. opens.held; images = λ t i left. at_rest_rests names opens.queue (store.seen new) opens.held i (leaves.rests i left) };
      }

  -- a new folder
  pub ready_first : (file slots : List ℕ) (o : OpenedQueue) (old new : S) → AreApart names → file ≡ names (page 0) → slots ≡ names head → IsBegun store names old → FirstReady store file slots old new → o.pages.tails.items ≡ []
      → o.turn ≡ 0 → o.state ≡ record { page = 0; first_open = 1; least = 1; count = 0; length = 1 } → o.pages.top ≡ record { version = 2; state = o.state } → OpensReady store names o old new
  ready_first file slots o old new apart file_is slots_are begun made none turn_is state_is top_is told_is = record {
    queue = first_queue;
    is = record {
      tails = subst (λ l. ArePages l o.pages.pages.items []) (sym none) refl;
      read = record { version = 2; rows = []; length = 1 };
      top = λ i. record { number = sym (ap (λ (x : PageState). x.page) state_is) i; version = 2; least = sym (ap (λ (x : PageState). x.least) state_is) i; rows = []; acknowledged = []; from = sym (ap (λ (x : PageState). x.first_open) state_is) i; turn = sym turn_is i };
      top_is = top_is ∙ (λ i. record { version = 2; state = record { page = o.state.page; first_open = o.state.first_open; least = o.state.least; count = ap (λ (x : PageState). x.count) state_is i; length = ap (λ (x : PageState). x.length) state_is i } });
      marked = sym (ap (λ (x : PageState). x.count) state_is);
      is_found = new_is_empty (now old) (begun.is told_is);
    };
    ready = made names apart (record { is = begun.is; rests = begun.rests; file_is = file_is; slots_are = slots_are });
  }

  -- what reads gave before is what they give
  pub ready_from : (o : OpenedQueue) (old s2 new : S) → (IsTrue store.tells → store.seen s2 ≡ store.seen old) → OpensReady store names o s2 new → OpensReady store names o old new
  ready_from o old s2 new same opens told_is =
      let q = opens told_is in
      record { queue = q.queue; is = subst (λ (c : Content). IsQueueOf (read_in names c) o q.queue) (same told_is) q.is; ready = q.ready }
