-- A folder that is read and stays as it is.
use Rattle.std.proofs.Common.{◌≡◌, ◌<◌, ◌^◌, ◌+◌, nat_lt, true, ℕ, List, filter, Ok, refl, sym, ◌∙◌, ap, subst, arith}
use Rattle.io_traits.specs.Reads.{bytes_of}
use Rattle.io_traits.specs.declared.queue_faults.QueueFault.{QueueFault}
use Rattle.io_traits.specs.declared.pages.PageState.{PageState}
use Rattle.queue_files.specs.Checkpoints.{told}
use Rattle.queue_files.specs.Folders.{head, Folder, Names}
use Rattle.queue_files.specs.Found.{found, is_new, nothing_found}
use Rattle.queue_files.proofs.NewFolders.{new_is_empty}
use Rattle.queue_page.specs.Views.{PageView}
use Rattle.queue_files.specs.Collected.{IsLost}
use Rattle.queue_files.specs.Known.{IsFirst, IsReadOf}
use Rattle.queue_files.specs.Listing.{IsListed}
use Rattle.queue_files.specs.Opened.{IsOpened}
use Rattle.queue_files.specs.Queues.{AreNewest, IsNewest}
use Rattle.queue_files.specs.Reading.{AreStanding, IsScanned, found_of}
use Rattle.queue_files.specs.declared.listing.Listing.{Listing}
use Rattle.queue_files.specs.declared.opening.OpenedQueue.{OpenedQueue}
use Rattle.queue_files.specs.declared.scanned.Scanned.{Scanned}
use Rattle.queue_files.proofs.QueueOpens.{listed}
use Rattle.queue_files.proofs.StandingPages.{pages_are_found}
use Rattle.queue_files.proofs.Standings.{below_stand}

module _ (f : Folder) (l : Listing) (s : PageState) (is_listed : IsListed f l) (tells : told (f head) ≡ Ok s) (fits : s.page < 2 ^ 32) (numbers : List ℕ) (are : numbers ≡ filter (λ n. nat_lt n s.page) l.pages.items) where
  stand : AreStanding 0 s.page f numbers
  stand = subst (AreStanding 0 s.page f) (sym are) (below_stand s.page f f l.pages.items is_listed.pages (λ n less. refl) (omega (arith, fits)))

  found_here : found f ≡ found_of f s numbers
  found_here = pages_are_found f s numbers tells stand

  pub sees_lost : (names : Names) (lost : QueueFault) → IsLost names lost (found_of f s numbers) → IsLost names lost (found f)
  sees_lost names lost is = subst (IsLost names lost) (sym found_here) is

  module _ (turn : ℕ) (r : Scanned) (scanned : IsScanned f s numbers r) where
    pub sees_rows : IsOpened f (record { turn = turn; state = s; pages = r })
    sees_rows = record { rows = scanned.rows; is_found = found_here ∙ scanned.is_found; next = scanned.next }

    pub sees_all : IsNewest (bytes_of (f head)) turn s → AreNewest f r.tails.items → IsReadOf f (record { turn = turn; state = s; pages = r })
    sees_all newest tails_newest =
        let numbers_are = sym (listed f numbers r.tails.items scanned.tails).numbers_are in
        record {
          tells = tells;
          head_is = newest;
          standing = subst (AreStanding 0 s.page f) numbers_are stand;
          newest = tails_newest;
          scanned = subst (λ ns. IsScanned f s ns r) numbers_are scanned;
        }

-- a new folder
pub first_seen : (f : Folder) (o : OpenedQueue) → IsFirst o → is_new f ≡ true → IsOpened f o
first_seen f o first new = record {
  rows = nothing_found;
  is_found = new_is_empty f new;
  next = sym (ap (λ (v : PageView). v.state.least + v.state.count) first.top ∙ ap (λ (s : PageState). s.least + s.count) first.state);
}
